use Rattle.std.proofs.Common.{sym, subst, ap, arith, ◌∙◌}
use Rattle.tcl_frames.specs.Standing.{IsStanding, left}
use Rattle.tcl_frames.proofs.Standings.{popped, left_standing, more_calls}
use Rattle.tcl_frames.proofs.stack.Stack.pop.Goals as goal

pub invariant_of-self : goal.invariant_of-self
invariant_of-self c =
    let more = more_calls c.self.inside.calls.items c.self.inside.active c.args.self.now c.self.view_is c.requires in
    subst IsStanding (sym (popped c.self.inside.calls.items c.pop.new.self.items c.self.inside.active c.caller-self-inside.result _ c.in-Some.call (let e = c.self.inside.calls.ok.0 in omega (arith, e)) c.pop.ensures.rest c.caller-self-inside.ensures (sym c.in-Some.is ∙ c.pop.ensures.value c.in-Some.call (let e = c.self.inside.calls.ok.0 in omega (arith, e, more))) (omega (arith, more))))
    (left_standing _ more c.self.invariant)

pub returns : goal.returns
returns c =
    let more = more_calls c.self.inside.calls.items c.self.inside.active c.args.self.now c.self.view_is c.requires in
    popped c.self.inside.calls.items c.pop.new.self.items c.self.inside.active c.caller-self-inside.result _ c.in-Some.call (let e = c.self.inside.calls.ok.0 in omega (arith, e)) c.pop.ensures.rest c.caller-self-inside.ensures (sym c.in-Some.is ∙ c.pop.ensures.value c.in-Some.call (let e = c.self.inside.calls.ok.0 in omega (arith, e, more))) (omega (arith, more))
    ∙ ap left c.self.view_is
