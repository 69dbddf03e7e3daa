use Rattle.std.proofs.Common.{sym, subst, arith}
use Rattle.tcl_frames.specs.Standing.{IsStanding}
use Rattle.tcl_frames.proofs.Standings.{pushed, called_standing}
use Rattle.tcl_frames.proofs.stack.Stack.push.Goals as goal

pub invariant_of-self-2 : goal.invariant_of-self-2
invariant_of-self-2 c =
    subst IsStanding (sym (pushed c.self.inside.calls.items c.push.new.self.items c.self.inside.active c.level-level.result c.len.result c.args.self.now c.new.result c.self.view_is c.level-level.ensures c.new.ensures c.in_ok-push.ensures.items (let e = c.push.new.self.ok.0 in let l = c.len.ensures in omega (arith, e, l))))
    (called_standing _ c.self.invariant)
