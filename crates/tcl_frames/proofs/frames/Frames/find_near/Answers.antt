use Rattle.std.proofs.Common.{◌≡◌, Ok, Err, IfOk, IfErr, sym, ap, subst}
use Rattle.tcl_meaning.specs.Frames.{whole}
use Rattle.tcl_meaning.specs.Variables.{get, missing}
use Rattle.tcl_frames.specs.Places.{spot}
use Rattle.tcl_frames.specs.Standing.{store_of}
use Rattle.tcl_frames.proofs.Joined.{get_joined}
use Rattle.tcl_frames.proofs.frames.Frames.find_near.Goals as goal

pub returns-in-Some-clause-found : goal.returns-in-Some-clause-found
returns-in-Some-clause-found c cs =
    rw (get_joined c.self.inside.stack c.self.inside.variables c.args.self.now c.self.view_is c.self.invariant cs c.args.name.now (spot c.in-Some.frame c.args.name.now whole) c.in-Some.ensures.leads _ (sym (ap missing c.in-Some.ensures.whole)))
    c.find.ensures.found

pub returns-in-Some-clause-refused : goal.returns-in-Some-clause-refused
returns-in-Some-clause-refused c cs =
    rw (get_joined c.self.inside.stack c.self.inside.variables c.args.self.now c.self.view_is c.self.invariant cs c.args.name.now (spot c.in-Some.frame c.args.name.now whole) c.in-Some.ensures.leads _ (sym (ap missing c.in-Some.ensures.whole)))
    c.find.ensures.refused

pub returns-clause-found : goal.returns-clause-found
returns-clause-found c cs = subst (λ t. IfOk c.find_afar.result (λ value. get (store_of cs c.args.self.now) t ≡ Ok value.now)) c.as_str.ensures (c.find_afar.ensures.found cs)

pub returns-clause-refused : goal.returns-clause-refused
returns-clause-refused c cs = subst (λ t. IfErr c.find_afar.result (λ refusal. get (store_of cs c.args.self.now) t ≡ Err refusal)) c.as_str.ensures (c.find_afar.ensures.refused cs)
