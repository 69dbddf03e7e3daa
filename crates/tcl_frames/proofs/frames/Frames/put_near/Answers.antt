use Rattle.std.proofs.Common.{◌≡◌, Ok, IfErr, OnOk, subst}
use Rattle.tcl_meaning.specs.Frames.{whole}
use Rattle.tcl_meaning.specs.Variables.{put_part, put_change, stored}
use Rattle.tcl_frames.specs.Places.{spot}
use Rattle.tcl_frames.specs.Refusals.{Refuses}
use Rattle.tcl_frames.specs.Standing.{applied, store_of}
use Rattle.tcl_frames.specs.Written.{variable_in, stored_at}
use Rattle.tcl_frames.proofs.Joined.{put_joined, stored_applied, done_joined, refused_stored}
use Rattle.tcl_frames.proofs.frames.Frames.put_near.Goals as goal

pub returns-in-Some-clause-done : goal.returns-in-Some-clause-done
returns-in-Some-clause-done c cs =
    let f = c.self.inside.stack in
    let vs = c.self.inside.variables in
    let p = spot c.in-Some.frame c.args.name.now whole in
    let answer = put_part (variable_in vs p) p.part c.args.value in
    done_joined f vs c.self.invariant cs c.put.result c.args.self.now c.put.new.self (put_change (store_of cs c.args.self.now) c.args.name.now c.args.value) (stored p answer) (stored_at vs p answer) c.self.view_is
    (put_joined f vs c.args.self.now c.self.view_is c.self.invariant cs c.args.name.now p c.in-Some.ensures.leads c.args.value) (stored_applied f vs c.self.invariant cs p answer) c.put.ensures.done

pub returns-in-Some-clause-refused : goal.returns-in-Some-clause-refused
returns-in-Some-clause-refused c cs =
    let f = c.self.inside.stack in
    let vs = c.self.inside.variables in
    let p = spot c.in-Some.frame c.args.name.now whole in
    let answer = put_part (variable_in vs p) p.part c.args.value in
    refused_stored c.put.result p answer _ (put_joined f vs c.args.self.now c.self.view_is c.self.invariant cs c.args.name.now p c.in-Some.ensures.leads c.args.value) c.put.ensures.refused

pub returns-clause-done : goal.returns-clause-done
returns-clause-done c cs =
    subst (λ t. OnOk c.put_afar.result (applied (put_change (store_of cs c.args.self.now) t c.args.value) (store_of cs c.args.self.now) ≡ Ok (store_of cs c.put_afar.new.self))) c.as_str.ensures (c.put_afar.ensures.done cs)

pub returns-clause-refused : goal.returns-clause-refused
returns-clause-refused c cs = subst (λ t. IfErr c.put_afar.result (Refuses (put_change (store_of cs c.args.self.now) t c.args.value))) c.as_str.ensures (c.put_afar.ensures.refused cs)
