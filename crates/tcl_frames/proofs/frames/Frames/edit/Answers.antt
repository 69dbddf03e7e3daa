use Rattle.std.specs.Str.{chars}
use Rattle.tcl_meaning.specs.Variables.{stored}
use Rattle.tcl_frames.specs.Edits.{edit_part, edit_change}
use Rattle.tcl_frames.specs.Places.{spot_of}
use Rattle.tcl_frames.specs.Standing.{store_of}
use Rattle.tcl_frames.specs.Written.{variable_in, stored_at}
use Rattle.tcl_frames.proofs.Joined.{edit_joined, stored_applied, done_joined, refused_stored}
use Rattle.tcl_frames.proofs.frames.Frames.edit.Goals as goal

pub returns-clause-done : goal.returns-clause-done
returns-clause-done c cs =
    let f = c.self.inside.stack in
    let vs = c.self.inside.variables in
    let p = spot_of c.place_of-at.result in
    let answer = edit_part c.args.edit (variable_in vs p) p.part in
    done_joined f vs c.self.invariant cs c.edit.result c.args.self.now c.edit.new.self (edit_change (store_of cs c.args.self.now) (chars c.args.name.now) c.args.edit) (stored p answer) (stored_at vs p answer) c.self.view_is
    (edit_joined f vs c.args.self.now c.self.view_is c.self.invariant cs (chars c.args.name.now) p c.place_of-at.ensures.leads c.args.edit) (stored_applied f vs c.self.invariant cs p answer) c.edit.ensures.done

pub returns-clause-refused : goal.returns-clause-refused
returns-clause-refused c cs =
    let f = c.self.inside.stack in
    let vs = c.self.inside.variables in
    let p = spot_of c.place_of-at.result in
    let answer = edit_part c.args.edit (variable_in vs p) p.part in
    refused_stored c.edit.result p answer _ (edit_joined f vs c.args.self.now c.self.view_is c.self.invariant cs (chars c.args.name.now) p c.place_of-at.ensures.leads c.args.edit) c.edit.ensures.refused
