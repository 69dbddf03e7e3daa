use Rattle.std.proofs.Common.{ap, ◌∙◌}
use Rattle.std.specs.Str.{chars}
use Rattle.tcl_meaning.specs.Links.{spot_in}
use Rattle.tcl_meaning.specs.Names.{Name}
use Rattle.tcl_meaning.specs.Variables.{missing, remove_part, remove_change, removed}
use Rattle.tcl_frames.specs.Places.{spot_of}
use Rattle.tcl_frames.specs.Standing.{store_of}
use Rattle.tcl_frames.specs.Written.{variable_in, removed_at}
use Rattle.tcl_frames.proofs.Joined.{remove_joined, removed_applied, done_joined, refused_removed}
use Rattle.tcl_frames.proofs.frames.Frames.unset.Goals as goal

pub returns-clause-done : goal.returns-clause-done
returns-clause-done c cs =
    let f = c.self.inside.stack in
    let vs = c.self.inside.variables in
    let p = spot_of c.place_divided-at.result in
    let answer = remove_part c.missing.result (variable_in vs p) p.part in
    done_joined f vs c.self.invariant cs c.remove.result c.args.self.now c.remove.new.self (remove_change (store_of cs c.args.self.now) (chars c.args.name.now)) (removed p answer) (removed_at vs p answer) c.self.view_is
    (remove_joined f vs c.args.self.now c.self.view_is c.self.invariant cs (chars c.args.name.now) p (c.place_divided-at.ensures.leads ∙ ap (spot_in c.self.inside.stack.frames c.self.inside.stack.active) c.divide-name.ensures) c.missing.result (c.missing.ensures ∙ ap (λ (n : Name). missing n.part) c.divide-name.ensures)) (removed_applied f vs c.self.invariant cs p answer) c.remove.ensures.done

pub returns-clause-refused : goal.returns-clause-refused
returns-clause-refused c cs =
    let f = c.self.inside.stack in
    let vs = c.self.inside.variables in
    let p = spot_of c.place_divided-at.result in
    let answer = remove_part c.missing.result (variable_in vs p) p.part in
    refused_removed c.remove.result p answer _
    (remove_joined f vs c.args.self.now c.self.view_is c.self.invariant cs (chars c.args.name.now) p (c.place_divided-at.ensures.leads ∙ ap (spot_in c.self.inside.stack.frames c.self.inside.stack.active) c.divide-name.ensures) c.missing.result (c.missing.ensures ∙ ap (λ (n : Name). missing n.part) c.divide-name.ensures)) c.remove.ensures.refused
