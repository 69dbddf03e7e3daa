use Rattle.std.proofs.Common.{◌≡◌, sym, ap, ◌∙◌, Some}
use Rattle.std.specs.FinMap as map
use Rattle.std.specs.Option.{option_copied_mut}
use Rattle.std.specs.Borrow.{name_if_ok}
use Rattle.tcl_names.proofs.Named.{insert_same}
use Rattle.tcl_frames.specs.Parts.{part_of}
use Rattle.tcl_frames.proofs.LentTexts.{lent_text}
use Rattle.tcl_frames.proofs.variables.place_in.Goals as goal
use borrow.Follows.Closed.{read_of}

pub returns-in-Some : goal.returns-in-Some
returns-in-Some c =
    let m = c.args.variables.now in
    let name = c.args.name.now in
    let v = c.in-Some.variable.now in
    let got : map.get m name ≡ Some v = sym c.get_mut_near.ensures.value ∙ ap option_copied_mut c.in-Some.is in
    (λ i. read_of (name_if_ok (λ x. x.ghost_name) c.place.result) (λ w. lent_text m name v (part_of c.args.part) w got i) (insert_same m name v got i), record { writes_back = tt; found = rw got c.place.ensures.found; refused = rw got c.place.ensures.refused })
