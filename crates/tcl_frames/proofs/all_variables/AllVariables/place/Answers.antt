use Rattle.std.proofs.Common.{List, ℕ, ap, sym, ◌∙◌}
use Rattle.std.specs.Prelude.{slice_set}
use Rattle.std.specs.Borrow.{name_if_ok}
use Rattle.std.proofs.lemmas.List.{set-get_or}
use Rattle.tcl_meaning.specs.Frames.{Variables}
use Rattle.tcl_frames.specs.Parts.{part_of}
use Rattle.tcl_frames.specs.Written.{with_text}
use Rattle.tcl_frames.proofs.Joined.{variables_here}
use Rattle.tcl_frames.proofs.all_variables.AllVariables.place.Goals as goal
use borrow.Follows.Closed.{read_of}

pub returns : goal.returns
returns c =
    let vs = c.self.inside.frames.items in
    let now = c.args.self.now in
    let at = c.args.frame in
    let name = c.args.name.now in
    let part = part_of c.args.part in
    let m = c.index_mut-variables.result.now in
    let here = variables_here vs now at m c.self.view_is c.index_mut-variables.ensures.value c.requires in
    let after = λ (w : List ℕ). ap (λ (k : List Variables). slice_set k at (with_text m name part w)) c.self.view_is ∙ ap (λ v. slice_set now at (with_text v name part w)) (sym here) in
    let before = ap (λ x. slice_set vs at x) c.index_mut-variables.ensures.value ∙ set-get_or vs at m ∙ c.self.view_is in
    (λ i. read_of (name_if_ok (λ x. x.ghost_name) c.place_in.result) (λ w. after w i) (before i), record { writes_back = tt; found = rw here c.place_in.ensures.found; refused = rw here c.place_in.ensures.refused })
