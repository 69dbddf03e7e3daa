use Rattle.std.proofs.Common.{sym, ◌∙◌, ap, length}
use Rattle.std.proofs.lemmas.Int.{to_z-of_z}
use Rattle.std.specs.Int.{w128}
use Rattle.tcl_chars.specs.Index.{clamp}
use Rattle.tcl_strings.proofs.Finder.{none_found, first_found}
use Rattle.tcl_strings.proofs.ascii.first_in_bytes.Goals as goal

pub returns-in_err-place : goal.returns-in_err-place
returns-in_err-place c =
    let text = c.args.text.now in
    let from = c.clamp-from.ensures ∙ ap (λ z. clamp z (length text)) (to_z-of_z w128 c.args.start c.ranges.start) in
    c.from_residual.ensures ∙ sym (none_found text c.args.needle.now _ _ c.args.start c.clamp-from.result
    c.as_bytes.ensures.value c.as_bytes-2.ensures.value from c.in_err-place.ensures)

pub returns : goal.returns
returns c =
    let text = c.args.text.now in
    let from = c.clamp-from.ensures ∙ ap (λ z. clamp z (length text)) (to_z-of_z w128 c.args.start c.ranges.start) in
    sym (first_found text c.args.needle.now _ _ c.args.start c.clamp-from.result c.in_ok-place.place
    c.if-is_empty.ensures c.as_bytes.ensures.value c.as_bytes-2.ensures.value from c.in_ok-place.ensures)
