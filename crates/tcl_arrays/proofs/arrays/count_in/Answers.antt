use Rattle.std.proofs.Common.{◌≡◌, sym, ap, ◌∙◌}
use Rattle.std.specs.FinMap as map
use Rattle.std.specs.Str.{chars}
use Rattle.tcl_arrays.proofs.Walks.{none_counted}
use Rattle.tcl_frames.specs.Standing.{store_of}
use Rattle.tcl_meaning.specs.Arrays.{elements, elements_or_none}
use Rattle.tcl_arrays.proofs.arrays.count_in.Goals as goal

pub returns-in-Some : goal.returns-in-Some
returns-in-Some c cs =
    let there : elements (store_of cs c.args.frames.now) (chars c.args.name.now) ≡ c.in-Some.elements.now = ap elements_or_none (sym (c.in-Some.ensures cs)) in
    c.len.ensures ∙ ap map.len (sym there)

pub returns-in-None : goal.returns-in-None
returns-in-None c cs =
    let there : elements (store_of cs c.args.frames.now) (chars c.args.name.now) ≡ map.empty = ap elements_or_none (sym (c.in-None.ensures cs)) in
    sym (ap map.len there ∙ none_counted)
