use Rattle.std.proofs.Common.{◌≡◌, map as each, option_map, sym, ap, ◌∙◌}
use Rattle.std.specs.FinMap as map
use Rattle.std.specs.Str.{chars}
use Rattle.tcl_arrays.proofs.Walks.{no_names}
use Rattle.tcl_chars.specs.Texts.{text_of}
use Rattle.tcl_frames.specs.Standing.{store_of}
use Rattle.tcl_meaning.specs.Arrays.{elements, elements_or_none, names_among}
use Rattle.tcl_arrays.proofs.arrays.names_in.Goals as goal

pub returns-in-Some : goal.returns-in-Some
returns-in-Some c cs =
    let there : elements (store_of cs c.args.frames.now) (chars c.args.name.now) ≡ c.in-Some.elements.now = ap elements_or_none (sym (c.in-Some.ensures cs)) in
    rw there c.names_among.ensures

pub returns-in-None : goal.returns-in-None
returns-in-None c cs =
    let pattern = option_map text_of c.args.pattern.now in
    let there : elements (store_of cs c.args.frames.now) (chars c.args.name.now) ≡ map.empty = ap elements_or_none (sym (c.in-None.ensures cs)) in
    ap (each text_of) c.new.ensures.items ∙ sym (ap (λ m. names_among pattern (map.entries m)) there ∙ no_names pattern)
