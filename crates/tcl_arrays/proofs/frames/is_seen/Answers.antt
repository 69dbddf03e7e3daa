use Rattle.std.proofs.Common.{sym, ap, option_map, ◌∙◌}
use Rattle.std.specs.Prelude.{◌&&◌}
use Rattle.std.specs.FinMap as map
use Rattle.std.specs.Str.{chars}
use Rattle.tcl_chars.specs.Texts.{text_of}
use Rattle.tcl_meaning.specs.Arrays.{name_fits}
use Rattle.tcl_arrays.proofs.frames.is_seen.Goals as goal

pub returns-then-exists_here : goal.returns-then-exists_here
returns-then-exists_here c =
    c.name_fits.ensures ∙ sym (ap (λ b. b && name_fits (option_map text_of c.args.pattern.now) (chars c.args.name.now)) (sym (c.exists_here.ensures map.empty) ∙ c.if-exists_here.true))

pub returns-else-exists_here : goal.returns-else-exists_here
returns-else-exists_here c =
    c.if-exists_here.false ∙ sym (ap (λ b. b && name_fits (option_map text_of c.args.pattern.now) (chars c.args.name.now)) (sym (c.exists_here.ensures map.empty) ∙ c.if-exists_here.false))
