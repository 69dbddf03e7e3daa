use Rattle.std.proofs.Common.{ap, ◌∙◌}
use Rattle.std.specs.FinMap as map
use Rattle.std.specs.Str.{chars}
use Rattle.tcl_chars.specs.Texts.{text_of}
use Rattle.tcl_frames.proofs.EditLemmas.{name_out}
use Rattle.tcl_frames.proofs.edit.remove_names.Goals as goal

pub loop-name-preserved : goal.loop-name-preserved
loop-name-preserved c =
    name_out text_of c.args.names.now c.loop-name.name-index c.name-item.result c.loop-name.elements c.remove.new.self c.loop-name-test.true c.name-item.is
    (c.remove.ensures.removed ∙ ap (λ t. map.remove c.loop-name.elements (chars t)) c.as_str.ensures.value)
    ∙ c.loop-name.invariant
