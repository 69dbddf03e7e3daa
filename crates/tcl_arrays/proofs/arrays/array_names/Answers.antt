use Rattle.std.proofs.Common.{map as each, ap, ◌∙◌}
use Rattle.std.specs.Str.{chars}
use Rattle.tcl_arrays.proofs.PageLemmas.{names_answer}
use Rattle.tcl_chars.specs.Texts.{text_of}
use Rattle.tcl_frames.specs.Standing.{store_of}
use Rattle.tcl_arrays.proofs.arrays.array_names.Goals as goal

pub returns-clause-answer : goal.returns-clause-answer
returns-clause-answer c cs =
    names_answer (store_of cs c.args.frames.now) c.args.words.now _ (chars c.as_str.result.now) _ (each text_of c.deref.result.now) _ c.in_ok-name.ensures.texts (ap chars c.as_str.ensures.value)
    (ap (each text_of) c.deref.ensures.value ∙ c.in_ok-names.ensures cs) c.in_ok-list_of.ensures
