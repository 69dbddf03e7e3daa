use Rattle.std.proofs.Common.{ap, ◌∙◌}
use Rattle.std.specs.Prelude.{is_some}
use Rattle.std.specs.Str.{chars}
use Rattle.tcl_arrays.proofs.PageLemmas.{exists_answer}
use Rattle.tcl_frames.proofs.Standings.{copied_some}
use Rattle.tcl_frames.specs.Standing.{store_of}
use Rattle.tcl_arrays.proofs.arrays.array_exists.Goals as goal

pub returns-clause-answer : goal.returns-clause-answer
returns-clause-answer c cs =
    exists_answer (store_of cs c.args.frames.now) c.args.words.now _ (chars c.as_str.result.now) c.is_some.result _ c.in_ok-name.ensures.text (ap chars c.as_str.ensures.value)
    (c.is_some.ensures ∙ copied_some c.array.result ∙ ap is_some (c.array.ensures cs)) c.of_truth.ensures
