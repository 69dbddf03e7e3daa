use Rattle.std.proofs.Common.{ap}
use Rattle.std.specs.Str.{chars}
use Rattle.tcl_arrays.proofs.PageLemmas.{there_answer}
use Rattle.tcl_frames.specs.Standing.{store_of}
use Rattle.tcl_arrays.proofs.frames.info_exists.Goals as goal

pub returns-clause-answer : goal.returns-clause-answer
returns-clause-answer c cs = there_answer (store_of cs c.args.frames.now) c.args.words.now _ (chars c.as_str.result.now) c.exists.result _ c.in_ok-name.ensures.text (ap chars c.as_str.ensures.value) (c.exists.ensures cs) c.of_truth.ensures
