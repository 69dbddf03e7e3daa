use Rattle.std.proofs.Common.{ap}
use Rattle.std.specs.Str.{chars}
use Rattle.tcl_arrays.proofs.PageLemmas.{size_answer}
use Rattle.tcl_frames.specs.Standing.{store_of}
use Rattle.tcl_arrays.proofs.arrays.array_size.Goals as goal

pub returns-clause-answer : goal.returns-clause-answer
returns-clause-answer c cs = size_answer (store_of cs c.args.frames.now) c.args.words.now _ (chars c.as_str.result.now) c.count_in.result _ c.in_ok-name.ensures.text (ap chars c.as_str.ensures.value) (c.count_in.ensures cs) c.in_ok-of_count.ensures
