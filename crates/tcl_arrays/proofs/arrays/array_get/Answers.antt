use Rattle.std.proofs.Common.{ap}
use Rattle.std.specs.Str.{chars}
use Rattle.tcl_arrays.proofs.PageLemmas.{get_answer}
use Rattle.tcl_frames.specs.Standing.{store_of}
use Rattle.tcl_arrays.proofs.arrays.array_get.Goals as goal

pub returns-clause-answer : goal.returns-clause-answer
returns-clause-answer c cs =
    get_answer (store_of cs c.args.frames.now) c.args.words.now _ (chars c.as_str.result.now) _ c.in_ok-pairs.pairs.items _ c.in_ok-name.ensures.texts (ap chars c.as_str.ensures.value) (c.in_ok-pairs.ensures cs) c.in_ok-of_list.ensures
