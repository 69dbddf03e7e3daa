use Rattle.std.proofs.Common.{◌≡◌}
use Rattle.std.specs.Str.{chars}
use Rattle.tcl_each.specs.LoopLists.{in_front}
use Rattle.tcl_each.proofs.LoopListLemmas.{read_from}
use Rattle.tcl_steps.specs.Views.{loop_lists_of}
use Rattle.tcl_each.proofs.rows.loop_lists_among.Given as goal

abbrev pub invariant-loop-pair : goal.invariant-loop-pair
invariant-loop-pair l = record {
  same : l.words ≡ l.fn.words;
  read : read_from (chars l.fn.empty) l.fn.words 0 ≡ in_front (loop_lists_of l.lists.items) (read_from (chars l.fn.empty) l.fn.words l.pair);
}
