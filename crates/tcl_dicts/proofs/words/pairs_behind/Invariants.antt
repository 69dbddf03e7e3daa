use Rattle.std.proofs.Common.{◌≡◌, ◌≤◌, ◌-◌, drop, length}
use Rattle.tcl_pages.specs.Dictionaries.{in_pairs}
use Rattle.tcl_dicts.proofs.DictWords.{with_front}
use Rattle.tcl_dicts.proofs.words.pairs_behind.Given as goal

abbrev pub invariant-loop-place : goal.invariant-loop-place
invariant-loop-place l = record {
  within : l.place ≤ length l.words;
  rest : with_front l.pairs.items (in_pairs (drop l.place l.words)) ≡ in_pairs (drop l.fn.first l.fn.words);
}

abbrev pub decreases-loop-place : goal.decreases-loop-place
decreases-loop-place l = length l.words - l.place
