use Rattle.std.proofs.Common.{◌≡◌, ◌-◌, length, drop, take}
use Rattle.tcl_lists.specs.Options.{with_options}
use Rattle.tcl_pages.specs.Sorting.{with_sort_option, plain_sort}
use Rattle.tcl_lists.proofs.sort.options_of.Given as goal

abbrev pub invariant-loop-place : goal.invariant-loop-place
invariant-loop-place l = record {
  same : l.words ≡ l.fn.words;
  read : with_options with_sort_option l.options (drop l.place (take (length l.fn.words - 1) l.fn.words)) ≡ with_options with_sort_option plain_sort (take (length l.fn.words - 1) l.fn.words);
}
