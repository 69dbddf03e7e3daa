use Rattle.std.proofs.Common.{◌≡◌, ◌-◌, length, drop, take}
use Rattle.tcl_lists.specs.Options.{with_options}
use Rattle.tcl_pages.specs.Searching.{with_search_option, plain_search}
use Rattle.tcl_lists.proofs.search.options_of.Given as goal

abbrev pub invariant-loop-place : goal.invariant-loop-place
invariant-loop-place l = record {
  same : l.words ≡ l.fn.words;
  read : with_options with_search_option l.options (drop l.place (take (length l.fn.words - 2) l.fn.words)) ≡ with_options with_search_option plain_search (take (length l.fn.words - 2) l.fn.words);
}
