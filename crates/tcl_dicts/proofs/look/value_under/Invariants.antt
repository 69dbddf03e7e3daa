use Rattle.std.proofs.Common.{◌≡◌, drop}
use Rattle.tcl_pages.specs.DictPages.{value_under}
use Rattle.tcl_dicts.proofs.look.value_under.Given as goal

abbrev pub invariant-loop-place : goal.invariant-loop-place
invariant-loop-place l = record {
  rest : value_under l.inner (drop l.place l.fn.keys) ≡ value_under l.fn.dictionary l.fn.keys;
}
