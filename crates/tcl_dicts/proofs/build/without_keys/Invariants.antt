use Rattle.std.proofs.Common.{◌≡◌, drop}
use Rattle.tcl_pages.specs.DictPages.{without_keys}
use Rattle.tcl_dicts.proofs.build.without_keys.Given as goal

abbrev pub invariant-loop-place : goal.invariant-loop-place
invariant-loop-place l = record {
  same : l.words ≡ l.fn.words;
  rest : without_keys (drop l.place l.words) l.found ≡ without_keys (drop l.fn.first l.fn.words) l.fn.found;
}
