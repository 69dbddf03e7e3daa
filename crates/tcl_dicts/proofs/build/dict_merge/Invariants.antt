use Rattle.std.proofs.Common.{◌≡◌, [], drop}
use Rattle.tcl_pages.specs.DictPages.{merged}
use Rattle.tcl_dicts.proofs.build.dict_merge.Given as goal

abbrev pub invariant-loop-place : goal.invariant-loop-place
invariant-loop-place l = record {
  same : l.words ≡ l.fn.words;
  rest : merged l.found (drop l.place l.words) ≡ merged [] l.fn.words;
}
