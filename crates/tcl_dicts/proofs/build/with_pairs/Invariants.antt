use Rattle.std.proofs.Common.{◌≡◌, drop}
use Rattle.tcl_pages.specs.Dictionaries.{put_keys}
use Rattle.tcl_dicts.proofs.build.with_pairs.Given as goal

abbrev pub invariant-loop-place : goal.invariant-loop-place
invariant-loop-place l = put_keys l.found (drop l.place l.more) ≡ put_keys l.fn.found l.more
