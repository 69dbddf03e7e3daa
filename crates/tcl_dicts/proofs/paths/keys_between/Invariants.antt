use Rattle.std.proofs.Common.{◌≡◌, drop, take}
use Rattle.tcl_dicts.proofs.paths.keys_between.Given as goal

abbrev pub invariant-loop-place : goal.invariant-loop-place
invariant-loop-place l = l.keys.items ≡ drop l.fn.first (take l.place l.words)
