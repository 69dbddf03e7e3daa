use Rattle.std.proofs.Common.{◌≡◌, ◌++◌, drop}
use Rattle.tcl_meaning.specs.Codes.{kept}
use Rattle.tcl_control.proofs.returning.kept.Given as goal

abbrev pub invariant-loop-place : goal.invariant-loop-place
invariant-loop-place l = l.options.items ++ kept (drop l.place l.all) ≡ kept l.all
