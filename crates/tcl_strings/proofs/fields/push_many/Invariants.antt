use Rattle.std.proofs.Common.{◌≡◌, ◌++◌, replicate}
use Rattle.std.specs.Str.{chars}
use Rattle.std.specs.String.{string_bytes}
use Rattle.tcl_strings.proofs.fields.push_many.Given as goal

abbrev pub invariant-loop-left : goal.invariant-loop-left
invariant-loop-left l = chars (string_bytes l.text) ++ replicate l.left l.c ≡ chars (string_bytes l.fn.text) ++ replicate l.count l.c

abbrev pub decreases-loop-left : goal.decreases-loop-left
decreases-loop-left l = l.left
