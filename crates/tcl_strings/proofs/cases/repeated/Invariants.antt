use Rattle.std.proofs.Common.{◌≡◌, ◌++◌}
use Rattle.std.specs.Str.{chars}
use Rattle.std.specs.String.{string_bytes}
use Rattle.tcl_pages.specs.Strings.{repeated_text}
use Rattle.tcl_strings.proofs.cases.repeated.Given as goal

abbrev pub invariant-loop-left : goal.invariant-loop-left
invariant-loop-left l = chars (string_bytes l.said) ++ repeated_text l.left (chars l.text) ≡ repeated_text l.count (chars l.text)

abbrev pub decreases-loop-left : goal.decreases-loop-left
decreases-loop-left l = l.left
