use Rattle.std.proofs.Common.{◌≡◌, ◌++◌, length}
use Rattle.std.specs.Str.{chars}
use Rattle.std.specs.String.{string_bytes}
use Rattle.tcl_pages.specs.Strings.{joined_behind}
use Rattle.tcl_values.specs.Kept.{texts}
use Rattle.tcl_strings.proofs.lists.push_behind.Given as goal

abbrev pub invariant-loop-left : goal.invariant-loop-left
invariant-loop-left l = chars (string_bytes l.text) ++ joined_behind (chars l.between) (texts l.left) ≡ chars (string_bytes l.fn.text) ++ joined_behind (chars l.between) (texts l.elements)

abbrev pub decreases-loop-left : goal.decreases-loop-left
decreases-loop-left l = length l.left
