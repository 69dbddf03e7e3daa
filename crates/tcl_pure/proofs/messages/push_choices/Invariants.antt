use Rattle.std.proofs.Common.{◌≡◌, ◌++◌, map as each, length}
use Rattle.std.specs.Str.{chars}
use Rattle.std.specs.String.{string_bytes}
use Rattle.tcl_pure.specs.Names.{names_to_choose}
use Rattle.tcl_pure.proofs.messages.push_choices.Given as goal

-- with the choices that are left the text is what it shall be
abbrev pub invariant-entries : goal.invariant-entries
invariant-entries l =
    chars (string_bytes l.text) ++ names_to_choose (each (λ entry. (chars entry.0.now, entry.1)) l.rest)
    ≡ chars (string_bytes l.fn.text) ++ names_to_choose (each (λ entry. (chars entry.0.now, entry.1)) l.fn.entries)

abbrev pub decreases-entries : goal.decreases-entries
decreases-entries l = length l.rest
