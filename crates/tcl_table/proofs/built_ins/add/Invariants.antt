use Rattle.std.proofs.Common.{◌≡◌, map as each, length}
use Rattle.std.specs.Str.{chars}
use Rattle.tcl_table.specs.BuiltIns.{with_built_ins}
use Rattle.tcl_table.proofs.built_ins.add.Given as goal

-- with those that are left the commands are what they shall be
abbrev pub invariant-entries : goal.invariant-entries
invariant-entries l =
    with_built_ins (each (λ entry. (chars entry.0.now, entry.1)) l.rest) l.commands ≡ with_built_ins (each (λ entry. (chars entry.0.now, entry.1)) l.fn.built_ins) l.fn.commands

abbrev pub decreases-entries : goal.decreases-entries
decreases-entries l = length l.rest
