use Rattle.std.proofs.Common.{◌≡◌, ◌++◌, map as each}
use Rattle.tcl_names.specs.Named.{text_of, by_text}
use Rattle.tcl_names.proofs.hashed.HashedNames.entries.Given as goal

abbrev pub invariant-loop-name : goal.invariant-loop-name
invariant-loop-name g l = each (λ e. (text_of e.0, e.1.now)) l.entries.items ++ by_text (λ v. v) l.name-iterator ≡ by_text (λ v. v) l.initial.name-iterator
