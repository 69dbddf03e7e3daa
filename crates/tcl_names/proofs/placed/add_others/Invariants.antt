use Rattle.std.proofs.Common.{◌≡◌, map as each}
use Rattle.tcl_names.specs.Named.{by_text}
use Rattle.tcl_names.specs.Placed.{with_present}
use Rattle.tcl_names.proofs.placed.add_others.Given as goal

abbrev pub invariant-loop-name : goal.invariant-loop-name
invariant-loop-name g l =
    with_present l.whole (each (λ e. e.0) (by_text (λ v. v) l.name-iterator)) l.names ≡ with_present l.whole (each (λ e. e.0) (by_text (λ v. v) l.initial.name-iterator)) l.fn.names
