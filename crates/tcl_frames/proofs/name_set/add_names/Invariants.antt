use Rattle.std.proofs.Common.{◌≡◌, map as each}
use Rattle.tcl_names.specs.Named.{by_text}
use Rattle.tcl_frames.specs.NameSets.{with_names}
use Rattle.tcl_frames.proofs.name_set.add_names.Given as goal

abbrev pub invariant-loop-name : goal.invariant-loop-name
invariant-loop-name g l = with_names l.names (each (λ e. (e.0, tt)) (by_text (λ v. v) l.name-iterator)) ≡ with_names l.fn.names (each (λ e. (e.0, tt)) (by_text (λ v. v) l.initial.name-iterator))
