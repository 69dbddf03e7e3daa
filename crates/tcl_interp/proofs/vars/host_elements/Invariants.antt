use Rattle.std.proofs.Common.{◌≡◌, ◌++◌}
use Rattle.std.specs.Vec.Iter.{into_iter_items}
use Rattle.tcl_names.specs.Named.{by_text}
use Rattle.tcl_interp.specs.Host.{elements_shown}
use Rattle.tcl_interp.proofs.vars.host_elements.Given as goal

-- what was pushed and what is left are the elements
abbrev pub invariant-loop-name : goal.invariant-loop-name
invariant-loop-name l = elements_shown l.shown.items ++ by_text (λ v. v.now) (into_iter_items l.name-iterator) ≡ by_text (λ v. v.now) (into_iter_items l.initial.name-iterator)
