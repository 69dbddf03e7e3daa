use Rattle.std.proofs.Common.{◌≡◌, ◌++◌}
use Rattle.std.specs.FinMap as map
use Rattle.tcl_frames.specs.Standing.{store_of}
use Rattle.tcl_names.specs.Named.{by_text}
use Rattle.tcl_interp.specs.Host.{told_among, vars_shown}
use Rattle.tcl_interp.proofs.vars.vars_among.Given as goal

-- what was told and what is left to be told are all
abbrev pub invariant-loop-name : goal.invariant-loop-name
invariant-loop-name l =
    vars_shown l.vars.items ++ told_among (store_of map.empty l.frames) (by_text (λ v. v) l.name-iterator) ≡ told_among (store_of map.empty l.frames) (by_text (λ v. v) l.initial.name-iterator)
