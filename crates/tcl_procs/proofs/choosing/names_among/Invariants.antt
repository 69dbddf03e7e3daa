use Rattle.std.proofs.Common.{◌≡◌, ◌++◌, map as each, option_map, drop}
use Rattle.tcl_chars.specs.Texts.{text_of}
use Rattle.tcl_meaning.specs.SeenPages.{commands_among}
use Rattle.tcl_procs.specs.Looking.{of_kind}
use Rattle.tcl_procs.proofs.choosing.names_among.Given as goal

abbrev pub invariant-loop-name : goal.invariant-loop-name
invariant-loop-name l =
    l.found.items ++ commands_among (of_kind l.procedures) (option_map text_of l.pattern) (each (λ e. (text_of e.0, e.1.now)) (drop l.name-index l.entries))
    ≡ commands_among (of_kind l.procedures) (option_map text_of l.pattern) (each (λ e. (text_of e.0, e.1.now)) l.entries)
