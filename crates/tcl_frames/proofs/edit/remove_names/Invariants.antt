use Rattle.std.proofs.Common.{◌≡◌, drop, map as each}
use Rattle.tcl_chars.specs.Texts.{text_of}
use Rattle.tcl_frames.specs.Edits.{without_names}
use Rattle.tcl_frames.proofs.edit.remove_names.Given as goal

abbrev pub invariant-loop-name : goal.invariant-loop-name
invariant-loop-name l = without_names l.elements (drop l.name-index (each text_of l.names)) ≡ without_names l.fn.elements (each text_of l.names)
