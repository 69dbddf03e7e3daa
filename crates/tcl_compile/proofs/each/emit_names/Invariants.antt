use Rattle.std.proofs.Common.{map}
use Rattle.tcl_list.specs.Texts.{text_of}
use Rattle.tcl_compile.proofs.EachEmits.{TakesLeft}
use Rattle.tcl_compile.proofs.each.emit_names.Given as goal

abbrev pub invariant-names : goal.invariant-names
invariant-names l = TakesLeft l.name-index (map text_of l.names) l.fn.code l.code
