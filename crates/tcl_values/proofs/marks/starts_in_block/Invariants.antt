use Rattle.std.proofs.Common.{◌≡◌, take}
use Rattle.tcl_values.specs.Marks.{starts}
use Rattle.tcl_values.proofs.marks.starts_in_block.Given as goal

abbrev pub invariant-loop-byte : goal.invariant-loop-byte
invariant-loop-byte l = l.count ≡ starts (take l.byte-index l.block)
