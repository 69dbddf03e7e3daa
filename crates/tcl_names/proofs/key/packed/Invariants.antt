use Rattle.std.proofs.Common.{◌≡◌, ◌<◌, ◌^◌, drop}
use Rattle.tcl_names.specs.Keys.{packed}
use Rattle.tcl_names.proofs.key.packed.Given as goal

abbrev pub invariant-loop-byte : goal.invariant-loop-byte
invariant-loop-byte l = (packed l.number (drop l.byte-index l.bytes) ≡ packed 0 l.bytes) × (l.number < 256 ^ l.byte-index)
