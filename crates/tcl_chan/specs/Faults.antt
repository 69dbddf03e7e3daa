-- How many calls of a device have failed.
use Rattle.std.specs.Prelude.{ℕ, Result, Ok, Err}
use Rattle.tcl_chan.specs.Devices.{one_more}
use Rattle.tcl_chan.specs.declared.fault.ChanFault.{ChanFault}
use Rattle.tcl_chan.specs.declared.fault.ChanFault.TheVariants as fault

-- how many calls of the input's device have failed after a call that failed so
abbrev pub read_failures_at : ℕ → ChanFault → ℕ
read_failures_at count fault.Read = one_more count
read_failures_at count fault.Write = count
read_failures_at count fault.Memory = count

-- the same after any call
abbrev pub read_failures : {A : Type 0} → ℕ → Result A ChanFault → ℕ
read_failures count (Ok x) = count
read_failures count (Err e) = read_failures_at count e

-- how many calls of an output's device have failed after a call that failed so
abbrev pub write_failures_at : ℕ → ChanFault → ℕ
write_failures_at count fault.Read = count
write_failures_at count fault.Write = one_more count
write_failures_at count fault.Memory = count

-- the same after any call
abbrev pub write_failures : {A : Type 0} → ℕ → Result A ChanFault → ℕ
write_failures count (Ok x) = count
write_failures count (Err e) = write_failures_at count e

-- a fault that a call over an input may have: not the one of outputs
abbrev pub IsInputFault : ChanFault → Type 0
IsInputFault fault.Read = Unit {0}
IsInputFault fault.Write = ⊥
IsInputFault fault.Memory = Unit {0}
