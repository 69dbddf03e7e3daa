-- What the devices over another device show.
use Rattle.std.specs.Prelude.{ℕ, ◌+◌, ◌-◌, ◌^◌, min}
use Rattle.tcl_chan.specs.declared.pieces.OneByte.{OneByte}
use Rattle.tcl_chan.specs.declared.faulty.FaultyInput.{FaultyInput}
use Rattle.tcl_chan.specs.declared.faulty.FaultyOutput.{FaultyOutput}

-- the device that the calls pass on to
abbrev pub one_byte_inner : {D : Type 0} → OneByte D → D
one_byte_inner device = device.inner

abbrev pub faulty_input_inner : {D : Type 0} → FaultyInput D → D
faulty_input_inner device = device.inner

abbrev pub faulty_output_inner : {D : Type 0} → FaultyOutput D → D
faulty_output_inner device = device.inner

-- the number of the read that fails, counted from 1 from here on; 0 means none
abbrev pub read_fault : {D : Type 0} → FaultyInput D → ℕ
read_fault device = device.fault.due

-- the same of the write and of the flush
abbrev pub write_fault : {D : Type 0} → FaultyOutput D → ℕ
write_fault device = device.write_fault.due

abbrev pub flush_fault : {D : Type 0} → FaultyOutput D → ℕ
flush_fault device = device.flush_fault.due

-- how many calls it has failed by itself
abbrev pub own_read_failures : {D : Type 0} → FaultyInput D → ℕ
own_read_failures device = device.faults

abbrev pub own_failures : {D : Type 0} → FaultyOutput D → ℕ
own_failures device = device.faults

-- how many calls have failed, its own and those of the inner device, up to the greatest number of 64 bits
abbrev pub faulty_input_failures : {D : Type 0} → (D → ℕ) → FaultyInput D → ℕ
faulty_input_failures failed_calls device = min (failed_calls device.inner + device.faults) (2 ^ 64 - 1)

abbrev pub faulty_output_failures : {D : Type 0} → (D → ℕ) → FaultyOutput D → ℕ
faulty_output_failures failed_calls device = min (failed_calls device.inner + device.faults) (2 ^ 64 - 1)
