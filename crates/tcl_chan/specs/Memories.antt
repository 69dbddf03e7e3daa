-- What the devices over memory show.
use Rattle.std.specs.Prelude.{ℕ, List}
use Rattle.tcl_chan.specs.declared.memory.MemoryInput.{MemoryInput}
use Rattle.tcl_chan.specs.declared.memory.MemoryOutput.{MemoryOutput}

-- the bytes that were not read yet
abbrev pub bytes_left : MemoryInput → List ℕ
bytes_left device = device.bytes.now

-- the bytes written so far
abbrev pub bytes_of : MemoryOutput → List ℕ
bytes_of device = device.bytes.items

-- how many bytes it can take in all
abbrev pub capacity_of : MemoryOutput → ℕ
capacity_of device = device.capacity

-- how many of its calls have failed
abbrev pub failures_of : MemoryOutput → ℕ
failures_of device = device.failures
