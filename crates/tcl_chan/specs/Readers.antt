-- What the reading of an input shows.
use Rattle.std.specs.Prelude.{ℕ, List, Option}
use Rattle.tcl_chan.specs.Devices.{unread_bytes}
use Rattle.tcl_chan.specs.declared.reading.Reader.{Reader}

-- the bytes of the input that were not taken: those that are held, and those that the device has
abbrev pub left_of : {R : Type 0} → (R → Option (List ℕ)) → Reader → R → Option (List ℕ)
left_of to_come reader input = unread_bytes reader.held reader.ended (to_come input)
