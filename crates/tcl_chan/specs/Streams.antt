-- What the devices over the streams of the process show.
use Rattle.std.specs.Prelude.{ℕ}
use Rattle.tcl_chan.specs.declared.standard.StandardInput.{StandardInput}
use Rattle.tcl_chan.specs.declared.standard.StandardOutput.{StandardOutput}

-- the stream that is read from, or written to
abbrev pub input_stream : {S : Type 0} → StandardInput S → S
input_stream device = device.source

abbrev pub output_stream : {S : Type 0} → StandardOutput S → S
output_stream device = device.sink

-- how many of its calls have failed
abbrev pub stream_input_failures : {S : Type 0} → StandardInput S → ℕ
stream_input_failures device = device.failures

abbrev pub stream_output_failures : {S : Type 0} → StandardOutput S → ℕ
stream_output_failures device = device.failures
