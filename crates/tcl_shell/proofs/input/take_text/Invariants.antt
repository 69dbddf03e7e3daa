use Rattle.std.proofs.Common.{◌≡◌, false}
use Rattle.std.specs.Str.{chars}
use Rattle.std.specs.String.{string_bytes}
use Rattle.tcl_chan.specs.Worlds.{stdin, met_end, SameDevices, SameOutputs}
use Rattle.tcl_channels.specs.Shown.{channels_of}
use Rattle.tcl_words.specs.Waiting.{Awaits}
use Rattle.tcl_shell.proofs.TakenLines.{Gathering}
use Rattle.tcl_shell.proofs.input.take_text.Given as goal

abbrev pub invariant-lines : goal.invariant-lines
invariant-lines g l =
    (met_end l.world ≡ false) × Gathering (channels_of g.R.Input.to_come g.W.Output.written g.E.Output.written l.fn.world).input (chars (string_bytes l.text)) (channels_of g.R.Input.to_come g.W.Output.written g.E.Output.written l.world).input
    × SameOutputs l.fn.world l.world × SameDevices l.fn.world l.world × (g.R.Input.failed_calls (stdin l.world) ≡ g.R.Input.failed_calls (stdin l.fn.world)) × Awaits l.waiting (chars (string_bytes l.text))
