-- The channels of a world, as the definition has them.
use Rattle.std.specs.Prelude.{ℕ, List, Option, option_map}
use Rattle.tcl_chan.specs.Characters.{input_chars}
use Rattle.tcl_chan.specs.Worlds.{stdout, stderr, unread_of, met_end}
use Rattle.tcl_chan.specs.declared.fault.Out.{Out}
use Rattle.tcl_chan.specs.declared.fault.Out.TheVariants as out
use Rattle.tcl_chan.specs.declared.reading.Reader.{Reader}
use Rattle.tcl_chan.specs.declared.world.World.{World}
use Rattle.tcl_meaning.specs.State as meaning
use Rattle.tcl_meaning.specs.State.{Channels, Store, State}

-- Its devices tell what is to come, and what was written, by these.
abbrev pub channels_of : {R W E : Type 0} → (R → Option (List ℕ)) → (W → Option (List ℕ)) → (E → Option (List ℕ)) → World R W E Reader → Channels
channels_of to_come outs errs w = record {
  input = option_map input_chars (unread_of to_come w);
  met_end = met_end w;
  out = outs (stdout w);
  err = errs (stderr w);
}

abbrev pub output_at : Out → meaning.Output
output_at out.Stdout = meaning.stdout
output_at out.Stderr = meaning.stderr

-- a state with these channels
abbrev pub over : Store → Channels → ℕ → State
over store channels units = record { store = store; channels = channels; units = units }
