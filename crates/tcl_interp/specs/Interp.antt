-- What an interpreter shows, and what scripts work on in it.
use Rattle.std.specs.Prelude.{◌≡◌, ℕ, Bool, List, [], ◌∷◌, Option, refl}
use Rattle.std.specs.Coded.{Coded, code_by, coded×, coded_bool}
use Rattle.tcl_chan.specs.declared.reading.Reader.{Reader}
use Rattle.tcl_chan.specs.declared.world.World.{World}
use Rattle.tcl_channels.specs.Shown.{channels_of}
use Rattle.tcl_chars.specs.declared.numbers.Dialect.{Dialect}
use Rattle.tcl_chars.specs.contracts.numbers.Dialect as dialect
use Rattle.tcl_frames.specs.Coding.{frame_code}
use Rattle.tcl_frames.specs.Standing.{Standing}
use Rattle.tcl_meaning.specs.Frames.{Frame, frame_at}
use Rattle.tcl_meaning.specs.State.{Commands, Store, State, Remains}
use Rattle.tcl_table.specs.Coding.{commands_code}

-- its dialect, the global frame, the commands, and whether it has failed
pub record Shows : Type 0 where
  pub dialect : Dialect
  pub globals : Frame
  pub commands : Commands
  pub failed : Bool

abbrev pub shows_code : Coded Shows
shows_code = code_by (Dialect × (Frame × (Commands × Bool))) (coded× dialect.the_row.coded (coded× frame_code (coded× commands_code coded_bool))) (λ s. (s.dialect, (s.globals, (s.commands, s.failed)))) (λ p. record { dialect = p.0; globals = p.1.0; commands = p.1.1.0; failed = p.1.1.1 }) (λ _. refl)

-- ---- between two scripts

-- the global frame stands alone, and is active
abbrev pub standing_at : Frame → Standing
standing_at globals = record { frames = globals ∷ []; active = 0 }

abbrev pub IsAtTop : Standing → Type 0
IsAtTop f = f ≡ standing_at (frame_at f.frames 0)

-- what scripts keep then
abbrev pub store_at : Frame → Commands → Store
store_at globals commands = record { frames = globals ∷ []; active = 0; commands = commands }

abbrev pub kept_by : Shows → Store
kept_by i = store_at i.globals i.commands

-- ---- over devices, which tell what is to come, and what was written, by the first three

module _ {R W E : Type 0} (to_come : R → Option (List ℕ)) (outs : W → Option (List ℕ)) (errs : E → Option (List ℕ)) where
  -- what a host's script begins with
  abbrev pub state_at : Shows → World R W E Reader → ℕ → State
  state_at i w units = record { store = kept_by i; channels = channels_of to_come outs errs w; units = units }

  -- and what is left of it
  abbrev pub remains_at : Shows → World R W E Reader → Remains
  remains_at i w = record { globals = i.globals; commands = i.commands; channels = channels_of to_come outs errs w }
