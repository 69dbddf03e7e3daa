-- What scripts work on, as the definition has it.
use Rattle.std.specs.Prelude.{◌≡◌, Bool}
use Rattle.tcl_meaning.specs.State.{Channels, State}
use Rattle.tcl_steps.specs.Comes.{state_of}
use Rattle.tcl_engine.specs.declared.host.Host.{Host}

module _ {V : Type 0} where
  -- frames, commands, channels and units
  abbrev pub shown : (V → Channels) → Host V → State
  shown channels h = state_of h.table.now (channels h.devices.now) h.units h.frames.now

  -- What calls leave of it that the definition doesn't see: what is lent stays so, codes are of the same dialect, and what devices
  -- say of themselves.
  pub record HostLeaves (leaves : Bool → V → V → Type 0) (io : Bool) (old new : Host V) : Type 0 where
    pub frames : new.frames.ghost_name ≡ old.frames.ghost_name
    pub table : new.table.ghost_name ≡ old.table.ghost_name
    pub codes : new.codes.ghost_name ≡ old.codes.ghost_name
    pub devices : new.devices.ghost_name ≡ old.devices.ghost_name
    pub dialect : new.codes.now ≡ old.codes.now
    pub left : leaves io old.devices.now new.devices.now
