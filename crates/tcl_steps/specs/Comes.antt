-- What programs come to, in what scripts keep: whatever the commands are, the channels, and the units that are left, which
-- stay as they were.
use Rattle.std.specs.Prelude.{◌≡◌, ℕ}
use Rattle.tcl_frames.specs.Standing.{Standing, store_of}
use Rattle.tcl_meaning.specs.Effects.{Plain, Give, does}
use Rattle.tcl_meaning.specs.State.{Commands, Channels, Store, State}

-- a state in which these frames stand
abbrev pub state_of : Commands → Channels → ℕ → Standing → State
state_of cs channels units f = record { store = store_of cs f; channels = channels; units = units }

-- The program that is begun over some frames comes to what another one comes to, over others.
pub record Becomes {A : Type 0} (p : Plain A) (before : Standing) (q : Plain A) (after : Standing) : Type 0 where
  pub same : (cs : Commands) (channels : Channels) (units : ℕ) → does p (state_of cs channels units before) ≡ does q (state_of cs channels units after)

-- The program gives a value, and leaves these frames.
abbrev pub Comes : {A : Type 0} → Plain A → Standing → A → Standing → Type 0
Comes p before a after = Becomes p before (Give a) after

-- The same with the commands: over what scripts keep as a whole.
pub record BecomesIn {A : Type 0} (p : Plain A) (before : Store) (q : Plain A) (after : Store) : Type 0 where
  pub same : (channels : Channels) (units : ℕ) → does p (record { store = before; channels = channels; units = units }) ≡ does q (record { store = after; channels = channels; units = units })
