-- What commands leave of the devices.
use Rattle.std.specs.Prelude.{◌≡◌, ◌⊎◌, ℕ, Bool, true, false, Result, Ok, Err}
use Rattle.tcl_chan.specs.Devices.{one_more}
use Rattle.tcl_chan.specs.Worlds.{stdin, stdout, stderr, SameDevices}
use Rattle.tcl_chan.specs.declared.reading.Reader.{Reader}
use Rattle.tcl_chan.specs.declared.world.World.{World}
use Rattle.tcl_steps.specs.declared.fault.Fault.{Fault}
use Rattle.tcl_steps.specs.declared.fault.Fault.TheVariants as fault

-- a device failed
abbrev pub is_io : {A : Type 0} → Result A Fault → Bool
is_io (Ok a) = false
is_io (Err (fault.Exit status)) = false
is_io (Err fault.Memory) = false
is_io (Err fault.Io) = true

-- how many calls of each device have failed
pub record Failures : Type 0 where
  pub input : ℕ
  pub out : ℕ
  pub err : ℕ

abbrev pub failures_of : {R W E : Type 0} → (R → ℕ) → (W → ℕ) → (E → ℕ) → World R W E Reader → Failures
failures_of ins outs errs w = record { input = ins (stdin w); out = outs (stdout w); err = errs (stderr w) }

-- one more of one device, where the answer says that a device failed
abbrev pub Counted : Bool → Failures → Failures → Type 0
Counted false before after = after ≡ before
Counted true before after =
    (after ≡ record before { input = one_more before.input }) ⊎ (after ≡ record before { out = one_more before.out }) ⊎ (after ≡ record before { err = one_more before.err })

-- the same devices, and their failures counted
pub record Leaves {R W E : Type 0} (ins : R → ℕ) (outs : W → ℕ) (errs : E → ℕ) (io : Bool) (old new : World R W E Reader) : Type 0 where
  pub devices : SameDevices old new
  pub failures : Counted io (failures_of ins outs errs old) (failures_of ins outs errs new)
