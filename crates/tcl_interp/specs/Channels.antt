-- What a whole run leaves of the devices: how many of their calls have failed.
use Rattle.std.specs.Prelude.{◌≡◌, ◌⊎◌, ℕ, Bool, true, false}
use Rattle.tcl_chan.specs.Devices.{one_more}
use Rattle.tcl_channels.specs.Leaves.{Failures, Counted}

-- how many calls of each device have failed
abbrev pub failures_at : {R W E : Type 0} → (R → ℕ) → (W → ℕ) → (E → ℕ) → R → W → E → Failures
failures_at ins outs errs input out err = record { input = ins input; out = outs out; err = errs err }

-- one more of both outputs
abbrev pub both_more : Failures → Failures
both_more before = record before { out = one_more before.out; err = one_more before.err }

-- One more of one device, or of both outputs, which are flushed at the end, where the answer says that a device failed.
abbrev pub RunCounted : Bool → Failures → Failures → Type 0
RunCounted false before after = after ≡ before
RunCounted true before after = Counted true before after ⊎ (after ≡ both_more before)
