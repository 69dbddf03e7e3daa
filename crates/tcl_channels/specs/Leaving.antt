-- What calls leave of devices, one after another.
use Rattle.std.proofs.Common.{◌≡◌, ℕ, Bool, false, refl, ◌∙◌, subst}
use Rattle.tcl_chan.specs.declared.reading.Reader.{Reader}
use Rattle.tcl_chan.specs.declared.world.World.{World}
use Rattle.tcl_channels.specs.Leaves.{failures_of, Counted, Leaves}

module _ {R W E : Type 0} (ins : R → ℕ) (outs : W → ℕ) (errs : E → ℕ) where
  -- where nothing is called, all is left
  pub leaves_same : (w : World R W E Reader) → Leaves ins outs errs false w w
  leaves_same w = record { devices = record { stdin = refl; stdout = refl; stderr = refl }; failures = refl }

  -- calls in which no device failed, and one after them
  pub leaves_then : (io : Bool) (a b c : World R W E Reader) → Leaves ins outs errs false a b → Leaves ins outs errs io b c → Leaves ins outs errs io a c
  leaves_then io a b c first second = record {
    devices = record {
      stdin = second.devices.stdin ∙ first.devices.stdin;
      stdout = second.devices.stdout ∙ first.devices.stdout;
      stderr = second.devices.stderr ∙ first.devices.stderr;
    };
    failures = subst (λ f. Counted io f (failures_of ins outs errs c)) first.failures second.failures;
  }
