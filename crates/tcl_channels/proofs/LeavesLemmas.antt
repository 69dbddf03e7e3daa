-- What calls of a world leave of the devices.
use Rattle.std.proofs.Common.{◌≡◌, ℕ, false, true, Err, ap, inl}
use Rattle.tcl_chan.specs.Devices.{one_more}
use Rattle.tcl_chan.specs.Worlds.{stdin, SameDevices, SameOutputs}
use Rattle.tcl_chan.specs.declared.reading.Reader.{Reader}
use Rattle.tcl_chan.specs.declared.world.World.{World}
use Rattle.tcl_chan.specs.Faults.{IsInputFault, read_failures_at}
use Rattle.tcl_chan.specs.declared.fault.ChanFault.{ChanFault}
use Rattle.tcl_chan.specs.declared.fault.ChanFault.TheVariants as chan_fault
use Rattle.tcl_steps.specs.Faults.{fault_by}
use Rattle.tcl_channels.specs.Leaves.{Leaves, is_io}

module _ {R W E : Type 0} (ins : R → ℕ) (outs : W → ℕ) (errs : E → ℕ) where
  module _ (old new : World R W E Reader) (d : SameDevices old new) where
    -- a call of the input that didn't fail
    pub leaves_taken : ins (stdin new) ≡ ins (stdin old) → SameOutputs old new → Leaves ins outs errs false old new
    leaves_taken h s = record { devices = d; failures = λ t. record { input = h t; out = ap outs s.stdout t; err = ap errs s.stderr t } }

    -- and one that failed
    pub leaves_unread : ins (stdin new) ≡ one_more (ins (stdin old)) → SameOutputs old new → Leaves ins outs errs true old new
    leaves_unread h s = record { devices = d; failures = inl (λ t. record { input = h t; out = ap outs s.stdout t; err = ap errs s.stderr t }) }

    -- of the input, whatever the fault
    pub leaves_fault : (A : Type 0) (refused : ChanFault) → IsInputFault refused → ins (stdin new) ≡ read_failures_at (ins (stdin old)) refused → SameOutputs old new → Leaves ins outs errs (is_io {A = A} (Err (fault_by refused))) old new
    leaves_fault A chan_fault.Read f h s = leaves_unread h s
    leaves_fault A chan_fault.Write f h s = absurd f
    leaves_fault A chan_fault.Memory f h s = leaves_taken h s
