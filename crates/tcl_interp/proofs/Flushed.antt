-- What flushes leave of the channels.
use Rattle.std.proofs.Common.{◌≡◌, ℕ, List, Option, option_map, sym, ap}
use Rattle.tcl_chan.specs.Characters.{input_chars}
use Rattle.tcl_chan.specs.Worlds.{stdout, stderr, SameInput}
use Rattle.tcl_chan.specs.declared.reading.Reader.{Reader}
use Rattle.tcl_chan.specs.declared.world.World.{World}
use Rattle.tcl_channels.specs.Shown.{channels_of}

pub same_channels : {R W E : Type 0} (to_come : R → Option (List ℕ)) (outs : W → Option (List ℕ)) (errs : E → Option (List ℕ)) (old new : World R W E Reader) → SameInput to_come old new → outs (stdout new) ≡ outs (stdout old) → errs (stderr new) ≡ errs (stderr old)
    → channels_of to_come outs errs old ≡ channels_of to_come outs errs new
same_channels to_come outs errs old new input out err =
    let unread = ap (option_map input_chars) (sym input.unread) in
    let met = sym input.met_end in
    let wrote = sym out in
    let said = sym err in
    λ i. record { input = unread i; met_end = met i; out = wrote i; err = said i }
