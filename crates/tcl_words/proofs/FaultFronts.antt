-- The laws of fronts, said of what a text spells.
use Rattle.std.proofs.Common.{◌≡◌, ℕ, Bool, true, List, ◌++◌, inl, inr}
use Rattle.std.proofs.lemmas.Bool.{true≢false}
use Rattle.std.proofs.Common.{refl, sym}
use Rattle.tcl_words.specs.First.{First, first, none, malformed, command}
use Rattle.tcl_words.specs.Fronts.{FaultStays, GoesOn, OpenGoesOn, FaultAtFront}
use Rattle.tcl_words.specs.Spelling.{IsWellFormed}
use Rattle.tcl_words.proofs.Fronts as read
use Rattle.tcl_words.proofs.Fronts.{is_well}
use Rattle.tcl_words.proofs.OneReading.{command_is_spelled, none_is_spelled, fault_is_spelled}

well_by : (size levels : ℕ) (nested : Bool) (cs : List ℕ) (f : First) → first size levels nested cs ≡ f → is_well f ≡ true → IsWellFormed size levels nested cs
well_by size levels nested cs (none rest) e w = inr (rest, (none_is_spelled size levels nested cs rest).0 e)
well_by size levels nested cs (malformed m) e w = absurd (true≢false (sym w))
well_by size levels nested cs (command ws rest) e w = inl (ws, rest, (command_is_spelled size levels nested cs ws rest).0 e)

goes : (levels : ℕ) (nested : Bool) (cs : List ℕ) → read.GoesOn levels nested cs → GoesOn levels nested cs
goes levels nested cs (more, h) = (more, λ size. well_by size levels nested (cs ++ more) (first size levels nested (cs ++ more)) refl (h size))

pub fault_stays : FaultStays
fault_stays size longer levels nested cs more m shut b = elim (read.fault_stays size longer levels nested cs more m shut ((fault_is_spelled size levels nested cs m).1 b)) [
  | inl same ↦ inl ((fault_is_spelled longer levels nested (cs ++ more) m).0 same)
  | inr hangs ↦ inr hangs
]

pub open_goes_on : OpenGoesOn
open_goes_on size levels nested cs m open_ b front rest e = goes levels nested front (read.open_goes_on size levels nested cs m open_ ((fault_is_spelled size levels nested cs m).1 b) front rest e)

pub fault_at_front : FaultAtFront
fault_at_front size levels nested cs m shut b = elim (read.fault_at_front size levels nested cs m shut ((fault_is_spelled size levels nested cs m).1 b)) [
  | inl (before, c, rest, e, on, always) ↦ inl (before, c, rest, e, goes levels nested before on, λ longer more. (fault_is_spelled longer levels nested _ m).0 (always longer more))
  | inr (hangs, on) ↦ inr (hangs, goes levels nested cs on)
]
