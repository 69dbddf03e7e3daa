-- What commands do that change arrays.
use Rattle.std.specs.Prelude.{◌≡◌, List, Option, Some, None, Result, Ok, Err}
use Rattle.std.specs.FinMap as map
use Rattle.tcl_chars.specs.Texts.{text_of}
use Rattle.tcl_chars.specs.declared.fault.Fault.{Fault}
use Rattle.tcl_chars.specs.declared.fault.Fault.TheVariants as fault
use Rattle.tcl_frames.specs.Standing.{Standing, store_of, applied}
use Rattle.tcl_meaning.specs.Arrays.{array_begun, with_elements, spot_named}
use Rattle.tcl_meaning.specs.Completions.{Completion, nothing, failure}
use Rattle.tcl_meaning.specs.Frames.{array}
use Rattle.tcl_meaning.specs.State.{Commands, Store, Change, changed, set_variable}
use Rattle.tcl_meaning.specs.Variables.{variable_at}
use Rattle.tcl_pages.specs.Answers.{Answer, ◌>>=◌}
use Rattle.tcl_pages.specs.Texts.{Text}

-- `array set`, of a list that is read: its odd length is told before the variable's fault
abbrev pub set_of : Store → Text → List Text → Answer Change
set_of s name es = do
  _ ← with_elements map.empty es
  m ← array_begun name (variable_at s (spot_named s name)) (spot_named s name).part
  new ← with_elements m es
  Ok (set_variable (spot_named s name).frame (spot_named s name).name (array new))

-- The change that is answered is made; at a message everything stays as it was; or memory was refused.
abbrev pub Makes : {A : Type 0} → (Commands → Answer Change) → Standing → Result A Fault → Standing → Type 0
Makes change before (Ok a) after = (cs : Commands) → applied (change cs) (store_of cs before) ≡ Ok (store_of cs after)
Makes change before (Err (fault.Error message)) after = ((cs : Commands) → change cs ≡ Err (text_of message)) × (after ≡ before)
Makes change before (Err fault.Memory) after = Unit {0}

-- what scripts keep after a change, if there is one
abbrev pub changed_if : Option Change → Store → Store
changed_if None s = s
changed_if (Some ch) s = changed ch s

abbrev pub Leaves : (Commands → Option Change) → Standing → Standing → Type 0
Leaves change before after = (cs : Commands) → changed_if (change cs) (store_of cs before) ≡ store_of cs after

-- the command has nothing to say, or says the error
abbrev pub Finishes : {A E : Type 0} → Result A Fault → Result Completion E → Type 0
Finishes done (Err refused) = Unit {0}
Finishes (Ok a) (Ok c) = c ≡ nothing
Finishes (Err (fault.Error message)) (Ok c) = c ≡ failure (text_of message)
Finishes (Err fault.Memory) (Ok c) = ⊥
