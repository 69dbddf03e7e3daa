-- The answer of a call that a script's error can stop: a value, or the error with its text.
use Rattle.std.specs.Prelude.{◌≡◌, ℕ, List, Result, Ok, Err}
use Rattle.tcl_chars.specs.Texts.{text_of}
use Rattle.tcl_chars.specs.declared.fault.Fault.{Fault}
use Rattle.tcl_chars.specs.declared.fault.Fault.TheVariants as fault

-- The fault is the message that is meant, unless memory ran out.
abbrev pub Stops : {Y : Type 0} → Fault → Result Y (List ℕ) → Type 0
Stops (fault.Error t) meant = meant ≡ Err (text_of t)
Stops fault.Memory meant = Unit {0}

-- What a call returned, seen by view, is what is meant: a value, or a message.
abbrev pub Answers : {X Y : Type 0} → (X → Y) → Result X Fault → Result Y (List ℕ) → Type 0
Answers view (Ok x) meant = meant ≡ Ok (view x)
Answers view (Err e) meant = Stops e meant
