-- What a call returned, and what it wrote, beside what a definition gives.
use Rattle.std.specs.Prelude.{◌≡◌, ℕ, List, ◌++◌, Result, Ok, Err}
use Rattle.std.specs.declared.rc.RcStr.{RcStr}
pub use Rattle.tcl_chars.specs.Answers.{Answers, Stops}
pub use Rattle.tcl_chars.specs.Texts.{text_of}
use Rattle.tcl_chars.specs.declared.fault.ReadFault.{ReadFault}
use Rattle.tcl_chars.specs.declared.fault.ReadFault.TheVariants as read

-- a fault whose message is a shared text, by the characters of the message
abbrev pub in_characters : {Z : Type 0} → ReadFault (RcStr Z) → ReadFault (List ℕ)
in_characters read.Memory = read.Memory
in_characters (read.Bad m) = read.Bad (text_of m)

abbrev pub worded : {Z X : Type 0} → Result X (ReadFault (RcStr Z)) → Result X (ReadFault (List ℕ))
worded (Ok x) = Ok x
worded (Err e) = Err (in_characters e)

-- the text old, and more behind it
pub record Extends (old new : List ℕ) : Type 0 where
  pub more : List ℕ
  pub joined : new ≡ old ++ more

-- What a writer did to the characters of a text: it wrote what is said at the end, or was refused a growth on the way.
abbrev pub WritesBehind : {X E : Type 0} → (old new said : List ℕ) → Result X E → Type 0
WritesBehind old new said (Ok x) = new ≡ old ++ said
WritesBehind old new said (Err e) = Extends old new
