-- Reading from left to right: a value and the text after it, or the first fault.
use Rattle.std.specs.Prelude.{◌≡◌, ℕ, zero, suc, List, [], ◌∷◌, ◌++◌, length, Option, Some, None, Result, Ok, Err}
use Rattle.tcl_chars.specs.declared.fault.ReadFault.{ReadFault}
use Rattle.tcl_chars.specs.declared.fault.ReadFault.TheVariants as fault

infixl 10 ◌>>=◌
abbrev pub ◌>>=◌ : {A B E : Type 0} → Result A E → (A → Result B E) → Result B E
(Ok x) >>= f = f x
(Err e) >>= f = Err e

abbrev pub Reading : Type 0 → Type 0 → Type 0
Reading E A = List ℕ → Result (A × List ℕ) E

-- What a function returned, seen by view, is what reading gives, unless memory ran out.
abbrev pub Fails : {Y E : Type 0} → ReadFault E → Result Y E → Type 0
Fails fault.Memory read = Unit {0}
Fails (fault.Bad m) read = read ≡ Err m

abbrev pub Gives : {X Y E : Type 0} → (X → Y) → Result X (ReadFault E) → Result Y E → Type 0
Gives view (Ok x) read = read ≡ Ok (view x)
Gives view (Err e) read = Fails e read

-- these before what is read
abbrev pub with_front : {A E : Type 0} → List A → Result (List A × List ℕ) E → Result (List A × List ℕ) E
with_front front (Ok x) = Ok (front ++ x.0, x.1)
with_front front (Err m) = Err m

-- after a turn: it was the last, or there is one more
abbrev pub after_turn : {A E : Type 0} → Reading E (List A) → Option A → List ℕ → Result (List A × List ℕ) E
after_turn next None rest = Ok ([], rest)
after_turn next (Some x) rest = with_front (x ∷ []) (next rest)

-- at most n turns
unfoldable pub turns : {A E : Type 0} → Reading E (Option A) → ℕ → Reading E (List A)
turns step zero cs = Ok ([], cs)
turns step (suc n) cs = step cs >>= λ t. after_turn (turns step n) t.0 t.1

-- Turn after turn, up to one that gives nothing. Each other turn takes a character at least, so these are enough.
unfoldable pub all_turns : {A E : Type 0} → Reading E (Option A) → Reading E (List A)
all_turns step cs = turns step (suc (length cs)) cs
