-- Laws of malformed texts and their fronts: what more can mend, and what nothing can.
use Rattle.std.specs.Prelude.{◌≡◌, ◌⊎◌, ℕ, Bool, true, false, ◌==◌, List, [], ◌∷◌, ◌++◌}
use Rattle.tcl_chars.specs.Characters.{newline, backslash, quote, close_brace}
use Rattle.tcl_chars.specs.Place.{begins}
use Rattle.tcl_words.specs.declared.fault.Syntax.{Syntax}
use Rattle.tcl_words.specs.declared.fault.Syntax.TheVariants.{AfterBrace, AfterQuote, MissingBrace, MissingBracket, MissingQuote, MissingParen, MissingVariableBrace, TooDeep}
use Rattle.tcl_words.specs.Complete.{is_open}
use Rattle.tcl_words.specs.Faults.{BadCommand}
use Rattle.tcl_words.specs.Spelling.{IsWellFormed}

-- what closed the word that extra characters follow
abbrev pub closer : Syntax → ℕ → Bool
closer AfterBrace c = c == close_brace
closer AfterQuote c = c == quote
closer MissingBrace c = false
closer MissingBracket c = false
closer MissingQuote c = false
closer MissingParen c = false
closer MissingVariableBrace c = false
closer TooDeep c = false

-- a backslash ends the text, directly behind what closed a word
abbrev pub Hangs : Syntax → List ℕ → Type 0
Hangs m cs = (front : List ℕ) × (c : ℕ) × (closer m c ≡ true) × (cs ≡ front ++ c ∷ backslash ∷ [])

-- Extra characters and too deep nesting stay the fault, however the text goes on. But a backslash that ends the text
-- directly behind a word's closing brace or quote is an extra character only until a newline follows.
abbrev pub FaultStays : Type 0
FaultStays = (size longer levels : ℕ) (nested : Bool) (cs more : List ℕ) (m : Syntax) → is_open m ≡ false → BadCommand size levels nested cs m
    → BadCommand longer levels nested (cs ++ more) m ⊎ ((begins newline more ≡ true) × Hangs m cs)

-- The text can go on so that its first command is well formed, or that there is none.
abbrev pub GoesOn : ℕ → Bool → List ℕ → Type 0
GoesOn levels nested cs = (more : List ℕ) × ((size : ℕ) → IsWellFormed size levels nested (cs ++ more))

-- However the text goes on, this is the fault of its first command.
abbrev pub Always : ℕ → Bool → Syntax → List ℕ → Type 0
Always levels nested m cs = (size : ℕ) (more : List ℕ) → BadCommand size levels nested (cs ++ more) m

-- A text in which something is open can go on, and each of its fronts can.
abbrev pub OpenGoesOn : Type 0
OpenGoesOn = (size levels : ℕ) (nested : Bool) (cs : List ℕ) (m : Syntax) → is_open m ≡ true → BadCommand size levels nested cs m → (front rest : List ℕ) → cs ≡ front ++ rest → GoesOn levels nested front

-- Extra characters and too deep nesting are the fault of a front: before its last character the text can still go on,
-- and behind it never. Or a backslash that ends the text, directly behind what closed a word, is the extra character.
abbrev pub FaultAtFront : Type 0
FaultAtFront = (size levels : ℕ) (nested : Bool) (cs : List ℕ) (m : Syntax) → is_open m ≡ false → BadCommand size levels nested cs m
    → ((before : List ℕ) × (c : ℕ) × (rest : List ℕ) × (cs ≡ before ++ c ∷ rest) × GoesOn levels nested before × Always levels nested m (before ++ c ∷ []))
    ⊎ (Hangs m cs × GoesOn levels nested cs)
