-- Laws of the definitions: the reading function is the relations of what is spelled and of its fault.
use Rattle.std.specs.Prelude.{◌≡◌, ◌⊎◌, ◌↔◌, ℕ, suc, ◌+◌, ◌≤◌, Bool, true, false, List, [], ◌∷◌, ◌++◌, Ok, Err}
use Rattle.tcl_chars.specs.Characters.{open_bracket, close_bracket}
use Rattle.tcl_chars.specs.Place.{bytes}
use Rattle.tcl_words.specs.declared.fault.Syntax.{Syntax}
use Rattle.tcl_words.specs.Complete.{ends_hidden, is_open, is_complete}
use Rattle.tcl_words.specs.Faults.{BadCommand, BadCommands, BadOperand}
use Rattle.tcl_words.specs.First.{first, none, malformed, command, most_levels, begins_operand, operand}
use Rattle.tcl_words.specs.Parts.{Stretch, bracket, Shape}
use Rattle.tcl_words.specs.Spelling.{Piece, Command, Commands, NoCommand, IsWellFormed, OperandWord}

-- A text's first command is the one that it spells, and no other.
abbrev pub CommandIsSpelled : Type 0
CommandIsSpelled = (size levels : ℕ) (nested : Bool) (cs : List ℕ) (ws : List Shape) (rest : List ℕ) → (first size levels nested cs ≡ command ws rest) ↔ Command size levels nested cs ws rest

-- It has none just where separators and comments alone are left.
abbrev pub NoneIsSpelled : Type 0
NoneIsSpelled = (size levels : ℕ) (nested : Bool) (cs rest : List ℕ) → (first size levels nested cs ≡ none rest) ↔ NoCommand nested cs rest

-- A text spells one first command at most, which ends in one place.
abbrev pub OneCommand : Type 0
OneCommand = (size levels : ℕ) (nested : Bool) (cs : List ℕ) (ws vs : List Shape) (rest other : List ℕ) → Command size levels nested cs ws rest → Command size levels nested cs vs other → (ws ≡ vs) × (rest ≡ other)

-- Where it spells one, more than separators and comments are left.
abbrev pub CommandOrNone : Type 0
CommandOrNone = (size levels : ℕ) (nested : Bool) (cs : List ℕ) (ws : List Shape) (rest other : List ℕ) → Command size levels nested cs ws rest → NoCommand nested cs other → ⊥

-- It has the fault that stands in it, and no other.
abbrev pub FaultIsSpelled : Type 0
FaultIsSpelled = (size levels : ℕ) (nested : Bool) (cs : List ℕ) (m : Syntax) → (first size levels nested cs ≡ malformed m) ↔ BadCommand size levels nested cs m

-- Each text is well formed at its front or has one fault, and none is both.
abbrev pub ReadingOrFault : Type 0
ReadingOrFault = (size levels : ℕ) (nested : Bool) (cs : List ℕ) → (IsWellFormed size levels nested cs ⊎ ((m : Syntax) × BadCommand size levels nested cs m))
    × ((m : Syntax) → IsWellFormed size levels nested cs → BadCommand size levels nested cs m → ⊥) × ((m k : Syntax) → BadCommand size levels nested cs m → BadCommand size levels nested cs k → m ≡ k)

-- The text in a bracket, read alone, has the same commands as inside, with the same places: before the bracket's end
-- the whole text has `size` bytes.
abbrev pub BracketAlone : Type 0
BracketAlone = (size levels more : ℕ) (ends : List ℕ → Bool) (cs : List ℕ) (s script : Stretch) (rest : List ℕ) → levels ≤ suc more → (let whole = size + bytes (close_bracket ∷ rest) in Piece whole levels ends cs (bracket s script) rest) →
    (below : ℕ) × (commands : List (List Shape)) × (levels ≡ suc below) × (cs ≡ open_bracket ∷ (script.text ++ close_bracket ∷ rest))
    × (let whole = size + bytes (close_bracket ∷ rest) in Commands whole below true (script.text ++ close_bracket ∷ rest) commands (close_bracket ∷ rest)) × Commands size more false script.text commands []

-- An operand is the one that the text spells there, and has the fault that stands in it, and no other.
abbrev pub OperandIsSpelled : Type 0
OperandIsSpelled = (size levels : ℕ) (cs : List ℕ) → begins_operand cs ≡ true → ((w : Shape) (rest : List ℕ) → (operand size levels cs ≡ Ok (w, rest)) ↔ OperandWord size levels cs w rest)
    × ((m : Syntax) → (operand size levels cs ≡ Err m) ↔ BadOperand size levels cs m)

-- A text is complete unless it ends in a newline that a backslash hides, or its first faulty command is open at its end.
abbrev pub CompleteIsClosed : Type 0
CompleteIsClosed = (cs : List ℕ) → (is_complete cs ≡ true) ↔ ((ends_hidden false false cs ≡ false) × ((m : Syntax) → BadCommands (bytes cs) most_levels false cs m → is_open m ≡ false))
