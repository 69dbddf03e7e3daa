-- Laws of reading and writing lists.
use Rattle.std.specs.Prelude.{◌≡◌, ℕ, Bool, true, false, List, [], ◌∷◌, ◌++◌, Ok, Err, ◌⊎◌, ◌↔◌}
use Rattle.tcl_list.specs.Elements.{elements_of}
use Rattle.tcl_list.specs.FirstFault.{ListFault}
use Rattle.tcl_list.specs.Spelling.{Reads}
use Rattle.tcl_list.specs.Written.{appended, written}

-- A text reads as the elements that it spells, and as no other.
abbrev pub ReadingIsSpelling : Type 0
ReadingIsSpelling = (cs : List ℕ) (es : List (List ℕ)) → (elements_of cs ≡ Ok es) ↔ Reads cs es

-- It has the fault that stands in it, and no other.
abbrev pub FaultIsFirst : Type 0
FaultIsFirst = (cs m : List ℕ) → (elements_of cs ≡ Err m) ↔ ListFault cs m

-- A text spells one list at most.
abbrev pub OneList : Type 0
OneList = (cs : List ℕ) (es fs : List (List ℕ)) → Reads cs es → Reads cs fs → es ≡ fs

-- Each text spells a list or has a fault, and none does both.
abbrev pub ReadingOrFault : Type 0
ReadingOrFault = (cs : List ℕ) → (((es : List (List ℕ)) × Reads cs es) ⊎ ((m : List ℕ) × ListFault cs m)) × ((es : List (List ℕ)) (m : List ℕ) → Reads cs es → ListFault cs m → ⊥)

-- What is written spells the elements that were written.
abbrev pub WrittenIsSpelled : Type 0
WrittenIsSpelled = (es : List (List ℕ)) → Reads (written es) es

abbrev pub has_none : List (List ℕ) → Bool
has_none [] = true
has_none (e ∷ es) = false

-- An element appended to what is written of others gives what is written of them and it. Where there are no others, it is the
-- first.
abbrev pub AppendedIsLonger : Type 0
AppendedIsLonger = (es : List (List ℕ)) (e : List ℕ) → written es ++ appended (has_none es) e ≡ written (es ++ e ∷ [])
