-- The brace that closes an element, and the one that closes a word.
use Rattle.std.specs.Prelude.{◌≡◌, ℕ, false, List, Ok, Some, ◌↔◌}
use Rattle.tcl_list.specs.Braces.{to_close}
use Rattle.tcl_words.specs.Words.{at_brace}

-- The brace that closes an element in braces is the one that closes a word in braces (Tcl(n), rule 6).
abbrev pub SameBraceCloses : Type 0
SameBraceCloses = (cs rest : List ℕ) → (to_close false 0 cs ≡ Some rest) ↔ (at_brace false 0 cs ≡ Ok rest)
