-- What is wrong with a text that spells no list (list(n), lindex(n)).
use Rattle.std.specs.Prelude.{◌≡◌, ◌≢◌, ℕ, true, false, List, [], ◌∷◌, ◌++◌}
use Rattle.tcl_chars.specs.Characters.{quote, open_brace, close_brace}
use Rattle.tcl_chars.specs.Classes.{is_list_space}
use Rattle.tcl_list.specs.Braces.{is_balanced}
use Rattle.tcl_list.specs.Faults.{unmatched_brace, unmatched_quote, followed_by}
use Rattle.tcl_list.specs.Spelling.{Letters, ElementEnds, Spells}
use Rattle.tcl_list.specs.declared.reading.Closed.TheVariants as closed
use Rattle.tcl_list.specs.declared.reading.End.TheVariants.{Space, Quote}

abbrev pub HasNoSpace : List ℕ → Type 0
HasNoSpace [] = Unit {0}
HasNoSpace (c ∷ cs) = (is_list_space c ≡ false) × HasNoSpace cs

-- The first fault from the left: elements are spelled in front of it, and then a brace has none that matches, a quote is not
-- closed, or the characters d and x stand directly behind what closes an element.
pub data ListFault : List ℕ → List ℕ → Type 0 where
  space : (c : ℕ) (cs m : List ℕ) → is_list_space c ≡ true → ListFault cs m → ListFault (c ∷ cs) m
  element : (cs e rest m : List ℕ) → Spells cs e rest → ListFault rest m → ListFault cs m
  no_brace : (c : ℕ) (cs : List ℕ) → c ≡ open_brace → ((e rest : List ℕ) → is_balanced e ≡ true → cs ≢ e ++ close_brace ∷ rest) → ListFault (c ∷ cs) unmatched_brace
  no_quote : (c : ℕ) (cs e : List ℕ) → c ≡ quote → Letters Quote cs e [] → ListFault (c ∷ cs) unmatched_quote
  behind_brace : (c d : ℕ) (cs e x rest : List ℕ) → c ≡ open_brace → is_balanced e ≡ true → cs ≡ e ++ close_brace ∷ d ∷ (x ++ rest) → HasNoSpace (d ∷ x) → ElementEnds Space rest
      → ListFault (c ∷ cs) (followed_by closed.Brace (d ∷ x))
  behind_quote : (c d : ℕ) (cs e x rest : List ℕ) → c ≡ quote → Letters Quote cs e (quote ∷ d ∷ (x ++ rest)) → HasNoSpace (d ∷ x) → ElementEnds Space rest
      → ListFault (c ∷ cs) (followed_by closed.Quote (d ∷ x))
