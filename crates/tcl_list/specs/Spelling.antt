-- When a text spells elements, said by its parts rather than by a reader (list(n), lindex(n)).
use Rattle.std.specs.Prelude.{◌≡◌, ◌≢◌, ℕ, true, false, List, [], ◌∷◌, ◌++◌, drop}
use Rattle.tcl_chars.specs.Characters.{backslash, quote, open_brace, close_brace}
use Rattle.tcl_chars.specs.Classes.{is_list_space}
use Rattle.tcl_chars.specs.Escape.{escape}
use Rattle.tcl_list.specs.Braces.{is_balanced}
use Rattle.tcl_list.specs.Elements.{ends}
use Rattle.tcl_list.specs.declared.reading.End.{End}
use Rattle.tcl_list.specs.declared.reading.End.TheVariants.{Space, Quote}

-- The text is `said` and then the rest: a character that neither ends the element nor is a backslash says itself, and an
-- escape, the longest that the text allows, says what it stands for (Tcl(n), rule 9).
pub data Letters (end : End) : List ℕ → List ℕ → List ℕ → Type 0 where
  none : (rest : List ℕ) → Letters end rest [] rest
  plain : (c : ℕ) (cs said rest : List ℕ) → ends end c ≡ false → c ≢ backslash → Letters end cs said rest → Letters end (c ∷ cs) (c ∷ said) rest
  escaped : (c : ℕ) (cs said rest : List ℕ) → c ≡ backslash → Letters end (drop (escape (c ∷ cs)).1 (c ∷ cs)) said rest → Letters end (c ∷ cs) ((escape (c ∷ cs)).0 ∷ said) rest

-- nothing follows, or what ends the element
abbrev pub ElementEnds : End → List ℕ → Type 0
ElementEnds end [] = Unit {0}
ElementEnds end (c ∷ cs) = ends end c ≡ true

-- The text is one spelling of the element e and then the rest, from which list space or the end divides it.
pub data Spells : List ℕ → List ℕ → List ℕ → Type 0 where
  bare : (c : ℕ) (cs e rest : List ℕ) → is_list_space c ≡ false → c ≢ open_brace → c ≢ quote → Letters Space (c ∷ cs) e rest → ElementEnds Space rest → Spells (c ∷ cs) e rest
  quoted : (c : ℕ) (cs e rest : List ℕ) → c ≡ quote → Letters Quote cs e (quote ∷ rest) → ElementEnds Space rest → Spells (c ∷ cs) e rest
  braced : (c : ℕ) (cs e rest : List ℕ) → c ≡ open_brace → is_balanced e ≡ true → cs ≡ e ++ close_brace ∷ rest → ElementEnds Space rest → Spells (c ∷ cs) e rest

-- The text spells each of the elements once, in order, with list space between them and round them.
pub data Reads : List ℕ → List (List ℕ) → Type 0 where
  nothing : Reads [] []
  space : (c : ℕ) (cs : List ℕ) (es : List (List ℕ)) → is_list_space c ≡ true → Reads cs es → Reads (c ∷ cs) es
  element : (cs e rest : List ℕ) (es : List (List ℕ)) → Spells cs e rest → Reads rest es → Reads cs (e ∷ es)
