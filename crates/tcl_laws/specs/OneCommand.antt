-- A written list as a command: its words are the elements (list(n)).
use Rattle.std.specs.Prelude.{◌≡◌, ℕ, Bool, true, ◌&&◌, ◌||◌, ◌==◌, false, List, [], ◌∷◌, ◌++◌, Option, Some, None, option_map}
use Rattle.tcl_chars.specs.Characters.{newline, semicolon, close_bracket}
use Rattle.tcl_list.specs.Written.{written}
use Rattle.tcl_words.specs.First.{command, first}
use Rattle.tcl_words.specs.Parts.{Part, text, escape, var, elem_, bracket, Shape}
use Rattle.tcl_words.specs.Words.{after_command}

-- what pieces say by themselves; nothing where a variable or a bracket is among them
abbrev pub plain_value : List Part → Option (List ℕ)
plain_value [] = Some []
plain_value (text s ∷ ps) = option_map (λ t. s.text ++ t) (plain_value ps)
plain_value (escape s c ∷ ps) = option_map (λ t. c ∷ t) (plain_value ps)
plain_value (var s name ∷ ps) = None
plain_value (elem_ s name index ∷ ps) = None
plain_value (bracket s script ∷ ps) = None

-- the word is the element e, whatever variables and commands there are
pub record IsWord (w : Shape) (e : List ℕ) : Type 0 where
  pub single : w.expands ≡ false
  pub value : plain_value w.pieces ≡ Some e

-- as many words as elements, each its element
abbrev pub AreWords : List Shape → List (List ℕ) → Type 0
AreWords [] [] = Unit {0}
AreWords (w ∷ ws) (e ∷ es) = IsWord w e × AreWords ws es
AreWords [] (e ∷ es) = ⊥
AreWords (w ∷ ws) [] = ⊥

-- a command ends here: at the end of the text, a newline or a semicolon, or inside brackets `]`
abbrev pub ends_command : Bool → List ℕ → Bool
ends_command nested [] = true
ends_command nested (c ∷ cs) = c == newline || c == semicolon || (nested && c == close_bracket)

-- What is written of one element or more is one command, whose words are the elements, inside brackets or not.
abbrev pub OneCommand : Type 0
OneCommand = (size levels : ℕ) (nested : Bool) (e : List ℕ) (es : List (List ℕ)) →
    (words : List Shape) × (first size levels nested (written (e ∷ es)) ≡ command words []) × AreWords words (e ∷ es)

-- So it is where the end of a command follows it.
abbrev pub NextCommand : Type 0
NextCommand = (size levels : ℕ) (nested : Bool) (e : List ℕ) (es : List (List ℕ)) (rest : List ℕ) → ends_command nested rest ≡ true →
    (words : List Shape) × (first size levels nested (written (e ∷ es) ++ rest) ≡ command words (after_command rest)) × AreWords words (e ∷ es)
