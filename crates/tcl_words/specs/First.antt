-- The first command of a text.
use Rattle.std.specs.Prelude.{◌≡◌, ℕ, Bool, false, ◌||◌, ◌&&◌, ◌==◌, List, [], ◌∷◌, length, drop, map, Option, Some, None, Result, Ok, Err}
use Rattle.std.specs.Str.{chars, IsCharBoundary}
use Rattle.tcl_chars.specs.Characters.{open_brace, quote, open_bracket, dollar}
use Rattle.tcl_chars.specs.Place.{bytes, place}
use Rattle.tcl_words.specs.declared.fault.Syntax.{Syntax}
use Rattle.tcl_words.specs.declared.word.Operand.{Operand}
use Rattle.tcl_words.specs.declared.word.Operand.TheVariants as found
use Rattle.tcl_words.specs.declared.word.Parsed.{Parsed}
use Rattle.tcl_words.specs.declared.word.Parsed.TheVariants as parsed
use Rattle.tcl_words.specs.Parts.{Shape, shape_of}
use Rattle.tcl_words.specs.Words.{first_at, operand_at, begins_variable, inner_at}

-- the first command of a text, and the text behind it
pub data First : Type 0 where
  -- separators and comments alone
  none : (rest : List ℕ) → First
  malformed : Syntax → First
  command : (words : List Shape) → (rest : List ℕ) → First

abbrev pub first_of : Result (Option (List Shape) × List ℕ) Syntax → First
first_of (Err m) = malformed m
first_of (Ok (None, rest)) = none rest
first_of (Ok (Some words, rest)) = command words rest

-- brackets and indices may stand in one another this deep
abbrev pub most_levels : ℕ
most_levels = 200

-- The first command of what is left of a text of `size` bytes, inside brackets or not, in which brackets and indices
-- stand in one another at most `levels` deep.
unfoldable pub first : ℕ → ℕ → Bool → List ℕ → First
first size levels nested cs = first_of (first_at size (inner_at size levels) nested cs)

-- the first command of a whole text
abbrev pub first_command : ℕ → List ℕ → First
first_command levels text = first (bytes text) levels false text

-- what begins an operand that is a word, a bracket or a variable
abbrev pub begins_operand : List ℕ → Bool
begins_operand [] = false
begins_operand (c ∷ cs) = c == open_brace || c == quote || c == open_bracket || (c == dollar && begins_variable cs)

-- the operand that begins what is left of a text of `size` bytes
unfoldable pub operand : ℕ → ℕ → List ℕ → Result (Shape × List ℕ) Syntax
operand size levels cs = operand_at size (inner_at size levels) cs

-- ---- what the code answers

-- a place in a text, and the text behind it
pub record IsRestAt (text : List ℕ) (at : ℕ) (rest : List ℕ) : Type 0 where
  pub boundary : IsCharBoundary text at
  pub left : chars (drop at text) ≡ rest
  pub in_bytes : at ≡ place (length text) rest

abbrev pub IsParsed : List ℕ → Parsed → First → Type 0
IsParsed text (parsed.End at) (none rest) = IsRestAt text at rest
IsParsed text (parsed.Bad m) (malformed n) = m ≡ n
IsParsed text (parsed.Command words at) (command shapes rest) = (map shape_of words.items ≡ shapes) × IsRestAt text at rest
IsParsed text (parsed.End at) (malformed n) = ⊥
IsParsed text (parsed.End at) (command shapes rest) = ⊥
IsParsed text (parsed.Bad m) (none rest) = ⊥
IsParsed text (parsed.Bad m) (command shapes rest) = ⊥
IsParsed text (parsed.Command words at) (none rest) = ⊥
IsParsed text (parsed.Command words at) (malformed n) = ⊥

abbrev pub IsOperand : List ℕ → Operand → Result (Shape × List ℕ) Syntax → Type 0
IsOperand text (found.Found word at) (Ok x) = (shape_of word ≡ x.0) × IsRestAt text at x.1
IsOperand text (found.Bad m) (Err n) = m ≡ n
IsOperand text (found.Found word at) (Err n) = ⊥
IsOperand text (found.Bad m) (Ok x) = ⊥
