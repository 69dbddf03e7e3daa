-- Whether a text is a whole number of commands, or waits for more (info(n), complete; the profile).
use Rattle.std.specs.Prelude.{ℕ, Bool, true, false, not, ◌&&◌, ◌==◌, List, [], ◌∷◌, Result, Ok, Err}
use Rattle.tcl_chars.specs.Characters.{newline, backslash}
use Rattle.tcl_chars.specs.Place.{bytes}
use Rattle.tcl_words.specs.declared.fault.Syntax.{Syntax}
use Rattle.tcl_words.specs.declared.fault.Syntax.TheVariants.{AfterBrace, AfterQuote, MissingBrace, MissingBracket, MissingQuote, MissingParen, MissingVariableBrace, TooDeep}
use Rattle.tcl_words.specs.First.{most_levels}
use Rattle.tcl_words.specs.Words.{inner_at, after_commands}

-- Does the text end in a newline behind an odd run of backslashes? The flags say of what stands before the text that
-- it ends in an odd run of backslashes, and in a newline behind one.
unfoldable pub ends_hidden : Bool → Bool → List ℕ → Bool
ends_hidden odd hidden [] = hidden
ends_hidden odd hidden (c ∷ cs) = ends_hidden (c == backslash && not odd) (odd && c == newline) cs

-- the fault is that the text ends too early
abbrev pub is_open : Syntax → Bool
is_open AfterBrace = false
is_open AfterQuote = false
is_open MissingBrace = true
is_open MissingBracket = true
is_open MissingQuote = true
is_open MissingParen = true
is_open MissingVariableBrace = true
is_open TooDeep = false

-- the first faulty command is open at the end of the text
abbrev pub ends_open : Result (List ℕ) Syntax → Bool
ends_open (Ok rest) = false
ends_open (Err m) = is_open m

-- what follows the commands of a whole text, or the fault of the first that is faulty
abbrev pub after_all : List ℕ → Result (List ℕ) Syntax
after_all text = after_commands (bytes text) (inner_at (bytes text) most_levels) false text

abbrev pub is_complete : List ℕ → Bool
is_complete text = not (ends_hidden false false text) && not (ends_open (after_all text))
