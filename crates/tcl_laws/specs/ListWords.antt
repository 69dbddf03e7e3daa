-- The words of a written list, by the meaning of scripts, are its elements: list(n); Tcl(n), rules 2 to 8.
use Rattle.std.specs.Prelude.{◌≡◌, ℕ, Bool, true, List, [], ◌∷◌, ◌++◌}
use Rattle.tcl_chars.specs.declared.numbers.Dialect.{Dialect}
use Rattle.tcl_words.specs.First.{command, first}
use Rattle.tcl_words.specs.Parts.{Shape}
use Rattle.tcl_words.specs.Words.{after_command}
use Rattle.tcl_laws.specs.OneCommand.{ends_command}
use Rattle.tcl_list.specs.Written.{written}
use Rattle.tcl_pages.specs.Texts.{Text}
use Rattle.tcl_meaning.specs.Effects.{Gives, exec}
use Rattle.tcl_meaning.specs.Script.{Run}
use Rattle.tcl_meaning.specs.State.{State}
use Rattle.tcl_meaning.specs.Substitution.{pieces_text, words_text}
use Rattle.tcl_meaning.specs.Value.{Has, ◌>>=◌, give}

-- In every state, at every depth and in every dialect of numbers, the words come to these texts. The state is afterwards what it
-- was: variables, commands, channels and units.
abbrev pub WordsGive : List Shape → List Text → Type 0
WordsGive words texts = (dialect : Dialect) (depth : ℕ) (s : State) → exec (Run dialect) (words_text depth words) s ≡ Gives (Has texts) s

-- What is written of one element or more is one command, inside brackets or not, and its words come to the elements.
abbrev pub WordsAreElements : Type 0
WordsAreElements = (size levels : ℕ) (nested : Bool) (e : Text) (es : List Text) →
    (words : List Shape) × (first size levels nested (written (e ∷ es)) ≡ command words []) × WordsGive words (e ∷ es)

-- So it is where the end of a command follows it.
abbrev pub NextWordsAreElements : Type 0
NextWordsAreElements = (size levels : ℕ) (nested : Bool) (e : Text) (es : List Text) (rest : Text) → ends_command nested rest ≡ true →
    (words : List Shape) × (first size levels nested (written (e ∷ es) ++ rest) ≡ command words (after_command rest)) × WordsGive words (e ∷ es)

-- A word with `{*}` in front that comes to a written list is replaced by its elements, each a word: Tcl(n), rule 5.
abbrev pub ExpandsToElements : Type 0
ExpandsToElements = (dialect : Dialect) (depth : ℕ) (w : Shape) (ws : List Shape) (es : List Text) (s t : State) →
    w.expands ≡ true → exec (Run dialect) (pieces_text depth w.pieces) s ≡ Gives (Has (written es)) t
    → exec (Run dialect) (words_text depth (w ∷ ws)) s ≡ exec (Run dialect) (words_text depth ws >>= λ more. give (es ++ more)) t
