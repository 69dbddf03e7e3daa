-- The loops `while {..} {..}` of a text, and the turns back in its code.
use Rattle.std.specs.Prelude.{◌≡◌, ◌≤◌, ◌<◌, ℕ, Bool, true, false, not, ◌&&◌, List, [], ◌∷◌, count_by}
use Rattle.tcl_chars.specs.declared.numbers.Dialect.{Dialect}
use Rattle.tcl_words.specs.First.{First, command, first_command, most_levels}
use Rattle.tcl_words.specs.Parts.{Part, text, Shape}
use Rattle.tcl_words.specs.declared.word.Form.{Form}
use Rattle.tcl_words.specs.declared.word.Form.TheVariants.{Bare, Braced}
use Rattle.tcl_pages.specs.Texts.{Text}
use Rattle.tcl_meaning.specs.Shapes.{is_word}
use Rattle.tcl_code.specs.Guards.{name_of}
use Rattle.tcl_code.specs.Instructions.{Instruction}
use Rattle.tcl_code.specs.Turns.{turns_of}
use Rattle.tcl_code.specs.declared.inlined.Inlined.TheVariants as inlined
use Rattle.tcl_compile.specs.Emitted.{CommandCode, ScriptCode}
use Rattle.tcl_compile.specs.Literals.{IsStretch, AllLiteral}

-- ---- the commands of a text

-- no command stands in front
abbrev pub IsOver : First → Type 0
IsOver (command ws rest) = ⊥
IsOver _ = Unit {0}

-- First reads these commands from a text, one after another
abbrev pub ReadsAs : Text → List (List Shape) → Type 0
ReadsAs t [] = IsOver (first_command most_levels t)
ReadsAs t (ws ∷ wss) = (rest : Text) × (first_command most_levels t ≡ command ws rest) × ReadsAs rest wss

-- ---- those that are loops

abbrev pub is_bare : Form → Bool
is_bare Bare = true
is_bare _ = false

abbrev pub is_braced : Form → Bool
is_braced Braced = true
is_braced _ = false

-- the one piece is this text
abbrev pub is_only : Text → List Part → Bool
is_only t (text s ∷ []) = is_word t s.text
is_only t _ = false

-- the bare word `while`
abbrev pub names_while : Shape → Bool
names_while w = is_bare w.form && not w.expands && is_only (name_of inlined.While) w.pieces

-- `{..}`
abbrev pub is_braced_word : Shape → Bool
is_braced_word w = is_braced w.form && not w.expands

-- `while {..} {..}`
abbrev pub is_while : List Shape → Bool
is_while (name ∷ test ∷ body ∷ []) = names_while name && is_braced_word test && is_braced_word body
is_while _ = false

abbrev pub whiles : List (List Shape) → ℕ
whiles = count_by is_while

-- a code has a turn back for each of them
abbrev pub HasTurns : Text → List Instruction → Type 0
HasTurns t code = (wss : List (List Shape)) → ReadsAs t wss → whiles wss ≤ turns_of code

-- ---- what is emitted for them

-- `while` as one stretch, and two literal words
abbrev pub IsWhile : List Shape → Type 0
IsWhile [] = ⊥
IsWhile (name ∷ ws) = (test : Text) × (body : Text) × IsStretch name × AllLiteral (name ∷ ws) (name_of inlined.While ∷ test ∷ body ∷ [])

-- for a command, and for a script; whether it is one of the text's own, or the whole
abbrev pub CommandMade : Dialect → Bool → List Shape → List Instruction → Type 0
CommandMade dialect outermost ws c = CommandCode dialect ws c × (outermost ≡ true → IsWhile ws → 0 < turns_of c)

abbrev pub ScriptMade : Dialect → Bool → Text → List Instruction → Type 0
ScriptMade dialect outermost t c = ScriptCode dialect t c × (outermost ≡ true → HasTurns t c)
