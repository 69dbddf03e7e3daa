-- `switch`, inlined: of one word's text and a literal list of patterns and bodies, with `--` or nothing in front (switch(n)).
use Rattle.std.specs.Prelude.{◌≡◌, ◌≤◌, ℕ, suc, Bool, true, false, List, [], ◌∷◌, length, map, Ok}
use Rattle.tcl_chars.specs.declared.numbers.Dialect.{Dialect}
use Rattle.tcl_chars.specs.Texts.{literal}
use Rattle.tcl_expr.specs.declared.token.BinaryOp.TheVariants as binary
use Rattle.tcl_list.specs.Elements.{elements_of}
use Rattle.tcl_list.specs.Texts as texts
use Rattle.tcl_words.specs.Parts.{Shape}
use Rattle.tcl_pages.specs.Dictionaries.{pairs}
use Rattle.tcl_pages.specs.Texts.{Text}
use Rattle.tcl_meaning.specs.Asking.{ask}
use Rattle.tcl_meaning.specs.Control.{body_asks}
use Rattle.tcl_meaning.specs.Effects.{Here}
use Rattle.tcl_meaning.specs.Shapes.{chosen, is_dash, is_word}
use Rattle.tcl_meaning.specs.Tasks.{Run, Nothing}
use Rattle.tcl_code.specs.Guards.{name_of}
use Rattle.tcl_code.specs.Instructions.{Instruction, Push, Duplicate, Under, Call, Binary}
use Rattle.tcl_code.specs.declared.inlined.Inlined.TheVariants as inlined
use Rattle.tcl_compile.specs.Inlining.{Uses, asking}
use Rattle.tcl_compile.specs.Literals.{IsLiteral, text_of}
use Rattle.tcl_compile.specs.declared.switching.SwitchForm.{SwitchForm}

-- ---- words

-- patterns, each with a body behind it that isn't `-`
abbrev pub AreArms : List Text → Type 0
AreArms [] = Unit {0}
AreArms (pattern ∷ []) = ⊥
AreArms (pattern ∷ body ∷ ts) = (is_dash body ≡ false) × AreArms ts

abbrev pub most_arm_texts : ℕ
most_arm_texts = 128

-- the elements of a list of such, not too many
abbrev pub IsArmList : Text → List Text → Type 0
IsArmList list ts = (elements_of list ≡ Ok ts) × AreArms ts × (length ts ≤ most_arm_texts)

-- the command's name, `--` or nothing, a word, and one more
abbrev pub IsMarked : Bool → List Shape → Type 0
IsMarked false (w0 ∷ w ∷ w1 ∷ []) = IsLiteral w0 (name_of inlined.Switch) × (w.expands ≡ false)
IsMarked true (w0 ∷ mark ∷ w ∷ w1 ∷ []) = IsLiteral w0 (name_of inlined.Switch) × IsLiteral mark (literal "--") × (w.expands ≡ false)
IsMarked _ _ = ⊥

-- the last word is this list
abbrev pub EndsIn : Text → List Shape → Type 0
EndsIn list [] = ⊥
EndsIn list (w ∷ []) = IsLiteral w list
EndsIn list (w ∷ x ∷ ws) = EndsIn list (x ∷ ws)

abbrev pub IsSwitch : SwitchForm → List Shape → Type 0
IsSwitch f ws = IsMarked f.marked ws × EndsIn (text_of f.list) ws × IsArmList (text_of f.list) (map texts.text_of f.arms.items)

-- ---- arms

-- there is one pattern, and it is `default`
abbrev pub is_last_default : List Text → Bool
is_last_default (pattern ∷ body ∷ []) = is_word (literal "default") pattern
is_last_default _ = false

-- ---- code

-- the general call, where the word's text is on top
abbrev pub called_by : Bool → Text → List Instruction
called_by false list = Under (name_of inlined.Switch) ∷ Push list ∷ Call 3 ∷ []
called_by true list = Under (name_of inlined.Switch) ∷ Under (literal "--") ∷ Push list ∷ Call 4 ∷ []

-- whether the text on top is a pattern
abbrev pub testing : Text → List Instruction
testing pattern = Duplicate ∷ Push pattern ∷ Binary binary.TextEqual ∷ []

-- the text on top is dropped, and a body is run
abbrev pub ArmCode : Dialect → Text → List Instruction → Type 0
ArmCode dialect body c = (n : ℕ) → Uses dialect 0 0 c (λ d t. asking dialect (suc n) (ask (Run Here body Nothing)) d)

-- the body of the first pattern that the text on top is
abbrev pub ArmsCode : Dialect → List Text → List Instruction → Type 0
ArmsCode dialect ts c = Uses dialect 0 0 c (λ d t. asking dialect 1 (body_asks (chosen false t (pairs ts))) d)
