-- The token of an operand that is a word, a bracket or a variable.
use Rattle.std.proofs.Common.{◌≡◌, ℕ, List, [], length, drop, Result, Ok, Err, true, refl, ap, subst, ◌∙◌}
use Rattle.std.specs.Str.{chars}
use Rattle.std.proofs.lemmas.Str.{chars-nil}
use Rattle.tcl_words.specs.declared.fault.Syntax.{Syntax}
use Rattle.tcl_words.specs.declared.word.Operand.TheVariants as found
use Rattle.tcl_words.specs.declared.word.Word.{Word}
use Rattle.tcl_words.specs.First.{operand, begins_operand, IsOperand, IsRestAt}
use Rattle.tcl_words.specs.Parts.{Shape, shape_of}
use Rattle.tcl_expr.specs.Expr.{word}
use Rattle.tcl_expr.specs.Token.{Operand, Malformed}
use Rattle.tcl_expr.specs.Tokens.{word_token}

found_word : (text : List ℕ) (w : Word) (at : ℕ) (r : Result (Shape × List ℕ) Syntax) → IsOperand text (found.Found w at) r → (Operand (word (shape_of w)) ≡ (word_token r).0) × (chars (drop at text) ≡ (word_token r).1)
found_word text w at (Ok x) p = (ap (λ s. Operand (word s)) p.0, p.1.left)
found_word text w at (Err n) p = absurd p

bad_word : (text : List ℕ) (m : Syntax) (r : Result (Shape × List ℕ) Syntax) → IsOperand text (found.Bad m) r → (Malformed m ≡ (word_token r).0) × ([] ≡ (word_token r).1)
bad_word text m (Err n) p = (ap Malformed p, refl)
bad_word text m (Ok x) p = absurd p

-- of a text from a place on that is given by what is left there
pub word_here : (text here : List ℕ) (levels from at : ℕ) (w : Word) → IsRestAt text from here → IsOperand text (found.Found w at) (operand (length text) levels (chars (drop from text)))
    → (Operand (word (shape_of w)) ≡ (word_token (operand (length text) levels here)).0) × (chars (drop at text) ≡ (word_token (operand (length text) levels here)).1)
word_here text here levels from at w p h =
    let P : List ℕ → Type 0 = λ z. IsOperand text (found.Found w at) (operand (length text) levels z) in
    found_word text w at (operand (length text) levels here) (subst P p.left h)

pub bad_here : (text here : List ℕ) (levels from : ℕ) (m : Syntax) → IsRestAt text from here → IsOperand text (found.Bad m) (operand (length text) levels (chars (drop from text)))
    → (Malformed m ≡ (word_token (operand (length text) levels here)).0) × (chars [] ≡ (word_token (operand (length text) levels here)).1)
bad_here text here levels from m p h =
    let P : List ℕ → Type 0 = λ z. IsOperand text (found.Bad m) (operand (length text) levels z) in
    let b = bad_word text m (operand (length text) levels here) (subst P p.left h) in
    (b.0, chars-nil ∙ b.1)

pub begins_there : (text here : List ℕ) (from : ℕ) → IsRestAt text from here → begins_operand here ≡ true → begins_operand (chars (drop from text)) ≡ true
begins_there text here from p h = ap begins_operand p.left ∙ h
