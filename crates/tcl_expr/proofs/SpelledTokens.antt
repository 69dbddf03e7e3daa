-- Tokens, whatever is wanted: a text begins with one at most, and with one.
use Rattle.std.proofs.Common.{◌≡◌, ℕ, Bool, true, false, List, [], ◌∷◌, Option, Some, None, refl, sym, ap, subst, ◌∙◌}
use Rattle.std.specs.Prelude.{IfSome}
use Rattle.tcl_chars.specs.Classes.{is_list_space}
use Rattle.tcl_chars.specs.Whole.{skip_space}
use Rattle.tcl_chars.specs.declared.numbers.Dialect.{Dialect}
use Rattle.tcl_expr.specs.Spelling.{Spells}
use Rattle.tcl_expr.specs.Token.{Token}
use Rattle.tcl_expr.specs.Tokens.{operand_token, operator_token, next_token}
use Rattle.tcl_expr.proofs.SpelledOperators.{operator_read, operator_spelled, some_operator}
use Rattle.tcl_expr.proofs.SpelledOperands.{operand_read, operand_spelled, some_operand}

-- ---- either way

unfoldable pub token_here : (wants : Bool) (dialect : Dialect) (size levels : ℕ) → List ℕ → Option (Token × List ℕ)
token_here true dialect size levels here = operand_token dialect size levels here
token_here false dialect size levels here = operator_token here

pub token_read : (wants : Bool) (dialect : Dialect) (size levels : ℕ) (here : List ℕ) (t : Token) (rest : List ℕ) → Spells wants dialect size levels here t rest → token_here wants dialect size levels here ≡ Some (t, rest)
unfolding token_here
token_read true dialect size levels here t rest h = operand_read dialect size levels here t rest h
token_read false dialect size levels here t rest h = operator_read here t rest h

pub token_spelled : (wants : Bool) (dialect : Dialect) (size levels : ℕ) (here : List ℕ) → IfSome (token_here wants dialect size levels here) (λ x. Spells wants dialect size levels here x.0 x.1)
unfolding token_here
token_spelled true dialect size levels here = operand_spelled dialect size levels here
token_spelled false dialect size levels here = operator_spelled here

pub no_token_here : (wants : Bool) (dialect : Dialect) (size levels : ℕ) (here : List ℕ) → token_here wants dialect size levels here ≡ None → here ≡ []
unfolding token_here operand_token operator_token
no_token_here wants dialect size levels [] e = refl
no_token_here true dialect size levels (c ∷ cs) e = absurd (some_operand dialect size levels c cs e)
no_token_here false dialect size levels (c ∷ cs) e = absurd (some_operator c cs e)

pub nothing_here : (wants : Bool) (dialect : Dialect) (size levels : ℕ) → token_here wants dialect size levels [] ≡ None
unfolding token_here operand_token operator_token
nothing_here true dialect size levels = refl
nothing_here false dialect size levels = refl

-- what follows white space
pub next_is : (dialect : Dialect) (size : ℕ) (wants : Bool) (levels : ℕ) (cs : List ℕ) → next_token dialect size wants levels cs ≡ token_here wants dialect size levels (skip_space cs)
unfolding next_token token_here
next_is dialect size true levels cs = refl
next_is dialect size false levels cs = refl

token_or : Token → Option (Token × List ℕ) → Token
token_or t None = t
token_or t (Some x) = x.0

rest_or : List ℕ → Option (Token × List ℕ) → List ℕ
rest_or rest None = rest
rest_or rest (Some x) = x.1

same_token : (o : Option (Token × List ℕ)) (t u : Token) (rest left : List ℕ) → o ≡ Some (t, rest) → o ≡ Some (u, left) → (t ≡ u) × (rest ≡ left)
unfolding token_or rest_or
same_token o t u rest left e f = (sym (ap (token_or t) e) ∙ ap (token_or t) f, sym (ap (rest_or rest) e) ∙ ap (rest_or rest) f)

some_spelled : (wants : Bool) (dialect : Dialect) (size levels c : ℕ) (cs : List ℕ) (o : Option (Token × List ℕ)) → token_here wants dialect size levels (c ∷ cs) ≡ o → (t : Token) × (rest : List ℕ) × Spells wants dialect size levels (c ∷ cs) t rest
some_spelled wants dialect size levels c cs None e = let k = no_token_here wants dialect size levels (c ∷ cs) e in absurd cc
some_spelled wants dialect size levels c cs (Some x) e =
    let P : Option (Token × List ℕ) → Type 0 = λ o. IfSome o (λ x. Spells wants dialect size levels (c ∷ cs) x.0 x.1) in
    (x.0, x.1, subst P e (token_spelled wants dialect size levels (c ∷ cs)))

pub token_at_once : (wants : Bool) (dialect : Dialect) (size levels c : ℕ) (cs : List ℕ) → is_list_space c ≡ false
    → ((t : Token) × (rest : List ℕ) × Spells wants dialect size levels (c ∷ cs) t rest)
    × ((t u : Token) (rest left : List ℕ) → Spells wants dialect size levels (c ∷ cs) t rest → Spells wants dialect size levels (c ∷ cs) u left → (t ≡ u) × (rest ≡ left))
token_at_once wants dialect size levels c cs e = (
  some_spelled wants dialect size levels c cs (token_here wants dialect size levels (c ∷ cs)) refl,
  λ t u rest left h k. same_token _ t u rest left (token_read wants dialect size levels (c ∷ cs) t rest h) (token_read wants dialect size levels (c ∷ cs) u left k),
)
