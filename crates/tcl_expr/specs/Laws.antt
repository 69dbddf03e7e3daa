-- Laws of the definitions.
use Rattle.std.specs.Prelude.{◌≡◌, ℕ, Bool, false, List, ◌∷◌, None, Some, Ok, Err, ◌⊎◌, ◌↔◌}
use Rattle.tcl_chars.specs.Classes.{is_list_space}
use Rattle.tcl_chars.specs.declared.numbers.Dialect.{Dialect}
use Rattle.tcl_expr.specs.Token.{Token}
use Rattle.tcl_expr.specs.Tokens.{tokens}
use Rattle.tcl_expr.specs.ExprFault.{ExprFault}
use Rattle.tcl_expr.specs.Expr.{Expr}
use Rattle.tcl_expr.specs.Grammar.{IsTree}
use Rattle.tcl_expr.specs.Faults.{expr_fault}
use Rattle.tcl_expr.specs.Machine.{expression_of}
use Rattle.tcl_expr.specs.Spelling.{Spells, IsSpelled}

abbrev pub OneTree : Type 0
OneTree = (ts : List Token) (e f : Expr) → IsTree ts e → IsTree ts f → e ≡ f

abbrev pub TreeOrFault : Type 0
TreeOrFault = (ts : List Token) → ((e : Expr) × IsTree ts e × (expr_fault ts ≡ None)) ⊎ ((m : ExprFault) × (expr_fault ts ≡ Some m) × ((e : Expr) → IsTree ts e → ⊥))

abbrev pub ReadsTrees : Type 0
ReadsTrees = (dialect : Dialect) (text : List ℕ) (e : Expr) → (expression_of dialect text ≡ Ok e → IsTree (tokens dialect text) e) × (IsTree (tokens dialect text) e → expression_of dialect text ≡ Ok e)

abbrev pub ReadsFaults : Type 0
ReadsFaults = (dialect : Dialect) (text : List ℕ) (m : ExprFault) → (expression_of dialect text ≡ Err m → expr_fault (tokens dialect text) ≡ Some m) × (expr_fault (tokens dialect text) ≡ Some m → expression_of dialect text ≡ Err m)

-- The tokens that are read of a text are those by which it is spelled, and no others.
abbrev pub TokensAreSpelled : Type 0
TokensAreSpelled = (dialect : Dialect) (text : List ℕ) (ts : List Token) → (tokens dialect text ≡ ts) ↔ IsSpelled dialect text ts

-- A text is spelled by one list of tokens at most.
abbrev pub OneTokenList : Type 0
OneTokenList = (dialect : Dialect) (text : List ℕ) (ts us : List Token) → IsSpelled dialect text ts → IsSpelled dialect text us → ts ≡ us

-- Where a token is looked for, the first character that is no white space begins one, whatever is wanted; and one only.
abbrev pub TokenAtOnce : Type 0
TokenAtOnce = (wants : Bool) (dialect : Dialect) (size levels c : ℕ) (cs : List ℕ) → is_list_space c ≡ false
    → ((t : Token) × (rest : List ℕ) × Spells wants dialect size levels (c ∷ cs) t rest)
    × ((t u : Token) (rest left : List ℕ) → Spells wants dialect size levels (c ∷ cs) t rest → Spells wants dialect size levels (c ∷ cs) u left → (t ≡ u) × (rest ≡ left))
