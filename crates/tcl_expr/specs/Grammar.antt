-- The grammar of expressions.
use Rattle.std.specs.Prelude.{◌≡◌, ℕ, suc, ◌<◌, nat_lt, ◌==◌, ◌&&◌, true, false, List, [], ◌∷◌, Option, Some, None, if◌then◌else◌}
use Rattle.tcl_words.specs.Parts.{Stretch}
use Rattle.tcl_expr.specs.declared.token.Function.{Function}
use Rattle.tcl_expr.specs.Token.{Token}
use Rattle.tcl_expr.specs.Token as token
use Rattle.tcl_expr.specs.ExprFault.{ExprFault}
use Rattle.tcl_expr.specs.ExprFault as fault
use Rattle.tcl_expr.specs.Expr.{Expr, operand, group, call, unary, power, chain, choice, Rest, last, next, Args, no_args, arg, level_of, takes_one, argument_count}
-- at most this many levels may be open in one another
pub use Rattle.tcl_words.specs.First.{most_levels}

-- the tokens of an expression, in front of those that follow
unfoldable mutual
  pub spelled : Expr → List Token → List Token
  spelled (operand s) k = token.Operand s ∷ k
  spelled (group e) k = token.Open ∷ spelled e (token.Close ∷ k)
  spelled (call f s es) k = token.Call f s ∷ spelled_args es (token.Close ∷ k)
  spelled (unary u e) k = token.Unary u ∷ spelled e k
  spelled (power e f) k = spelled e (token.Power ∷ spelled f k)
  spelled (chain q e r) k = spelled e (spelled_rest r k)
  spelled (choice c e f) k = spelled c (token.Question ∷ spelled e (token.Colon ∷ spelled f k))

  pub spelled_rest : Rest → List Token → List Token
  spelled_rest last k = k
  spelled_rest (next op e r) k = token.Binary op ∷ spelled e (spelled_rest r k)

  pub spelled_args : Args → List Token → List Token
  spelled_args no_args k = k
  spelled_args (arg e es) k = spelled e (spelled_more es k)

  pub spelled_more : Args → List Token → List Token
  spelled_more no_args k = k
  spelled_more (arg e es) k = token.Comma ∷ spelled e (spelled_more es k)

-- what is wrong with a call of n arguments
abbrev pub miscount : Function → Stretch → ℕ → Option ExprFault
miscount f s n =
    if n == 0 then Some (fault.ArgumentCount s false)
    else if takes_one f && nat_lt 1 n then Some (fault.ArgumentCount s true)
    else None

abbrev pub IsSome_rest : Rest → Type 0
IsSome_rest last = ⊥
IsSome_rest (next op e r) = Unit {0}

-- Levels: unary operators 0, `**` 1, the operators that group left 2 to 13, `?:` 14.
-- IsExpr b d e: e is an expression of a level below b, where d levels are open round it.
unfoldable mutual
  pub IsExpr : ℕ → ℕ → Expr → Type 0
  IsExpr b d (operand s) = Unit {0}
  IsExpr b d (group e) = (d < most_levels) × IsExpr 15 (suc d) e
  IsExpr b d (call f s es) = (d < most_levels) × (miscount f s (argument_count es) ≡ None) × AreExprs (suc d) es
  IsExpr b d (unary u e) = (d < most_levels) × IsExpr 1 (suc d) e
  -- groups right
  IsExpr b d (power e f) = (1 < b) × (d < most_levels) × IsExpr 1 d e × IsExpr 2 (suc d) f
  -- groups left: parts of tighter levels
  IsExpr b d (chain q e r) = (q < b) × IsExpr q d e × AreParts q d r × IsSome_rest r
  -- groups right
  IsExpr b d (choice c e f) = (14 < b) × (d < most_levels) × IsExpr 14 d c × IsExpr 15 (suc d) e × IsExpr 15 (suc d) f

  pub AreParts : ℕ → ℕ → Rest → Type 0
  AreParts q d last = Unit {0}
  AreParts q d (next op e r) = (level_of op ≡ q) × IsExpr q d e × AreParts q d r

  pub AreExprs : ℕ → Args → Type 0
  AreExprs d no_args = Unit {0}
  AreExprs d (arg e es) = IsExpr 15 d e × AreExprs d es

-- e is the tree of these tokens
pub record IsTree (ts : List Token) (e : Expr) : Type 0 where
  pub written : spelled e [] ≡ ts
  pub grouped : IsExpr 15 0 e
