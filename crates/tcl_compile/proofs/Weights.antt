-- How much is left to emit: the characters of a text, and the nodes of an expression's tree, of which there are no more than twice as many.
use Rattle.std.proofs.Common.{◌≡◌, ℕ, zero, suc, ◌+◌, ◌-◌, ◌*◌, ◌<◌, ◌≤◌, List, [], ◌∷◌, length, get_or, Option, Some, None, ap, subst, arith, ⊎_elim}
use Rattle.std.proofs.lemmas.Bool.{cases_lt}
use Rattle.tcl_chars.specs.declared.numbers.Dialect.{Dialect}
use Rattle.tcl_expr.specs.Expr.{Expr, operand, group, call, unary, power, chain, choice, Rest, last, next, Args, no_args, arg}
use Rattle.tcl_expr.specs.ExprFault.{ExprFault}
use Rattle.tcl_expr.specs.Faults.{Opened, wants_operand, open_at, after, wanted_after, lowest}
use Rattle.tcl_expr.specs.Grammar.{spelled, spelled_rest, spelled_args, spelled_more, IsExpr, AreParts, AreExprs, IsTree}
use Rattle.tcl_expr.specs.Machine.{Step, rest_of, args_of}
use Rattle.tcl_expr.specs.Token.{Token, Power, Question, Colon, Close}
use Rattle.tcl_expr.specs.Tokens.{next_token, unless_faulty, with_token, tokens_from, tokens_at, tokens}
use Rattle.tcl_words.specs.First.{most_levels}

-- ---- texts

-- so much for a text of n characters: more than for a shorter one and for a tree of that
unfoldable pub reach : ℕ → ℕ
reach zero = 0
reach (suc n) = reach n + (2000 + 16 * n)

pub reach_more : (n m : ℕ) → n < m → reach n + (2000 + 16 * n) ≤ reach m
unfolding reach
reach_more n zero lt = absurd (omega arith)
reach_more n (suc m) lt = ⊎_elim (λ (h : n < m). omega (arith, reach_more n m h)) (λ (h : m ≤ n). let e : n ≡ m = omega arith in subst (λ k. reach n + (2000 + 16 * n) ≤ reach k + (2000 + 16 * k)) e (omega arith)) (cases_lt n m)

pub reach_le : (n m : ℕ) → n ≤ m → reach n ≤ reach m
reach_le n m le = ⊎_elim (λ (h : n < m). omega (arith, reach_more n m h)) (λ (h : m ≤ n). let e : n ≡ m = omega arith in subst (λ k. reach n ≤ reach k) e (omega arith)) (cases_lt n m)

-- ---- trees

abbrev mutual
  -- the nodes of a tree, and of lists in it
  pub weight : Expr → ℕ
  weight (operand x) = 1
  weight (group e) = 1 + weight e
  weight (call f s es) = 1 + weight_args es
  weight (unary u e) = 1 + weight e
  weight (power e f) = 1 + weight e + weight f
  weight (chain level e r) = 1 + weight e + weight_rest r
  weight (choice c e f) = 1 + weight c + weight e + weight f

  pub weight_rest : Rest → ℕ
  weight_rest last = 0
  weight_rest (next o e r) = 1 + weight e + weight_rest r

  pub weight_args : Args → ℕ
  weight_args no_args = 0
  weight_args (arg e es) = 1 + weight e + weight_args es

mutual
  unfolding spelled spelled_rest spelled_args spelled_more IsExpr AreParts AreExprs

  tree_light : (b d : ℕ) (e : Expr) (k : List Token) → IsExpr b d e → weight e + 2 * length k ≤ 2 * length (spelled e k)
  tree_light b d (operand x) k h = omega arith
  tree_light b d (group e) k h = omega (arith, tree_light 15 (suc d) e (Close ∷ k) h.1)
  tree_light b d (call f s es) k h = omega (arith, args_light (suc d) es (Close ∷ k) h.2)
  tree_light b d (unary u e) k h = omega (arith, tree_light 1 (suc d) e k h.1)
  tree_light b d (power e f) k h = omega (arith, tree_light 1 d e (Power ∷ spelled f k) h.2, tree_light 2 (suc d) f k h.3)
  tree_light b d (chain q e last) k h = absurd h.3
  tree_light b d (chain q e (next o f r)) k h = omega (arith, tree_light q d e (spelled_rest (next o f r) k) h.1, tree_light q d f (spelled_rest r k) h.2.1, rest_light q d r k h.2.2)
  tree_light b d (choice c e f) k h =
      omega (arith, tree_light 14 d c (Question ∷ spelled e (Colon ∷ spelled f k)) h.2, tree_light 15 (suc d) e (Colon ∷ spelled f k) h.3, tree_light 15 (suc d) f k h.4)

  rest_light : (q d : ℕ) (r : Rest) (k : List Token) → AreParts q d r → weight_rest r + 2 * length k ≤ 2 * length (spelled_rest r k)
  rest_light q d last k h = omega arith
  rest_light q d (next o e r) k h = omega (arith, tree_light q d e (spelled_rest r k) h.1, rest_light q d r k h.2)

  args_light : (d : ℕ) (es : Args) (k : List Token) → AreExprs d es → weight_args es + 2 * length k ≤ 2 * length (spelled_args es k) + 1
  args_light d no_args k h = omega arith
  args_light d (arg e es) k h = omega (arith, tree_light 15 d e (spelled_more es k) h.0, more_light d es k h.1)

  more_light : (d : ℕ) (es : Args) (k : List Token) → AreExprs d es → weight_args es + 2 * length k ≤ 2 * length (spelled_more es k)
  more_light d no_args k h = omega arith
  more_light d (arg e es) k h = omega (arith, tree_light 15 d e (spelled_more es k) h.0, more_light d es k h.1)

-- ---- tokens

unless_le : (m : Option ExprFault) (ts : List Token) → length (unless_faulty m ts) ≤ length ts
unless_le (Some m) ts = omega arith
unless_le None ts = omega arith

from_le : (n : ℕ) (dialect : Dialect) (size : ℕ) (p : _) (os : List Opened) (cs : List ℕ) → length (tokens_from n dialect size p os cs) ≤ n
unfolding tokens_from
from_le zero dialect size p os cs = omega arith
from_le (suc n) dialect size p os cs = go (next_token dialect size (wants_operand p) (most_levels - length os) cs) (λ q qs rest. from_le n dialect size q qs rest)
  where
    go : (o : Option (Token × List ℕ)) → ((q : _) (qs : List Opened) (rest : List ℕ) → length (tokens_from n dialect size q qs rest) ≤ n) → length (with_token o (λ t rest. t ∷ unless_faulty (lowest p os (Some t)) (tokens_from n dialect size (wanted_after t) (after t (open_at p t os)) rest))) ≤ suc n
    go None h = omega arith
    go (Some (t, rest)) h = omega (arith, unless_le (lowest p os (Some t)) (tokens_from n dialect size (wanted_after t) (after t (open_at p t os)) rest), h (wanted_after t) (after t (open_at p t os)) rest)

tokens_le : (dialect : Dialect) (t : List ℕ) → length (tokens dialect t) ≤ suc (length t)
unfolding tokens tokens_at
tokens_le dialect t = from_le (suc (length t)) dialect _ _ _ t

-- each node spells a token, or a list of some does
pub light : (dialect : Dialect) (t : List ℕ) (e : Expr) → IsTree (tokens dialect t) e → weight e ≤ 2 * length t + 2
light dialect t e h = omega (arith, tree_light 15 0 e [] h.grouped, ap length h.written, tokens_le dialect t)

-- ---- one of the arguments, one of the operands

pub argument_lighter : (es : List Expr) (i : ℕ) (e : Expr) → i < length es → e ≡ get_or es i e → weight e < weight_args (args_of es)
argument_lighter [] i e lt k = absurd (omega arith)
argument_lighter (x ∷ es) zero e lt k = omega (arith, ap weight k)
argument_lighter (x ∷ es) (suc i) e lt k = omega (arith, argument_lighter es i e (omega arith) k)

pub step_lighter : (xs : List Step) (i : ℕ) (x : Step) → i < length xs → x ≡ get_or xs i x → weight x.1 < weight_rest (rest_of xs)
step_lighter [] i x lt k = absurd (omega arith)
step_lighter (y ∷ xs) zero x lt k = omega (arith, ap (λ (z : Step). weight z.1) k)
step_lighter (y ∷ xs) (suc i) x lt k = omega (arith, step_lighter xs i x (omega arith) k)
