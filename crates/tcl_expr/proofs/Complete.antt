-- What is written is read.
use Rattle.std.proofs.Common.{◌≡◌, ℕ, suc, ◌<◌, ◌≤◌, ◌+◌, true, false, List, [], ◌∷◌, ◌++◌, length, None, Ok, refl, sym, ap, ◌∙◌, arith}
use Rattle.std.specs.Prelude.{nat_lt, ◌==◌}
use Rattle.std.proofs.lemmas.Bool.Decides.{nat_tests}
use Rattle.tcl_words.specs.Parts.{Stretch}
use Rattle.tcl_expr.specs.declared.token.BinaryOp.{BinaryOp}
use Rattle.tcl_expr.specs.declared.token.BinaryOp.TheVariants as op
use Rattle.tcl_expr.specs.declared.token.Function.{Function}
use Rattle.tcl_expr.specs.Token.{Token}
use Rattle.tcl_expr.specs.Token.{Binary, Power, Close, Comma, Question, Colon}
use Rattle.tcl_expr.specs.declared.state.Wanted.{Wanted}
use Rattle.tcl_expr.specs.declared.state.Wanted.TheVariants as wanted
use Rattle.tcl_expr.specs.Expr.{Expr, operand, group, call, unary, power, chain, choice, Rest, last, next, Args, no_args, arg, level_of, argument_count}
use Rattle.tcl_expr.specs.Grammar.{spelled, spelled_rest, spelled_more, IsExpr, AreParts, AreExprs, miscount, most_levels, IsTree}
use Rattle.tcl_expr.specs.Faults.{reach}
use Rattle.tcl_expr.specs.Machine.{Step, rest_onto, args_onto, Held, in_unary, in_power, in_chain, in_second, in_third, in_group, in_call, held_level, open_levels, finished, wants, has, reduce, open_with, at_operator, at_end, add, run, and_then, parsed}

abbrev pub reach_of : List Token → ℕ
reach_of [] = 15
reach_of (t ∷ ts) = reach t

-- an expression of a level below this may stand on the frame
abbrev pub limit : Held → ℕ
limit (in_unary u) = 1
limit (in_power e) = 2
limit (in_chain q e xs op) = q
limit (in_third c e) = 15
limit (in_second c) = 15
limit in_group = 15
limit (in_call f s es) = 15

abbrev pub admits : List Held → ℕ
admits [] = 15
admits (h ∷ s) = limit h

pub level_two : (op : BinaryOp) → (1 < level_of op) × (level_of op < 14)
level_two op.Times = (omega arith, omega arith)
level_two _ = (omega arith, omega arith)

reach_pos : (k : List Token) → 0 < reach_of k
reach_pos [] = omega arith
reach_pos (Binary op ∷ ts) = omega (arith, level_two op)
reach_pos (Power ∷ ts) = omega arith
reach_pos (Question ∷ ts) = omega arith
reach_pos (_ ∷ ts) = omega arith

pub reduce_on : (r : ℕ) (x : Expr) (h : Held) (s : List Held) → held_level h < r → reduce r x (h ∷ s) ≡ reduce r (finished h x) s
unfolding reduce
reduce_on r x h s lt = let e : nat_lt (held_level h) r ≡ true = grind (arith, nat_tests) in rw e refl

pub stays : (r : ℕ) (x : Expr) (h : Held) (s : List Held) → r ≤ held_level h → reduce r x (h ∷ s) ≡ (x, h ∷ s)
unfolding reduce
stays r x h s le = let e : nat_lt (held_level h) r ≡ false = grind (arith, nat_tests) in rw e refl

limit_le : (h : Held) (r : ℕ) → r < limit h → r ≤ held_level h
limit_le (in_unary u) r lt = omega arith
limit_le (in_power e) r lt = omega arith
limit_le (in_chain q e xs op) r lt = omega arith
limit_le (in_third c e) r lt = omega arith
limit_le (in_second c) r lt = omega arith
limit_le in_group r lt = omega arith
limit_le (in_call f s es) r lt = omega arith

kept : (r : ℕ) (x : Expr) (s : List Held) → r < admits s → reduce r x s ≡ (x, s)
unfolding reduce
kept r x [] lt = refl
kept r x (h ∷ s) lt = stays r x h s (limit_le h r lt)

-- an expression that ends before k is what its frame is waiting for
pub closes : (h : Held) (x : Expr) (s : List Held) (k : List Token) → held_level h < reach_of k → run (has x (h ∷ s)) k ≡ run (has (finished h x) s) k
unfolding run
closes h x s [] lt = ap (λ (r : Expr × List Held). at_end r.0 r.1) (reduce_on 15 x h s lt)
closes h x s (t ∷ ts) lt = ap (λ (r : Expr × List Held). and_then (at_operator r.0 r.1 t) (λ st. run st ts)) (reduce_on (reach t) x h s lt)

kept_step : (t : Token) (x : Expr) (s : List Held) (ts : List Token) → reach t < admits s → run (has x s) (t ∷ ts) ≡ and_then (at_operator x s t) (λ st. run st ts)
unfolding run
kept_step t x s ts lt = ap (λ (r : Expr × List Held). and_then (at_operator r.0 r.1 t) (λ st. run st ts)) (kept (reach t) x s lt)

stays_step : (t : Token) (x : Expr) (h : Held) (s : List Held) (ts : List Token) → reach t ≤ held_level h → run (has x (h ∷ s)) (t ∷ ts) ≡ and_then (at_operator x (h ∷ s) t) (λ st. run st ts)
unfolding run
stays_step t x h s ts le = ap (λ (r : Expr × List Held). and_then (at_operator r.0 r.1 t) (λ st. run st ts)) (stays (reach t) x h s le)

opened : (p : Wanted) (h : Held) (s : List Held) (ts : List Token) → open_levels s < most_levels → and_then (open_with p h s) (λ st. run st ts) ≡ run (wants p (h ∷ s)) ts
opened p h s ts lt = let e : nat_lt (open_levels s) most_levels ≡ true = grind (arith, nat_tests) in rw e refl

fresh : (op : BinaryOp) (x : Expr) (s : List Held) → level_of op < admits s → add op x s ≡ in_chain (level_of op) x [] op ∷ s
fresh op x [] lt = refl
fresh op x (in_chain q e xs o ∷ s) lt = let e : (q == level_of op) ≡ false = grind (arith, nat_tests) in rw e refl
fresh op x (in_unary u ∷ s) lt = refl
fresh op x (in_power e ∷ s) lt = refl
fresh op x (in_third c e ∷ s) lt = refl
fresh op x (in_second c ∷ s) lt = refl
fresh op x (in_group ∷ s) lt = refl
fresh op x (in_call f n es ∷ s) lt = refl

joins : (op : BinaryOp) (x : Expr) (q : ℕ) (e : Expr) (xs : List Step) (o : BinaryOp) (s : List Held) → level_of op ≡ q → add op x (in_chain q e xs o ∷ s) ≡ in_chain q e (xs ++ (o, x) ∷ []) op ∷ s
joins op x q e xs o s same = let t : (q == level_of op) ≡ true = grind (arith, nat_tests) in rw t refl

pub rest_snoc : (xs : List Step) (o : BinaryOp) (x : Expr) (r : Rest) → rest_onto (xs ++ (o, x) ∷ []) r ≡ rest_onto xs (next o x r)
rest_snoc [] o x r = refl
rest_snoc (y ∷ ys) o x r = ap (next y.0 y.1) (rest_snoc ys o x r)

pub args_snoc : (xs : List Expr) (x : Expr) (es : Args) → args_onto (xs ++ x ∷ []) es ≡ args_onto xs (arg x es)
args_snoc [] x es = refl
args_snoc (y ∷ ys) x es = ap (arg y) (args_snoc ys x es)

more_reach : (es : Args) (k : List Token) → reach_of (spelled_more es (Close ∷ k)) ≡ 15
unfolding spelled
more_reach no_args k = refl
more_reach (arg e es) k = refl

pub length_snoc : {A : Type 0} (xs : List A) (x : A) → length (xs ++ x ∷ []) ≡ suc (length xs)
length_snoc [] x = refl
length_snoc (y ∷ ys) x = ap suc (length_snoc ys x)

call_ends : (f : Function) (n : Stretch) (before : List Expr) (x : Expr) (s : List Held) (k : List Token) → miscount f n (suc (length before)) ≡ None → run (has x (in_call f n before ∷ s)) (Close ∷ k) ≡ run (has (call f n (args_onto before (arg x no_args))) s) k
unfolding run
call_ends f n before x s k right = stays_step Close x (in_call f n before) s k (omega arith) ∙ rw (right, args_snoc) refl

rest_reach : (r : Rest) (q d : ℕ) (k : List Token) → AreParts q d r → q ≤ reach_of k → q ≤ reach_of (spelled_rest r k)
unfolding spelled IsExpr
rest_reach last q d k h le = le
rest_reach (next op e r) q d k h le = omega (arith, h.0)

mutual
  unfolding run spelled IsExpr open_levels

  pub complete : (e : Expr) (b : ℕ) (p : Wanted) (s : List Held) (k : List Token) → IsExpr b (open_levels s) e → b ≤ admits s → b ≤ reach_of k → run (wants p s) (spelled e k) ≡ run (has e s) k
  complete (operand n) b p s k h a le = refl
  complete (group e) b p s k h a le =
      opened wanted.Operand in_group s (spelled e (Close ∷ k)) h.0
      ∙ complete e 15 wanted.Operand (in_group ∷ s) (Close ∷ k) h.1 (omega arith) (omega arith)
      ∙ stays_step Close e in_group s k (omega arith)
  complete (call f n no_args) b p s k h a le = absurd cc
  complete (call f n (arg e es)) b p s k h a le =
      opened wanted.First (in_call f n []) s (spelled e (spelled_more es (Close ∷ k))) h.0
      ∙ complete e 15 wanted.First (in_call f n [] ∷ s) (spelled_more es (Close ∷ k)) h.2.0 (omega arith) (omega (arith, more_reach es k))
      ∙ more es f n [] e s k h.2.1 (let z : 0 + suc (argument_count es) ≡ suc (argument_count es) = omega arith in ap (miscount f n) z ∙ h.1)
  complete (unary u e) b p s k h a le =
      opened wanted.Operand (in_unary u) s (spelled e k) h.0
      ∙ complete e 1 wanted.Operand (in_unary u ∷ s) k h.1 (omega arith) (omega (arith, reach_pos k))
      ∙ closes (in_unary u) e s k (reach_pos k)
  complete (power e f) b p s k h a le =
      complete e 1 p s (Power ∷ spelled f k) h.2 (omega (arith, h.0)) (omega arith)
      ∙ kept_step Power e s (spelled f k) (omega (arith, h.0))
      ∙ opened wanted.Operand (in_power e) s (spelled f k) h.1
      ∙ complete f 2 wanted.Operand (in_power e ∷ s) k h.3 (omega arith) (omega (arith, h.0))
      ∙ closes (in_power e) f s k (omega (arith, h.0))
  complete (chain q e last) b p s k h a le = absurd h.3
  complete (chain q e (next op f r)) b p s k h a le =
      complete e q p s (Binary op ∷ spelled f (spelled_rest r k)) h.1 (omega (arith, h.0)) (omega (arith, h.2.0))
      ∙ kept_step (Binary op) e s (spelled f (spelled_rest r k)) (omega (arith, h.0, h.2.0))
      ∙ ap (λ (z : List Held). run (wants wanted.Operand z) (spelled f (spelled_rest r k))) (fresh op e s (omega (arith, h.0, h.2.0)))
      ∙ ap (λ (z : ℕ). run (wants wanted.Operand (in_chain z e [] op ∷ s)) (spelled f (spelled_rest r k))) h.2.0
      ∙ complete f q wanted.Operand (in_chain q e [] op ∷ s) (spelled_rest r k) h.2.1 (omega arith) (rest_reach r q (open_levels s) k h.2.2 (omega (arith, h.0)))
      ∙ tail r q e [] op f s k h.2.2 (omega (arith, h.0))
  complete (choice c e f) b p s k h a le =
      complete c 14 p s (Question ∷ spelled e (Colon ∷ spelled f k)) h.2 (omega (arith, h.0)) (omega arith)
      ∙ kept_step Question c s (spelled e (Colon ∷ spelled f k)) (omega (arith, h.0))
      ∙ opened wanted.Operand (in_second c) s (spelled e (Colon ∷ spelled f k)) h.1
      ∙ complete e 15 wanted.Operand (in_second c ∷ s) (Colon ∷ spelled f k) h.3 (omega arith) (omega arith)
      ∙ stays_step Colon e (in_second c) s (spelled f k) (omega arith)
      ∙ complete f 15 wanted.Operand (in_third c e ∷ s) k h.4 (omega arith) (omega (arith, h.0))
      ∙ closes (in_third c e) f s k (omega (arith, h.0))

  tail : (r : Rest) (q : ℕ) (first : Expr) (before : List Step) (op : BinaryOp) (x : Expr) (s : List Held) (k : List Token) → AreParts q (open_levels s) r → q < reach_of k
      → run (has x (in_chain q first before op ∷ s)) (spelled_rest r k) ≡ run (has (chain q first (rest_onto before (next op x r))) s) k
  tail last q first before op x s k h lt =
      closes (in_chain q first before op) x s k lt
      ∙ ap (λ (z : Rest). run (has (chain q first z) s) k) (rest_snoc before op x last)
  tail (next o f r) q first before op x s k h lt =
      stays_step (Binary o) x (in_chain q first before op) s (spelled f (spelled_rest r k)) (omega (arith, h.0))
      ∙ ap (λ (z : List Held). run (wants wanted.Operand z) (spelled f (spelled_rest r k))) (joins o x q first before op s h.0)
      ∙ complete f q wanted.Operand (in_chain q first (before ++ (op, x) ∷ []) o ∷ s) (spelled_rest r k) h.1 (omega arith) (rest_reach r q (open_levels s) k h.2 (omega arith))
      ∙ tail r q first (before ++ (op, x) ∷ []) o f s k h.2 lt
      ∙ ap (λ (z : Rest). run (has (chain q first z) s) k) (rest_snoc before op x (next o f r))

  more : (es : Args) (f : Function) (n : Stretch) (before : List Expr) (x : Expr) (s : List Held) (k : List Token) → AreExprs (suc (open_levels s)) es → miscount f n (length before + suc (argument_count es)) ≡ None
      → run (has x (in_call f n before ∷ s)) (spelled_more es (Close ∷ k)) ≡ run (has (call f n (args_onto before (arg x es))) s) k
  more no_args f n before x s k h right =
      let same : length before + 1 ≡ suc (length before) = omega arith in
      call_ends f n before x s k (ap (miscount f n) (sym same) ∙ right)
  more (arg e es) f n before x s k h right =
      let same : length (before ++ x ∷ []) + suc (argument_count es) ≡ length before + suc (suc (argument_count es)) = omega (arith, length_snoc before x) in
      stays_step Comma x (in_call f n before) s (spelled e (spelled_more es (Close ∷ k))) (omega arith)
      ∙ complete e 15 wanted.Operand (in_call f n (before ++ x ∷ []) ∷ s) (spelled_more es (Close ∷ k)) h.0 (omega arith) (omega (arith, more_reach es k))
      ∙ more es f n (before ++ x ∷ []) e s k h.1 (ap (miscount f n) same ∙ right)
      ∙ ap (λ (z : Args). run (has (call f n z) s) k) (args_snoc before x (arg e es))

pub read_back : (ts : List Token) (e : Expr) → IsTree ts e → parsed ts ≡ Ok e
unfolding run reduce open_levels
read_back ts e h = ap parsed (sym h.written) ∙ complete e 15 wanted.Start [] [] h.grouped (omega arith) (omega arith)

pub one_tree : (ts : List Token) (e f : Expr) → IsTree ts e → IsTree ts f → e ≡ f
one_tree ts e f h k = let a = read_back ts e h in let b = read_back ts f k in cc (a, b)
