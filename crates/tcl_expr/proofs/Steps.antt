-- Each step keeps the tokens and the grammar.
use Rattle.std.proofs.Common.{◌≡◌, ℕ, suc, ◌<◌, ◌≤◌, Bool, true, false, List, [], ◌∷◌, ◌++◌, length, Option, Some, None, Result, Ok, Err, refl, sym, ap, subst, ◌∙◌, arith}
use Rattle.std.specs.Prelude.{nat_lt, ◌==◌, if◌then◌else◌}
use Rattle.std.proofs.lemmas.Bool.Decides.{nat_tests}
use Rattle.tcl_words.specs.Parts.{Stretch}
use Rattle.tcl_expr.specs.declared.token.BinaryOp.{BinaryOp}
use Rattle.tcl_expr.specs.declared.token.Function.{Function}
use Rattle.tcl_expr.specs.Token.{Token}
use Rattle.tcl_expr.specs.Token.{Operand, Call, Unary, Binary, Power, Open, Close, Comma, Question, Colon}
use Rattle.tcl_expr.specs.ExprFault.{ExprFault}
use Rattle.tcl_expr.specs.ExprFault as fault
use Rattle.tcl_expr.specs.declared.state.Wanted.{Wanted}
use Rattle.tcl_expr.specs.declared.state.Wanted.TheVariants as wanted
use Rattle.tcl_expr.specs.Expr.{Expr, call, level_of}
use Rattle.tcl_expr.specs.Grammar.{spelled, IsExpr, miscount, most_levels, IsTree}
use Rattle.tcl_expr.specs.Faults.{reach}
use Rattle.tcl_expr.specs.Machine.{Step, args_of, Held, in_unary, in_power, in_chain, in_second, in_third, in_group, in_call, open_levels, top, State, wants, has, reduce, at_operand, at_operator, at_close, at_end, at_comma, at_colon, checked, add, step, run, and_then, parsed}
use Rattle.tcl_expr.proofs.Complete.{admits, level_two}
use Rattle.tcl_expr.proofs.Sound.{spelled_done, before, before_state, Sensible, IsState, looser, parts_snoc, spelled_rest_snoc, exprs_snoc, done_snoc, args_done, count_snoc, admits_pos, Reduced, reduced}

pub record Stepped (st : State) (t : Token) (now : State) : Type 0 where
  pub state : IsState now
  pub same : (k : List Token) → before_state st (t ∷ k) ≡ before_state now k

abbrev pub After : State → Token → Result State ExprFault → Type 0
After st t (Ok now) = Stepped st t now
After st t (Err m) = Unit {0}

room : (b : Bool) (st : State) (t : Token) (p : Wanted) (h : Held) (s : List Held) → nat_lt (open_levels s) most_levels ≡ b → (open_levels s < most_levels → Stepped st t (wants p (h ∷ s)))
    → After st t (if b then Ok (wants p (h ∷ s)) else Err fault.Nesting)
room true st t p h s e go = go (grind (arith, nat_tests))
room false st t p h s e go = tt

pub operand_step : (p : Wanted) (s : List Held) (t : Token) → Sensible s → After (wants p s) t (at_operand p s t)
unfolding before spelled spelled_done Sensible IsExpr
operand_step p s (Operand n) h = record { state = (h, tt); same = λ k. refl }
operand_step p s (Unary u) h = room (nat_lt (open_levels s) most_levels) (wants p s) (Unary u) wanted.Operand (in_unary u) s refl (λ lt. record { state = ((lt, h), tt); same = λ k. refl })
operand_step p s Open h = room (nat_lt (open_levels s) most_levels) (wants p s) Open wanted.Operand in_group s refl (λ lt. record { state = ((lt, h), tt); same = λ k. refl })
operand_step p s (Call f n) h = room (nat_lt (open_levels s) most_levels) (wants p s) (Call f n) wanted.First (in_call f n []) s refl (λ lt. record { state = ((lt, tt, h), tt); same = λ k. refl })
operand_step p s _ h = tt

fresh_step : (op : BinaryOp) (x : Expr) (s : List Held) → Sensible s → IsExpr (level_of op) (open_levels s) x → level_of op < admits s → Stepped (has x s) (Binary op) (wants wanted.Operand (in_chain (level_of op) x [] op ∷ s))
unfolding before spelled Sensible IsExpr
fresh_step op x s h k lt = record { state = ((lt, refl, k, tt, h), tt); same = λ k. refl }

joined_step : (op : BinaryOp) (x : Expr) (q : ℕ) (e : Expr) (xs : List Step) (o : BinaryOp) (s : List Held) → Sensible (in_chain q e xs o ∷ s) → IsExpr (level_of op) (open_levels (in_chain q e xs o ∷ s)) x → level_of op ≡ q
    → Stepped (has x (in_chain q e xs o ∷ s)) (Binary op) (wants wanted.Operand (in_chain q e (xs ++ (o, x) ∷ []) op ∷ s))
unfolding before spelled Sensible open_levels
joined_step op x q e xs o s h k same = record {
  state = ((h.0, same, h.2, parts_snoc xs o x q (open_levels s) h.3 h.1 (looser x (level_of op) q (open_levels s) k (omega arith)), h.4), tt);
  same = λ k. ap (λ (z : List Token). before s (spelled e z)) (sym (spelled_rest_snoc xs o x (Binary op ∷ k)));
}

join_branch : (b : Bool) (op : BinaryOp) (x : Expr) (q : ℕ) (e : Expr) (xs : List Step) (o : BinaryOp) (s : List Held) → (q == level_of op) ≡ b → Sensible (in_chain q e xs o ∷ s) → IsExpr (level_of op) (open_levels (in_chain q e xs o ∷ s)) x → level_of op ≤ q
    → Stepped (has x (in_chain q e xs o ∷ s)) (Binary op) (wants wanted.Operand (if b then in_chain q e (xs ++ (o, x) ∷ []) op ∷ s else in_chain (level_of op) x [] op ∷ in_chain q e xs o ∷ s))
join_branch true op x q e xs o s t h k le = joined_step op x q e xs o s h k (grind (arith, nat_tests))
join_branch false op x q e xs o s t h k le = fresh_step op x (in_chain q e xs o ∷ s) h k (let ne : level_of op < q = grind (arith, nat_tests) in ne)

add_step : (op : BinaryOp) (x : Expr) (s : List Held) → Sensible s → IsExpr (level_of op) (open_levels s) x → level_of op ≤ top s → Stepped (has x s) (Binary op) (wants wanted.Operand (add op x s))
add_step op x [] h k le = fresh_step op x [] h k (omega (arith, level_two op))
add_step op x (in_unary u ∷ s) h k le = absurd (omega (arith, level_two op))
add_step op x (in_power e ∷ s) h k le = absurd (omega (arith, level_two op))
add_step op x (in_chain q e xs o ∷ s) h k le = join_branch (q == level_of op) op x q e xs o s refl h k le
add_step op x (in_third c e ∷ s) h k le = fresh_step op x (in_third c e ∷ s) h k (omega (arith, level_two op))
add_step op x (in_second c ∷ s) h k le = fresh_step op x (in_second c ∷ s) h k (omega (arith, level_two op))
add_step op x (in_group ∷ s) h k le = fresh_step op x (in_group ∷ s) h k (omega (arith, level_two op))
add_step op x (in_call f n es ∷ s) h k le = fresh_step op x (in_call f n es ∷ s) h k (omega (arith, level_two op))

-- an operator that groups right opens no level inside one of its own
rooms : (s : List Held) → Sensible s → (1 ≤ top s → 1 < admits s) × (14 ≤ top s → 14 < admits s)
unfolding Sensible
rooms [] h = (λ le. omega arith, λ le. omega arith)
rooms (in_unary u ∷ s) h = (λ le. omega arith, λ le. omega arith)
rooms (in_power e ∷ s) h = (λ le. omega arith, λ le. omega arith)
rooms (in_chain q e xs o ∷ s) h = (λ le. omega (arith, h.1, level_two o), λ le. omega (arith, h.1, level_two o))
rooms (in_third c e ∷ s) h = (λ le. omega arith, λ le. omega arith)
rooms (in_second c ∷ s) h = (λ le. omega arith, λ le. omega arith)
rooms (in_group ∷ s) h = (λ le. omega arith, λ le. omega arith)
rooms (in_call f n es ∷ s) h = (λ le. omega arith, λ le. omega arith)

colon_step : (x : Expr) (s : List Held) → Sensible s → IsExpr 15 (open_levels s) x → After (has x s) Colon (at_colon x s)
unfolding before spelled Sensible open_levels
colon_step x (in_second c ∷ s) h k = record { state = ((h.0, h.1, h.2, k, h.3), tt); same = λ k. refl }
colon_step x s h k = tt

comma_step : (x : Expr) (s : List Held) → Sensible s → IsExpr 15 (open_levels s) x → After (has x s) Comma (at_comma x s)
unfolding before Sensible open_levels
comma_step x (in_call f n es ∷ s) h k = record {
  state = ((h.0, exprs_snoc es x (suc (open_levels s)) h.1 k, h.2), tt);
  same = λ k. ap (λ (z : List Token). before s (Call f n ∷ z)) (sym (done_snoc es x k));
}
comma_step x s h k = tt

call_step : (m : Option ExprFault) (f : Function) (n : Stretch) (es : List Expr) (x : Expr) (s : List Held) → miscount f n (suc (length es)) ≡ m → Sensible (in_call f n es ∷ s) → IsExpr 15 (open_levels (in_call f n es ∷ s)) x
    → After (has x (in_call f n es ∷ s)) Close (checked m (has (call f n (args_of (es ++ x ∷ []))) s))
unfolding before spelled Sensible IsExpr open_levels
call_step (Some e) f n es x s right h k = tt
call_step None f n es x s right h k = record {
  state = (h.2, (h.0, ap (miscount f n) (count_snoc es x) ∙ right, exprs_snoc es x (suc (open_levels s)) h.1 k));
  same = λ k. ap (λ (z : List Token). before s (Call f n ∷ z)) (args_done es x (Close ∷ k));
}

close_step : (x : Expr) (s : List Held) → Sensible s → IsExpr 15 (open_levels s) x → After (has x s) Close (at_close x s)
unfolding before spelled Sensible IsExpr open_levels
close_step x (in_group ∷ s) h k = record { state = (h.1, (h.0, k)); same = λ k. refl }
close_step x (in_call f n es ∷ s) h k = call_step (miscount f n (suc (length es))) f n es x s refl h k
close_step x s h k = tt

operator_step : (x : Expr) (s : List Held) (t : Token) → Sensible s → IsExpr (reach t) (open_levels s) x → reach t ≤ top s → After (has x s) t (at_operator x s t)
unfolding before spelled Sensible
operator_step x s (Binary op) h k le = add_step op x s h k le
operator_step x s Power h k le = room (nat_lt (open_levels s) most_levels) (has x s) Power wanted.Operand (in_power x) s refl (λ lt. record { state = (((rooms s h).0 le, lt, k, h), tt); same = λ k. refl })
operator_step x s Question h k le = room (nat_lt (open_levels s) most_levels) (has x s) Question wanted.Operand (in_second x) s refl (λ lt. record { state = (((rooms s h).1 le, lt, k, h), tt); same = λ k. refl })
operator_step x s Colon h k le = colon_step x s h k
operator_step x s Comma h k le = comma_step x s h k
operator_step x s Close h k le = close_step x s h k
operator_step x s _ h k le = tt

pub reach_range : (t : Token) → (1 ≤ reach t) × (reach t ≤ 15)
reach_range Power = (omega arith, omega arith)
reach_range (Binary op) = (omega (arith, level_two op), omega (arith, level_two op))
reach_range Question = (omega arith, omega arith)
reach_range _ = (omega arith, omega arith)

pub at_reduced : (t : Token) (x : Expr) (s : List Held) → IsState (has x s) → Reduced (reach t) x s (reduce (reach t) x s)
at_reduced t x s h = reduced (reach t) 1 x s (reach_range t).1 h.0 h.1 (admits_pos s h.0) (reach_range t).0

moved : (x : Expr) (s : List Held) (t : Token) (p : Expr × List Held) (r : Result State ExprFault) → ((k : List Token) → before s (spelled x k) ≡ before p.1 (spelled p.0 k)) → After (has p.0 p.1) t r → After (has x s) t r
moved x s t p (Err m) e h = tt
moved x s t p (Ok now) e h = record { state = h.state; same = λ k. e (t ∷ k) ∙ h.same k }

pub stepped : (st : State) (t : Token) → IsState st → After st t (step st t)
stepped (wants p s) t h = operand_step p s t h.0
stepped (has x s) t h =
    let g = at_reduced t x s h in
    let p = reduce (reach t) x s in
    moved x s t p (at_operator p.0 p.1 t) g.same (operator_step p.0 p.1 t g.sensible g.grouped g.above)

pub record Read (st : State) (ts : List Token) (e : Expr) : Type 0 where
  pub written : spelled e [] ≡ before_state st ts
  pub grouped : IsExpr 15 0 e

ended : (x : Expr) (s : List Held) (e : Expr) → IsExpr 15 (open_levels s) x → at_end x s ≡ Ok e → Read (has x s) [] e
unfolding before open_levels
ended x [] e k h = let same : x ≡ e = cc in let P : Expr → Type 0 = λ y. Read (has x []) [] y in subst P same (record { written = refl; grouped = k })
ended x (in_second c ∷ s) e k h = absurd cc
ended x (in_unary u ∷ s) e k h = absurd cc
ended x (in_power f ∷ s) e k h = absurd cc
ended x (in_chain q f xs o ∷ s) e k h = absurd cc
ended x (in_third c f ∷ s) e k h = absurd cc
ended x (in_group ∷ s) e k h = absurd cc
ended x (in_call f n es ∷ s) e k h = absurd cc

pub end_reduced : (x : Expr) (s : List Held) → IsState (has x s) → Reduced 15 x s (reduce 15 x s)
end_reduced x s h = reduced 15 1 x s (omega arith) h.0 h.1 (admits_pos s h.0) (omega arith)

went : (st : State) (t : Token) (ts : List Token) (e : Expr) (r : Result State ExprFault) → After st t r → ((now : State) → IsState now → run now ts ≡ Ok e → Read now ts e) → and_then r (λ now. run now ts) ≡ Ok e → Read st (t ∷ ts) e
went st t ts e (Err m) h go is = absurd cc
went st t ts e (Ok now) h go is = let g = go now h.state is in record { written = g.written ∙ sym (h.same ts); grouped = g.grouped }

pub sound : (ts : List Token) (st : State) (e : Expr) → IsState st → run st ts ≡ Ok e → Read st ts e
unfolding run
sound [] (wants p s) e h is = absurd cc
sound [] (has x s) e h is =
    let g = end_reduced x s h in
    let p = reduce 15 x s in
    let f = ended p.0 p.1 e g.grouped is in
    record { written = f.written ∙ sym (g.same []); grouped = f.grouped }
sound (t ∷ ts) st e h is = went st t ts e (step st t) (stepped st t h) (λ now. sound ts now e) is

pub is_tree : (ts : List Token) (e : Expr) → parsed ts ≡ Ok e → IsTree ts e
unfolding before Sensible
is_tree ts e is = let f = sound ts (wants wanted.Start []) e (tt, tt) is in record { written = f.written; grouped = f.grouped }
