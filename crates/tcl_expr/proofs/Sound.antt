-- What is read is written.
use Rattle.std.proofs.Common.{◌≡◌, ℕ, suc, ◌<◌, ◌≤◌, Bool, true, false, List, [], ◌∷◌, ◌++◌, length, refl, sym, ap, ◌∙◌, arith}
use Rattle.std.specs.Prelude.{nat_lt, if◌then◌else◌}
use Rattle.std.proofs.lemmas.Bool.Decides.{nat_tests}
use Rattle.tcl_expr.specs.declared.token.UnaryOp.{UnaryOp}
use Rattle.tcl_expr.specs.declared.token.BinaryOp.{BinaryOp}
use Rattle.tcl_expr.specs.Token.{Token}
use Rattle.tcl_expr.specs.Token.{Call, Unary, Binary, Power, Open, Comma, Question, Colon}
use Rattle.tcl_expr.specs.declared.state.Wanted.{Wanted}
use Rattle.tcl_expr.specs.declared.state.Wanted.TheVariants as wanted
use Rattle.tcl_expr.specs.Expr.{Expr, operand, group, call, unary, power, chain, choice, level_of, argument_count}
use Rattle.tcl_expr.specs.Grammar.{spelled, spelled_rest, spelled_args, spelled_more, IsExpr, AreParts, AreExprs, most_levels, IsSome_rest}
use Rattle.tcl_expr.specs.Machine.{Step, rest_of, args_of, Held, in_unary, in_power, in_chain, in_second, in_third, in_group, in_call, held_level, open_levels, top, State, wants, has, reduce}
use Rattle.tcl_expr.proofs.Complete.{admits, level_two}

-- the tokens that a stack has taken, in front of k
unfoldable pub spelled_done : List Expr → List Token → List Token
spelled_done [] k = k
spelled_done (x ∷ xs) k = spelled x (Comma ∷ spelled_done xs k)

unfoldable pub before : List Held → List Token → List Token
before [] k = k
before (in_unary u ∷ s) k = before s (Unary u ∷ k)
before (in_power e ∷ s) k = before s (spelled e (Power ∷ k))
before (in_chain q e xs op ∷ s) k = before s (spelled e (spelled_rest (rest_of xs) (Binary op ∷ k)))
before (in_second c ∷ s) k = before s (spelled c (Question ∷ k))
before (in_third c e ∷ s) k = before s (spelled c (Question ∷ spelled e (Colon ∷ k)))
before (in_group ∷ s) k = before s (Open ∷ k)
before (in_call f n es ∷ s) k = before s (Call f n ∷ spelled_done es k)

abbrev pub before_state : State → List Token → List Token
before_state (wants p s) k = before s k
before_state (has x s) k = before s (spelled x k)

-- what a stack holds is in the grammar
unfoldable pub Sensible : List Held → Type 0
Sensible [] = Unit {0}
Sensible (in_unary u ∷ s) = (open_levels s < most_levels) × Sensible s
Sensible (in_power e ∷ s) = (1 < admits s) × (open_levels s < most_levels) × IsExpr 1 (open_levels s) e × Sensible s
Sensible (in_chain q e xs op ∷ s) = (q < admits s) × (level_of op ≡ q) × IsExpr q (open_levels s) e × AreParts q (open_levels s) (rest_of xs) × Sensible s
Sensible (in_second c ∷ s) = (14 < admits s) × (open_levels s < most_levels) × IsExpr 14 (open_levels s) c × Sensible s
Sensible (in_third c e ∷ s) = (14 < admits s) × (open_levels s < most_levels) × IsExpr 14 (open_levels s) c × IsExpr 15 (suc (open_levels s)) e × Sensible s
Sensible (in_group ∷ s) = (open_levels s < most_levels) × Sensible s
Sensible (in_call f n es ∷ s) = (open_levels s < most_levels) × AreExprs (suc (open_levels s)) (args_of es) × Sensible s

abbrev pub IsWanted : Wanted → List Held → Type 0
IsWanted wanted.Operator s = ⊥
IsWanted wanted.First (in_call f n es ∷ s) = Unit {0}
IsWanted wanted.First s = ⊥
IsWanted p s = Unit {0}

abbrev pub IsState : State → Type 0
IsState (wants p s) = Sensible s × IsWanted p s
IsState (has x s) = Sensible s × IsExpr 1 (open_levels s) x

pub looser : (e : Expr) (b c d : ℕ) → IsExpr b d e → b ≤ c → IsExpr c d e
unfolding IsExpr
looser (operand n) b c d h le = tt
looser (group e) b c d h le = h
looser (call f n es) b c d h le = h
looser (unary u e) b c d h le = h
looser (power e f) b c d h le = (omega (arith, h.0), h.1, h.2, h.3)
looser (chain q e r) b c d h le = (omega (arith, h.0), h.1, h.2, h.3)
looser (choice x e f) b c d h le = (omega (arith, h.0), h.1, h.2, h.3, h.4)

pub parts_snoc : (xs : List Step) (o : BinaryOp) (x : Expr) (q d : ℕ) → AreParts q d (rest_of xs) → level_of o ≡ q → IsExpr q d x → AreParts q d (rest_of (xs ++ (o, x) ∷ []))
unfolding IsExpr
parts_snoc [] o x q d h e k = (e, k, tt)
parts_snoc (y ∷ ys) o x q d h e k = (h.0, h.1, parts_snoc ys o x q d h.2 e k)

some_snoc : (xs : List Step) (o : BinaryOp) (x : Expr) → IsSome_rest (rest_of (xs ++ (o, x) ∷ []))
some_snoc [] o x = tt
some_snoc (y ∷ ys) o x = tt

pub spelled_rest_snoc : (xs : List Step) (o : BinaryOp) (x : Expr) (k : List Token) → spelled_rest (rest_of (xs ++ (o, x) ∷ [])) k ≡ spelled_rest (rest_of xs) (Binary o ∷ spelled x k)
unfolding spelled
spelled_rest_snoc [] o x k = refl
spelled_rest_snoc (y ∷ ys) o x k = ap (λ (z : List Token). Binary y.0 ∷ spelled y.1 z) (spelled_rest_snoc ys o x k)

pub exprs_snoc : (xs : List Expr) (x : Expr) (d : ℕ) → AreExprs d (args_of xs) → IsExpr 15 d x → AreExprs d (args_of (xs ++ x ∷ []))
unfolding IsExpr
exprs_snoc [] x d h k = (k, tt)
exprs_snoc (y ∷ ys) x d h k = (h.0, exprs_snoc ys x d h.1 k)

pub done_snoc : (xs : List Expr) (x : Expr) (k : List Token) → spelled_done (xs ++ x ∷ []) k ≡ spelled_done xs (spelled x (Comma ∷ k))
unfolding spelled_done
done_snoc [] x k = refl
done_snoc (y ∷ ys) x k = ap (λ (z : List Token). spelled y (Comma ∷ z)) (done_snoc ys x k)

more_snoc : (xs : List Expr) (x : Expr) (k : List Token) → Comma ∷ spelled_done xs (spelled x k) ≡ spelled_more (args_of (xs ++ x ∷ [])) k
unfolding spelled spelled_done
more_snoc [] x k = refl
more_snoc (y ∷ ys) x k = ap (λ (z : List Token). Comma ∷ spelled y z) (more_snoc ys x k)

pub args_done : (xs : List Expr) (x : Expr) (k : List Token) → spelled_done xs (spelled x k) ≡ spelled_args (args_of (xs ++ x ∷ [])) k
unfolding spelled spelled_done
args_done [] x k = refl
args_done (y ∷ ys) x k = ap (λ (z : List Token). spelled y z) (more_snoc ys x k)

pub count_snoc : (xs : List Expr) (x : Expr) → argument_count (args_of (xs ++ x ∷ [])) ≡ suc (length xs)
count_snoc [] x = refl
count_snoc (y ∷ ys) x = ap suc (count_snoc ys x)

pub admits_pos : (s : List Held) → Sensible s → 0 < admits s
unfolding Sensible
admits_pos [] h = omega arith
admits_pos (in_unary u ∷ s) h = omega arith
admits_pos (in_power e ∷ s) h = omega arith
admits_pos (in_chain q e xs o ∷ s) h = omega (arith, h.1, level_two o)
admits_pos (in_second c ∷ s) h = omega arith
admits_pos (in_third c e ∷ s) h = omega arith
admits_pos (in_group ∷ s) h = omega arith
admits_pos (in_call f n es ∷ s) h = omega arith

-- what reducing keeps
pub record Reduced (r : ℕ) (x : Expr) (s : List Held) (p : Expr × List Held) : Type 0 where
  pub sensible : Sensible p.1
  pub grouped : IsExpr r (open_levels p.1) p.0
  pub same : (k : List Token) → before s (spelled x k) ≡ before p.1 (spelled p.0 k)
  pub above : r ≤ top p.1

passed_on : (r : ℕ) (x y : Expr) (s t : List Held) (p : Expr × List Held) → ((k : List Token) → before s (spelled x k) ≡ before t (spelled y k)) → Reduced r y t p → Reduced r x s p
passed_on r x y s t p e h = record { sensible = h.sensible; grouped = h.grouped; same = λ k. e k ∙ h.same k; above = h.above }

end_here : (r c : ℕ) (x : Expr) (s : List Held) → Sensible s → IsExpr c (open_levels s) x → c ≤ r → r ≤ top s → Reduced r x s (x, s)
end_here r c x s h k le up = record { sensible = h; grouped = looser x c r (open_levels s) k le; same = λ k. refl; above = up }

branch : (b : Bool) (r c : ℕ) (x y : Expr) (h : Held) (s : List Held) → nat_lt (held_level h) r ≡ b → Sensible (h ∷ s) → IsExpr c (open_levels (h ∷ s)) x → c ≤ r
    → (held_level h < r → Reduced r x (h ∷ s) (reduce r y s))
    → Reduced r x (h ∷ s) (if b then reduce r y s else (x, h ∷ s))
branch true r c x y h s e good k le go = go (grind (arith, nat_tests))
branch false r c x y h s e good k le go = end_here r c x (h ∷ s) good k le (grind (arith, nat_tests))

unary_same : (u : UnaryOp) (x : Expr) (s : List Held) (k : List Token) → before (in_unary u ∷ s) (spelled x k) ≡ before s (spelled (unary u x) k)
unfolding before spelled
unary_same u x s k = refl

power_same : (e x : Expr) (s : List Held) (k : List Token) → before (in_power e ∷ s) (spelled x k) ≡ before s (spelled (power e x) k)
unfolding before spelled
power_same e x s k = refl

third_same : (y e x : Expr) (s : List Held) (k : List Token) → before (in_third y e ∷ s) (spelled x k) ≡ before s (spelled (choice y e x) k)
unfolding before spelled
third_same y e x s k = refl

chain_same : (q : ℕ) (e : Expr) (xs : List Step) (o : BinaryOp) (x : Expr) (s : List Held) (k : List Token) → before (in_chain q e xs o ∷ s) (spelled x k) ≡ before s (spelled (chain q e (rest_of (xs ++ (o, x) ∷ []))) k)
unfolding before spelled
chain_same q e xs o x s k = ap (λ (z : List Token). before s (spelled e z)) (sym (spelled_rest_snoc xs o x k))

unary_rest : (u : UnaryOp) (s : List Held) → Sensible (in_unary u ∷ s) → Sensible s
unfolding Sensible
unary_rest u s h = h.1

power_rest : (e : Expr) (s : List Held) → Sensible (in_power e ∷ s) → Sensible s
unfolding Sensible
power_rest e s h = h.3

chain_rest : (q : ℕ) (e : Expr) (xs : List Step) (o : BinaryOp) (s : List Held) → Sensible (in_chain q e xs o ∷ s) → Sensible s
unfolding Sensible
chain_rest q e xs o s h = h.4

third_rest : (y e : Expr) (s : List Held) → Sensible (in_third y e ∷ s) → Sensible s
unfolding Sensible
third_rest y e s h = h.4

power_fits : (e : Expr) (s : List Held) → Sensible (in_power e ∷ s) → 2 ≤ admits s
unfolding Sensible
power_fits e s h = omega (arith, h.0)

chain_fits : (q : ℕ) (e : Expr) (xs : List Step) (o : BinaryOp) (s : List Held) → Sensible (in_chain q e xs o ∷ s) → suc q ≤ admits s
unfolding Sensible
chain_fits q e xs o s h = omega (arith, h.0)

third_fits : (y e : Expr) (s : List Held) → Sensible (in_third y e ∷ s) → 15 ≤ admits s
unfolding Sensible
third_fits y e s h = omega (arith, h.0)

unary_up : (u : UnaryOp) (x : Expr) (s : List Held) (c : ℕ) → Sensible (in_unary u ∷ s) → IsExpr c (open_levels (in_unary u ∷ s)) x → c ≤ 1 → IsExpr 1 (open_levels s) (unary u x)
unfolding Sensible IsExpr open_levels
unary_up u x s c h k a = (h.0, looser x c 1 (suc (open_levels s)) k a)

power_up : (e x : Expr) (s : List Held) (c : ℕ) → Sensible (in_power e ∷ s) → IsExpr c (open_levels (in_power e ∷ s)) x → c ≤ 2 → IsExpr 2 (open_levels s) (power e x)
unfolding Sensible IsExpr open_levels
power_up e x s c h k a = (omega arith, h.1, h.2, looser x c 2 (suc (open_levels s)) k a)

chain_up : (q : ℕ) (e : Expr) (xs : List Step) (o : BinaryOp) (x : Expr) (s : List Held) (c : ℕ) → Sensible (in_chain q e xs o ∷ s) → IsExpr c (open_levels (in_chain q e xs o ∷ s)) x → c ≤ q → IsExpr (suc q) (open_levels s) (chain q e (rest_of (xs ++ (o, x) ∷ [])))
unfolding Sensible IsExpr open_levels
chain_up q e xs o x s c h k a = (omega arith, h.2, parts_snoc xs o x q (open_levels s) h.3 h.1 (looser x c q (open_levels s) k a), some_snoc xs o x)

third_up : (y e x : Expr) (s : List Held) (c : ℕ) → Sensible (in_third y e ∷ s) → IsExpr c (open_levels (in_third y e ∷ s)) x → c ≤ 15 → IsExpr 15 (open_levels s) (choice y e x)
unfolding Sensible IsExpr open_levels
third_up y e x s c h k a = (omega arith, h.1, h.2, h.3, looser x c 15 (suc (open_levels s)) k a)

pub reduced : (r c : ℕ) (x : Expr) (s : List Held) → r ≤ 15 → Sensible s → IsExpr c (open_levels s) x → c ≤ admits s → c ≤ r → Reduced r x s (reduce r x s)
unfolding reduce
reduced r c x [] most h k a le = end_here r c x [] h k le most
reduced r c x (in_unary u ∷ s) most h k a le =
    branch (nat_lt 0 r) r c x (unary u x) (in_unary u) s refl h k le
    (λ lt. passed_on r x (unary u x) (in_unary u ∷ s) s _ (λ k. unary_same u x s k) (reduced r 1 (unary u x) s most (unary_rest u s h) (unary_up u x s c h k a) (admits_pos s (unary_rest u s h)) lt))
reduced r c x (in_power e ∷ s) most h k a le =
    branch (nat_lt 1 r) r c x (power e x) (in_power e) s refl h k le
    (λ lt. passed_on r x (power e x) (in_power e ∷ s) s _ (λ k. power_same e x s k) (reduced r 2 (power e x) s most (power_rest e s h) (power_up e x s c h k a) (power_fits e s h) lt))
reduced r c x (in_chain q e xs o ∷ s) most h k a le =
    branch (nat_lt q r) r c x (chain q e (rest_of (xs ++ (o, x) ∷ []))) (in_chain q e xs o) s refl h k le
    (λ lt. passed_on r x (chain q e (rest_of (xs ++ (o, x) ∷ []))) (in_chain q e xs o ∷ s) s _ (λ k. chain_same q e xs o x s k) (reduced r (suc q) (chain q e (rest_of (xs ++ (o, x) ∷ []))) s most (chain_rest q e xs o s h) (chain_up q e xs o x s c h k a) (chain_fits q e xs o s h) lt))
reduced r c x (in_third y e ∷ s) most h k a le =
    branch (nat_lt 14 r) r c x (choice y e x) (in_third y e) s refl h k le
    (λ lt. passed_on r x (choice y e x) (in_third y e ∷ s) s _ (λ k. third_same y e x s k) (reduced r 15 (choice y e x) s most (third_rest y e s h) (third_up y e x s c h k a) (third_fits y e s h) lt))
reduced r c x (in_second y ∷ s) most h k a le = branch (nat_lt 15 r) r c x x (in_second y) s refl h k le (λ lt. absurd (omega arith))
reduced r c x (in_group ∷ s) most h k a le = branch (nat_lt 15 r) r c x x in_group s refl h k le (λ lt. absurd (omega arith))
reduced r c x (in_call f n es ∷ s) most h k a le = branch (nat_lt 15 r) r c x x (in_call f n es) s refl h k le (λ lt. absurd (omega arith))
