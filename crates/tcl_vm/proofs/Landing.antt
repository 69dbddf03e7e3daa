-- Where a completion that isn't ok lands: at an open loop, or at the end of the code.
use Rattle.std.proofs.Common.{◌≡◌, ℕ, zero, suc, ◌+◌, ◌-◌, ◌≤◌, ◌<◌, cond, Bool, true, false, List, [], ◌∷◌, ◌++◌, length, refl, ap, ◌∙◌, subst, arith}
use Rattle.tcl_pages.specs.Texts.{Text}
use Rattle.tcl_meaning.specs.declared.code.Code.{Code}
use Rattle.tcl_meaning.specs.declared.code.Code.TheVariants as how
use Rattle.tcl_meaning.specs.Completions.{Completion, code_now}
use Rattle.tcl_meaning.specs.Effects.{Gives}
use Rattle.tcl_meaning.specs.State.{State}
use Rattle.tcl_code.specs.Caught.{caught, caught_by, lands}
use Rattle.tcl_code.specs.Instructions.{Instruction}
use Rattle.tcl_code.specs.Machine.{Loop, Texts, Spot, result_at, Move, To, Fails, Ends, Calls, Wrong, behind_loop, collected, on_code}
use Rattle.tcl_code.specs.Open.{IsShaped, LoopsFit}
use Rattle.tcl_code.specs.Running.{Running, running, answered}
use Rattle.tcl_code.specs.Valid.{Valid, Comes}
use Rattle.tcl_vm.specs.Fitting.{FitsHere}
use Rattle.tcl_vm.specs.Turns.{left, loops_left, weight}
use Rattle.tcl_vm.proofs.Weights.{left_behind}

-- what holds of both branches, from two choices
pub both_cond : {A : Type 0} (P : A → A → Type 0) (b : Bool) (m n p q : A) → P m p → P n q → P (cond b m n) (cond b p q)
both_cond P true m n p q h k = h
both_cond P false m n p q h k = k

-- What holds of each place where it may land, from two states. The loop that catches it is the innermost one, or stands behind inner
-- ones that are passed.
pub both_caught : (P : Move → Move → Type 0) (os : List Loop) (k : Code) (c : Completion) (s t : State) → ((n : ℕ) (o : Loop) (inner rest : List Loop) → n ≤ 1 → os ≡ inner ++ o ∷ rest → P (To (behind_loop n o rest) s) (To (behind_loop n o rest) t))
    → P (Ends (Gives c s)) (Ends (Gives c t)) → P (caught_by k os c s) (caught_by k os c t)
both_caught P [] how.Ok c s t at_loop ends = ends
both_caught P [] how.Error c s t at_loop ends = ends
both_caught P [] how.Return c s t at_loop ends = ends
both_caught P [] how.Break c s t at_loop ends = ends
both_caught P [] how.Continue c s t at_loop ends = ends
both_caught P [] (how.Other z) c s t at_loop ends = ends
both_caught P (o ∷ os) how.Ok c s t at_loop ends = ends
both_caught P (o ∷ os) how.Error c s t at_loop ends = ends
both_caught P (o ∷ os) how.Return c s t at_loop ends = ends
both_caught P (o ∷ os) how.Break c s t at_loop ends = at_loop 0 o [] os (omega arith) refl
both_caught P (o ∷ os) how.Continue c s t at_loop ends =
    both_cond P o.passes _ _ _ _ (both_caught P os how.Continue c s t (λ n q inner rest le is. at_loop n q (o ∷ inner) rest le (ap (λ qs. o ∷ qs) is)) ends)
    (at_loop 1 o [] os (omega arith) refl)
both_caught P (o ∷ os) (how.Other z) c s t at_loop ends = ends

module _ (P : Move → Type 0) (os : List Loop) (c : Completion) (s : State) (at_loop : (n : ℕ) (o : Loop) (inner rest : List Loop) → n ≤ 1 → os ≡ inner ++ o ∷ rest → P (To (behind_loop n o rest) s)) (ends : P (Ends (Gives c s))) where
  pub caught_elim : (k : Code) → P (caught_by k os c s)
  caught_elim k = both_caught (λ m n. P m) os k c s s at_loop ends

  -- a completion that comes to a spot where it is ok
  pub coded_elim : (to : Completion → Spot) → P (To (to c) s) → (k : Code) → P (caught os (on_code k c to s))
  coded_elim to ok how.Ok = ok
  coded_elim to ok how.Error = caught_elim (code_now c)
  coded_elim to ok how.Return = caught_elim (code_now c)
  coded_elim to ok how.Break = caught_elim (code_now c)
  coded_elim to ok how.Continue = caught_elim (code_now c)
  coded_elim to ok (how.Other z) = caught_elim (code_now c)

-- The open loops fit: at most p commands are paid for outside of the innermost body, and behind the loops there is at most l left.
pub record OpenFits (code : List Instruction) (p l : ℕ) (os : List Loop) : Type 0 where
  pub loops : ℕ
  pub outer : ℕ
  pub fits : LoopsFit code os loops outer
  pub paid_for : outer ≤ p
  pub less : loops_left (length code) os ≤ l

-- so do those behind the inner ones
behind_fits : (code : List Instruction) (p l : ℕ) (inner os : List Loop) → OpenFits code p l (inner ++ os) → OpenFits code p l os
behind_fits code p l [] os f = f
behind_fits code p l (o ∷ inner) os f = behind_fits code p l inner os (record {
  loops = f.fits.0.loops;
  outer = f.fits.3.0;
  fits = f.fits.3.2;
  paid_for = let x = f.fits.3.1 in let y = f.paid_for in omega arith;
  less = let x = f.less in omega arith;
})

-- where the innermost loop goes on, the code fits, with less left than in the body
innermost_fits : (code : List Instruction) (n : ℕ) (o : Loop) (os : List Loop) (at p l : ℕ) → n ≤ 1 → Valid code → OpenFits code p l (o ∷ os) → FitsHere (running code (behind_loop n o os)) p × (left (running code (behind_loop n o os)) < weight (length code - at) + l)
innermost_fits code n o os at p l le valid f = (fits, let x = left_behind (length code) at o.at n os in let y = f.less in omega arith)
  where
    comes : (n : ℕ) → n ≤ 1 → Comes code (o.at + n) f.fits.0
    comes zero h = let e : o.at ≡ o.at + 0 = omega arith in subst (λ k. Comes code k f.fits.0) e f.fits.1.breaks
    comes (suc zero) h = f.fits.1.continues
    comes (suc (suc n)) h = absurd (omega arith)

    fits : FitsHere (running code (behind_loop n o os)) p
    fits = record {
      shape = f.fits.0;
      valid = valid;
      comes = comes n le;
      shaped = f.fits.1.shaped;
      deep = f.fits.1.deep;
      outer = f.fits.3.0;
      loops = f.fits.3.2;
      paid_for = let x = f.fits.3.1 in let y = f.paid_for in omega arith;
    }

-- and where any open loop does
pub loop_fits : (code : List Instruction) (os : List Loop) (at p l : ℕ) → Valid code → OpenFits code p l os → (n : ℕ) (o : Loop) (inner rest : List Loop) → n ≤ 1 → os ≡ inner ++ o ∷ rest
    → FitsHere (running code (behind_loop n o rest)) p × (left (running code (behind_loop n o rest)) < weight (length code - at) + l)
loop_fits code os at p l valid f n o inner rest le is = innermost_fits code n o rest at p l le valid (behind_fits code p l inner (o ∷ rest) (subst (OpenFits code p l) is f))

collected_length : (t : Text) (ls : List Texts) → length (collected t ls) ≡ length ls
collected_length t [] = refl
collected_length t (l ∷ []) = refl
collected_length t (l ∷ m ∷ ls) = refl

-- so do they where the innermost has collected a text
pub collected_fits : (code : List Instruction) (p l : ℕ) (t : Text) (o : Loop) (os : List Loop) → OpenFits code p l (o ∷ os) → OpenFits code p l (record o { lists = collected t o.lists } ∷ os)
collected_fits code p l t o os f = record {
  loops = f.loops;
  outer = f.outer;
  fits = (f.fits.0, record { breaks = f.fits.1.breaks; continues = f.fits.1.continues; shaped = shaped; deep = f.fits.1.deep }, f.fits.2, f.fits.3);
  paid_for = f.paid_for;
  less = f.less;
}
  where
    was : IsShaped o.texts o.lists o.results o.depth f.fits.0
    was = f.fits.1.shaped

    shaped : IsShaped o.texts (collected t o.lists) o.results o.depth f.fits.0
    shaped = record { texts = was.texts; lists = collected_length t o.lists ∙ was.lists; results = was.results; brackets = was.brackets }

-- where a completion comes to, the code fits, with no more left
abbrev LandFits : Running → ℕ → Move → Type 0
LandFits a p (To q t) = FitsHere (running a.code q) p × (left (running a.code q) ≤ left a)
LandFits a p (Fails c t) = Unit {0}
LandFits a p (Ends g) = Unit {0}
LandFits a p (Calls words q t) = Unit {0}
LandFits a p Wrong = Unit {0}

pub lands_fit : (a : Running) (p : ℕ) (c : Completion) (s t : State) (q : Spot) → lands a c s ≡ To q t → FitsHere (answered a c) p → FitsHere (running a.code q) p × (left (running a.code q) ≤ left a)
lands_fit a p c s t q e f = subst (LandFits a p) e (coded_elim (LandFits a p) os c s at_loop tt (result_at a.spot.at a.spot.stack a.spot.depth) (f, omega arith) (code_now c))
  where
    os : List Loop
    os = a.spot.stack.loops

    open_fits : OpenFits a.code p (loops_left (length a.code) os) os
    open_fits = record { loops = f.shape.loops; outer = f.outer; fits = f.loops; paid_for = let x = f.paid_for in omega arith; less = omega arith }

    at_loop : (n : ℕ) (o : Loop) (inner rest : List Loop) → n ≤ 1 → os ≡ inner ++ o ∷ rest → LandFits a p (To (behind_loop n o rest) s)
    at_loop n o inner rest le is = let x = loop_fits a.code os a.spot.at p (loops_left (length a.code) os) f.valid open_fits n o inner rest le is in (x.0, let y = x.1 in omega arith)
