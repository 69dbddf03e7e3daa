-- Valid code is never stuck.
use Rattle.std.proofs.Common.{◌≡◌, ℕ, zero, suc, List, Option, refl, sym, ◌∙◌, subst}
use Rattle.std.specs.Prelude.{slice_get}
use Rattle.tcl_chars.specs.declared.numbers.Dialect.{Dialect}
use Rattle.tcl_meaning.specs.Completions.{Completion, code_now}
use Rattle.tcl_meaning.specs.Effects.{Got, Gives, Broke, Exits, Untold, exec}
use Rattle.tcl_meaning.specs.Pages.{invoked}
use Rattle.tcl_meaning.specs.Script.{Run, page_in}
use Rattle.tcl_meaning.specs.State.{State}
use Rattle.tcl_code.specs.Instructions.{Instruction}
use Rattle.tcl_code.specs.Caught.{lands}
use Rattle.tcl_code.specs.Machine.{Loop, Spot, result_at, behind_loop, Move, To, Fails, Ends, Calls, Wrong, Ended, Unfinished, Stuck, landed, follow, exec_code}
use Rattle.tcl_code.specs.Running.{running}
use Rattle.tcl_vm.specs.Fitting.{FitsHere, FitsThen}
use Rattle.tcl_vm.specs.Laws.{ValidGoesOn}
use Rattle.tcl_vm.specs.Standing.{Running, here}
use Rattle.tcl_vm.proofs.Answering.{begun_fits}
use Rattle.tcl_vm.specs.Turns.{left}
use Rattle.tcl_vm.proofs.Fitting.{MoveFits, here_fits}
use Rattle.tcl_vm.proofs.Forward.{IsCaught, here_caught, steps_on}
use Rattle.tcl_vm.proofs.Landing.{coded_elim, lands_fit}
use Rattle.tcl_vm.proofs.Returning.{landed_follows}

unfinished_stuck : Unfinished ≡ Stuck → ⊥
unfinished_stuck e = cc

ended_stuck : (got : Got Completion) → Ended got ≡ Stuck → ⊥
ended_stuck got e = cc

abbrev GoesOn : Dialect → ℕ → Type 0
GoesOn dialect k = (a : Running) (p : ℕ) (s : State) → FitsHere a p → exec_code dialect a.code k a.spot s ≡ Stuck → ⊥

module _ (dialect : Dialect) (k : ℕ) (rest : GoesOn dialect k) (code : List Instruction) where
  given_goes : (q : Spot) (n : ℕ) → FitsThen (running code q) n → (c : Completion) (s : State) → landed (exec_code dialect code k) q.stack.loops (result_at q.at q.stack q.depth) (Gives c s) ≡ Stuck → ⊥
  given_goes q n f c s e =
      coded_elim (λ m. lands (running code q) c s ≡ m → ⊥) q.stack.loops c s (λ i o inner os le e is. goes (behind_loop i o os) is) (λ is. ended_stuck _ (sym (landed_follows dialect (running code q) k c s (Ends (Gives c s)) is) ∙ e))
      (result_at q.at q.stack q.depth) (λ is. goes (result_at q.at q.stack q.depth c) is) (code_now c) refl
    where
      goes : (r : Spot) → lands (running code q) c s ≡ To r s → ⊥
      goes r is = rest (running code r) n s (lands_fit (running code q) n c s s r is (f.then_fits c)).0 (sym (landed_follows dialect (running code q) k c s (To r s) is) ∙ e)

  landed_goes : (q : Spot) (n : ℕ) → FitsThen (running code q) n → (got : Got Completion) → landed (exec_code dialect code k) q.stack.loops (result_at q.at q.stack q.depth) got ≡ Stuck → ⊥
  landed_goes q n f (Gives c s) e = given_goes q n f c s e
  landed_goes q n f (Broke x) e = ended_stuck _ e
  landed_goes q n f (Exits m x) e = ended_stuck _ e
  landed_goes q n f (Untold c) e = ended_stuck _ e

  move_goes : (i : Option Instruction) (os : List Loop) (l p : ℕ) (s : State) (m : Move) → IsCaught os m → MoveFits i code l p s m → follow dialect (exec_code dialect code k) os m ≡ Stuck → ⊥
  move_goes i os l p s (To q t) o f e = rest (running code q) f.0 t f.1 e
  move_goes i os l p s (Fails c t) o f e = o
  move_goes i os l p s (Ends g) o f e = ended_stuck g e
  move_goes i os l p s (Calls words q t) o f e =
      let that = exec (Run dialect) (page_in dialect q.depth (invoked dialect words)) t in
      landed_goes q f.0 f.1 that (subst (λ x. landed (exec_code dialect code k) x (result_at q.at q.stack q.depth) that ≡ Stuck) (sym o) e)
  move_goes i os l p s Wrong o f e = f

goes_on : (dialect : Dialect) (k : ℕ) → GoesOn dialect k
goes_on dialect zero = λ a p s h e. unfinished_stuck e
goes_on dialect (suc k) = λ a p s h e. move_goes dialect k (goes_on dialect k) a.code (slice_get a.code a.spot.at) a.spot.stack.loops (left a) p s (here dialect a s) (here_caught dialect a s) (here_fits dialect a p s h) (sym (steps_on dialect a k s (here dialect a s) refl) ∙ e)

pub valid_goes_on : ValidGoesOn
valid_goes_on dialect code valid d le s k = goes_on dialect k _ 0 s (begun_fits code d valid le)
