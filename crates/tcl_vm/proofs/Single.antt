-- A machine that fits comes to one thing, from every state.
use Rattle.std.proofs.Common.{◌≡◌, ℕ, zero, suc, ◌<◌, List, [], ◌∷◌, refl, sym, ap, ◌∙◌, subst, arith, ⊎_elim}
use Rattle.std.specs.Prelude.{slice_get}
use Rattle.tcl_chars.specs.declared.numbers.Dialect.{Dialect}
use Rattle.tcl_meaning.specs.declared.code.Code.{Code}
use Rattle.tcl_meaning.specs.declared.code.Code.TheVariants as how
use Rattle.tcl_meaning.specs.Completions.{Completion, code_now}
use Rattle.tcl_meaning.specs.Effects.{Got, Gives, Broke, Exits, Untold, exec}
use Rattle.tcl_meaning.specs.Pages.{invoked}
use Rattle.tcl_meaning.specs.Script.{Run, page_in}
use Rattle.tcl_meaning.specs.State.{State}
use Rattle.tcl_meaning.specs.Beginnings.{Goes as GoesOnward}
use Rattle.tcl_meaning.proofs.Runs.{exec_goes}
use Rattle.tcl_code.specs.Instructions.{Instruction}
use Rattle.tcl_code.specs.Caught.{lands}
use Rattle.tcl_code.specs.Machine.{Loop, Spot, result_at, behind_loop, Move, To, Fails, Ends, Calls, Wrong, Ended, Unfinished, Stuck, thrown_by, landed, landed_by, follow, exec_code}
use Rattle.tcl_code.specs.Running.{running}
use Rattle.tcl_vm.specs.Fitting.{FitsHere, FitsThen, AllFit}
use Rattle.tcl_vm.specs.Standing.{Running, here, Waiting, Machine, Comes, After, Returns, paid_back, left_of_page}
use Rattle.tcl_vm.specs.Turns.{Turn, Next, Asking, Ending, Config, StandsBy, FitsBy, Fits, left}
use Rattle.tcl_vm.proofs.Fitting.{Pays, MoveFits, here_fits}
use Rattle.tcl_vm.proofs.Forward.{onward, ended_same, raw, IsCaught, here_caught, steps_on}
use Rattle.tcl_vm.proofs.Landing.{both_cond, coded_elim, lands_fit}
use Rattle.tcl_vm.proofs.Returning.{landed_follows}

unfinished : (got : Got Completion) → Unfinished ≡ Ended got → ⊥
unfinished got e = cc

stuck : (got : Got Completion) → Stuck ≡ Ended got → ⊥
stuck got e = cc

-- ---- one thing at most

abbrev OneEnd : Dialect → List Instruction → ℕ → Type 0
OneEnd dialect code k = (j : ℕ) (p : Spot) (s : State) (x y : Got Completion) → exec_code dialect code k p s ≡ Ended x → exec_code dialect code j p s ≡ Ended y → x ≡ y

same_ended : (g x y : Got Completion) → Ended g ≡ Ended x → Ended g ≡ Ended y → x ≡ y
same_ended g x y e f = sym (ended_same _ _ e) ∙ ended_same _ _ f

module _ (dialect : Dialect) (code : List Instruction) where
  module _ (k j : ℕ) (rest : (p : Spot) (s : State) (x y : Got Completion) → exec_code dialect code k p s ≡ Ended x → exec_code dialect code j p s ≡ Ended y → x ≡ y) (x y : Got Completion) where
    one_thrown : (os : List Loop) (now : Code) (c : Completion) (s : State) → thrown_by (exec_code dialect code k) os now c s ≡ Ended x → thrown_by (exec_code dialect code j) os now c s ≡ Ended y → x ≡ y
    one_thrown [] now c s e f = same_ended (Gives c s) x y e f
    one_thrown (o ∷ os) how.Ok c s e f = same_ended (Gives c s) x y e f
    one_thrown (o ∷ os) how.Error c s e f = same_ended (Gives c s) x y e f
    one_thrown (o ∷ os) how.Return c s e f = same_ended (Gives c s) x y e f
    one_thrown (o ∷ os) how.Break c s e f = rest _ s x y e f
    one_thrown (o ∷ os) how.Continue c s e f = both_cond (λ m n. m ≡ Ended x → n ≡ Ended y → x ≡ y) o.passes _ _ _ _ (one_thrown os how.Continue c s) (rest _ s x y) e f
    one_thrown (o ∷ os) (how.Other z) c s e f = same_ended (Gives c s) x y e f

    one_by : (os : List Loop) (now : Code) (to : Completion → Spot) (c : Completion) (s : State) → landed_by (exec_code dialect code k) os to now c s ≡ Ended x → landed_by (exec_code dialect code j) os to now c s ≡ Ended y → x ≡ y
    one_by os how.Ok to c s e f = rest (to c) s x y e f
    one_by os how.Error to c s e f = one_thrown os how.Error c s e f
    one_by os how.Return to c s e f = one_thrown os how.Return c s e f
    one_by os how.Break to c s e f = one_thrown os how.Break c s e f
    one_by os how.Continue to c s e f = one_thrown os how.Continue c s e f
    one_by os (how.Other z) to c s e f = one_thrown os (how.Other z) c s e f

    one_landed : (os : List Loop) (that : Got Completion) (to : Completion → Spot) → landed (exec_code dialect code k) os to that ≡ Ended x → landed (exec_code dialect code j) os to that ≡ Ended y → x ≡ y
    one_landed os (Gives c s) to e f = one_by os (code_now c) to c s e f
    one_landed os (Broke r) to e f = same_ended (Broke r) x y e f
    one_landed os (Exits n r) to e f = same_ended (Exits n r) x y e f
    one_landed os (Untold c) to e f = same_ended (Untold c) x y e f

    one_follow : (os : List Loop) (m : Move) → follow dialect (exec_code dialect code k) os m ≡ Ended x → follow dialect (exec_code dialect code j) os m ≡ Ended y → x ≡ y
    one_follow os (To p s) e f = rest p s x y e f
    one_follow os (Fails c s) e f = one_thrown os (code_now c) c s e f
    one_follow os (Ends g) e f = same_ended g x y e f
    one_follow os (Calls words p s) e f = one_landed os (exec (Run dialect) (page_in dialect p.depth (invoked dialect words)) s) (result_at p.at p.stack p.depth) e f
    one_follow os Wrong e f = absurd (stuck x e)

  one_step : (k : ℕ) → OneEnd dialect code k → OneEnd dialect code (suc k)
  one_step k rest zero p s x y e f = absurd (unfinished y f)
  one_step k rest (suc j) p s x y e f = one_follow k j (rest j) x y p.stack.loops (raw dialect (running code p) s) e f

  one_end : (k : ℕ) → OneEnd dialect code k
  one_end zero = λ j p s x y e f. absurd (unfinished x e)
  one_end (suc k) = one_step k (one_end k)

module _ (dialect : Dialect) where
  one_comes : (a : Running) (s : State) (x y : Got Completion) → Comes dialect a s x → Comes dialect a s y → x ≡ y
  one_comes a s x y h k = one_end dialect a.code h.steps k.steps a.spot s x y h.ends k.ends

  one_after : (a : Running) (that x y : Got Completion) → After dialect a that x → After dialect a that y → x ≡ y
  one_after a that x y h k = one_landed dialect a.code h.steps k.steps (one_end dialect a.code h.steps k.steps) x y a.spot.stack.loops that (result_at a.spot.at a.spot.stack a.spot.depth) h.ends k.ends

  one_returns : (ws : List Waiting) (that x y : Got Completion) → Returns dialect ws that x → Returns dialect ws that y → x ≡ y
  one_returns [] that x y h k = sym h ∙ k
  one_returns (w ∷ ws) that x y h k =
      let e = one_returns ws that h.0 k.0 h.1 k.1 in
      one_after w.caller (paid_back dialect w k.0) x y (subst (λ g. After dialect w.caller (paid_back dialect w g) x) e h.2) k.2

  pub one_stands : (t : Turn) (m : Machine) (s : State) (x y : Got Completion) → StandsBy dialect t m s x → StandsBy dialect t m s y → x ≡ y
  one_stands Next m s x y h k = one_returns m.callers k.mid x y (subst (λ g. Returns dialect m.callers g x) (one_comes m.current s h.mid k.mid h.runs k.runs) h.returns) k.returns
  one_stands (Asking step) m s x y h k =
      one_returns m.callers k.mid x y (subst (λ g. Returns dialect m.callers g x) (one_after m.current (left_of_page dialect m.current.spot.depth step s) h.mid k.mid h.lands k.lands) h.returns) k.returns
  one_stands (Ending c) m s x y h k = one_returns m.callers (Gives c s) x y h k

-- ---- one thing at least

module _ (dialect : Dialect) where
  -- a code that fits ends, from a state
  abbrev EndsFrom : Running → State → Type 0
  EndsFrom a s = (got : Got Completion) × Comes dialect a s got

  -- wherever a code fits, with fewer units than n and less than l left of it
  abbrev Within : ℕ → ℕ → Type 0
  Within n l = (a : Running) (p : ℕ) (s : State) → FitsHere a p → s.units < n → left a < l → EndsFrom a s

  -- what is left of the code that has called a command
  module _ (a : Running) where
    abbrev EndsAfter : Got Completion → Type 0
    EndsAfter that = (got : Got Completion) × After dialect a that got

    -- where its completion lands the code ends
    abbrev Lasts : Completion → State → Type 0
    Lasts c s = (q : Spot) → lands a c s ≡ To q s → EndsFrom (running a.code q) s

    at_once : (that : Got Completion) → landed (exec_code dialect a.code 0) a.spot.stack.loops (result_at a.spot.at a.spot.stack a.spot.depth) that ≡ Ended that → EndsAfter that
    at_once that e = (that, record { steps = 0; ends = e })

    after_given : (c : Completion) (s : State) → Lasts c s → EndsAfter (Gives c s)
    after_given c s rest =
        coded_elim (λ m. lands a c s ≡ m → EndsAfter (Gives c s)) a.spot.stack.loops c s (λ n o inner os le is e. later (behind_loop n o os) e) (λ e. at_once (Gives c s) (landed_follows dialect a 0 c s (Ends (Gives c s)) e))
        (result_at a.spot.at a.spot.stack a.spot.depth) (λ e. later (result_at a.spot.at a.spot.stack a.spot.depth c) e) (code_now c) refl
      where
        later : (q : Spot) → lands a c s ≡ To q s → EndsAfter (Gives c s)
        later q e = let x = rest q e in (x.0, record { steps = x.1.steps; ends = landed_follows dialect a x.1.steps c s (To q s) e ∙ x.1.ends })

    after_ends : (that : Got Completion) → ((c : Completion) (s : State) → that ≡ Gives c s → Lasts c s) → EndsAfter that
    after_ends (Gives c s) rest = after_given c s (rest c s refl)
    after_ends (Broke x) rest = at_once (Broke x) refl
    after_ends (Exits n x) rest = at_once (Exits n x) refl
    after_ends (Untold x) rest = at_once (Untold x) refl

  -- one instruction, and then less is left
  module _ (n l : ℕ) (fewer : (k : ℕ) → Within n k) (less : Within (suc n) l) (a : Running) (p : ℕ) (s : State) (f : FitsHere a p) (u : s.units < suc n) (v : left a < suc l) where
    abbrev at : Spot → Running
    at q = running a.code q

    on : (q : Spot) (t : State) (k : ℕ) → FitsHere (at q) k → Pays (slice_get a.code a.spot.at) p k (left a) (left (at q)) s.units t.units → EndsFrom (at q) t
    on q t k g =
        ⊎_elim (λ x. less (at q) k t g (let y = x.2 in omega arith) (let y = x.1 in omega arith))
        (⊎_elim (λ x. less (at q) k t g (let y = x.3 in omega arith) (let y = x.2 in omega arith))
        (λ x. fewer (suc (left (at q))) (at q) k t g (let y = x.3 in omega arith) (omega arith)))

    ends_move : (m : Move) → here dialect a s ≡ m → IsCaught a.spot.stack.loops m → MoveFits (slice_get a.code a.spot.at) a.code (left a) p s m → EndsFrom a s
    ends_move (To q t) e o g = let x = on q t g.0 g.1 g.2 in (x.0, record { steps = suc x.1.steps; ends = steps_on dialect a x.1.steps s (To q t) e ∙ x.1.ends })
    ends_move (Fails c t) e o g = absurd g
    ends_move (Ends g) e o h = (g, record { steps = 1; ends = steps_on dialect a 0 s (Ends g) e })
    ends_move (Calls words q t) e o g =
        let that = exec (Run dialect) (page_in dialect q.depth (invoked dialect words)) t in
        let goes = exec_goes (Run dialect) (onward dialect) (page_in dialect q.depth (invoked dialect words)) t in
        let same = ap (λ z. z.units) g.4 in
        let x = after_ends (at q) that
        (λ c w is z k. let y = (subst (λ z. GoesOnward t z) is goes).spends in let h = lands_fit (at q) g.0 c w w z k (g.1.then_fits c) in less (at z) g.0 w h.0 (omega arith) (let i = h.1 in let j = g.3 in omega arith)) in
        (x.0, record { steps = suc x.1.steps; ends = steps_on dialect a x.1.steps s (Calls words q t) e ∙ subst (λ os. landed (exec_code dialect a.code x.1.steps) os (result_at q.at q.stack q.depth) that ≡ Ended x.0) o x.1.ends })
    ends_move Wrong e o g = absurd g

  within_less : (n : ℕ) → ((k : ℕ) → Within n k) → (l : ℕ) → Within (suc n) l
  within_less n fewer zero = λ a p s f u v. absurd (omega arith)
  within_less n fewer (suc l) = λ a p s f u v. ends_move n l fewer (within_less n fewer l) a p s f u v (here dialect a s) refl (here_caught dialect a s) (here_fits dialect a p s f)

  within : (n l : ℕ) → Within n l
  within zero = λ l a p s f u v. absurd (omega arith)
  within (suc n) = within_less n (within n)

  fits_ends : (a : Running) (p : ℕ) (s : State) → FitsHere a p → EndsFrom a s
  fits_ends a p s f = within (suc s.units) (suc (left a)) a p s f (omega arith) (omega arith)

  then_ends : (a : Running) (p : ℕ) (that : Got Completion) → FitsThen a p → (got : Got Completion) × After dialect a that got
  then_ends a p that f = after_ends a that (λ c s is q e. fits_ends (running a.code q) p s (lands_fit a p c s s q e (f.then_fits c)).0)

  some_returns : (ws : List Waiting) (that : Got Completion) → AllFit ws → (r : Got Completion) × Returns dialect ws that r
  some_returns [] that f = (that, refl)
  some_returns (w ∷ ws) that f =
      let x = some_returns ws that f.1 in
      let y = then_ends w.caller w.paid (paid_back dialect w x.0) f.0 in
      (y.0, (x.0, x.1, y.1))

  pub some_stands : (t : Turn) (m : Machine) (n : ℕ) (s : State) → FitsBy t m n → (r : Got Completion) × StandsBy dialect t m s r
  some_stands Next m n s f = let x = fits_ends m.current n s f.0 in let y = some_returns m.callers x.0 f.1 in (y.0, record { mid = x.0; runs = x.1; returns = y.1 })
  some_stands (Asking step) m n s f =
      let x = then_ends m.current n (left_of_page dialect m.current.spot.depth step s) f.0 in
      let y = some_returns m.callers x.0 f.1 in
      (y.0, record { mid = x.0; lands = x.1; returns = y.1 })
  some_stands (Ending c) m n s f = some_returns m.callers (Gives c s) f

pub comes_to_one : (dialect : Dialect) (c : Config) → Fits c → (r : Got Completion) × StandsBy dialect c.turn c.machine c.state r × ((q : Got Completion) → StandsBy dialect c.turn c.machine c.state q → q ≡ r)
comes_to_one dialect c f = let x = some_stands dialect c.turn c.machine c.paid c.state f.by in (x.0, x.1, λ q h. one_stands dialect c.turn c.machine c.state q x.0 h x.1)
