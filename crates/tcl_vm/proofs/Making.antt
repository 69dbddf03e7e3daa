-- What a page's step and the end of a code make of the real machine.
use Rattle.std.proofs.Common.{◌≡◌, ℕ, ◌+◌, ◌≤◌, ◌<◌, Bool, true, false, List, [], ◌∷◌, ◌++◌, Some, None, Ok, Err, refl, sym, ap, ◌∙◌, subst, arith}
use Rattle.tcl_chars.specs.declared.numbers.Dialect.{Dialect}
use Rattle.tcl_pages.specs.Texts.{Text}
use Rattle.tcl_meaning.specs.Agreement.{Agrees, IsPart}
use Rattle.tcl_meaning.specs.Asking.{questions, questions_owed}
use Rattle.tcl_meaning.specs.Beginnings.{OutputsBegin}
use Rattle.tcl_meaning.specs.Completions.{Completion, too_deep}
use Rattle.tcl_meaning.specs.Control.{turned}
use Rattle.tcl_meaning.specs.Effects.{Scope, Got, Exits, does, entered}
use Rattle.tcl_meaning.specs.Pages.{owed}
use Rattle.tcl_meaning.specs.Script.{most_depth}
use Rattle.tcl_meaning.specs.State.{State, with_units, remains}
use Rattle.tcl_meaning.specs.Tasks.{Step, Done, Run, Evaluate, Pay}
use Rattle.tcl_meaning.specs.Value.{Value}
use Rattle.tcl_code.specs.Machine.{first_spot}
use Rattle.tcl_code.specs.Means.{Means, MeansExpr}
use Rattle.tcl_vm.specs.Engines.{Views, completion_of, step_of, Answers, BeginsAs, LandsSo, Spent}
use Rattle.tcl_vm.specs.Machines.{waiting_of, waitings, machine_of, Stops}
use Rattle.tcl_vm.specs.Standing.{Running, Undone, Nothing, Back, Gone, undone_of, undo}
use Rattle.tcl_vm.specs.Standing as standing
use Rattle.tcl_vm.specs.Turns.{Turn, Next, Asking, Ending, Config, Fits, Onward, Later, Turned, On, Begun, Used, Over, Paused, Pauses, Exited, BrokenOff}
use Rattle.tcl_vm.specs.Unwinding.{CanUndo, SameFrames, Unwinds}
use Rattle.tcl_vm.proofs.Unwinding.{can_undo, unwinds_back, unwinds_entered, unwinds_stay}
use Rattle.tcl_vm.specs.declared.engine.Stop.{Stop}
use Rattle.tcl_vm.specs.declared.engine.Stop.TheVariants as stop
use Rattle.tcl_steps.specs.declared.step.Step.{Step as Asked}
use Rattle.tcl_vm.specs.declared.machine.Machine.{Machine}
use Rattle.tcl_vm.specs.declared.machine.Waiting.{Waiting}
use Rattle.tcl_vm.proofs.Turning.{config, refused}
use Rattle.tcl_vm.proofs.Answering.{pushed, on_done, on_failed, on_run, on_evaluate, on_deep, on_deep_exit, on_deep_broken, on_unpaid, on_paid, on_paid_exit, on_paid_broken, on_end, on_back, on_back_exit, on_back_broken}
use Rattle.tcl_meaning.proofs.Runs.{entered_units, entered_channels}
use Rattle.tcl_meaning.specs.Beginnings.{more}
use Rattle.tcl_vm.proofs.Later.{answers_later, onward_later, entered_later, undone_later, undo_later, spent_later}

undo_channels : (u : Undone) (s : State) → (undo u s).channels ≡ s.channels
undo_channels Nothing s = refl
undo_channels (Back i) s = refl
undo_channels (Gone i n) s = refl

undo_units : (u : Undone) (s : State) → (undo u s).units ≡ s.units
undo_units Nothing s = refl
undo_units (Back i) s = refl
undo_units (Gone i n) s = refl

-- memory was refused, and nothing was put out
pub refused_same : (dialect : Dialect) (c : Config) (t : State) → t ≡ c.state → BrokenOff dialect c t
refused_same dialect c t e = let u = ap (λ s. s.units) e in refused dialect c t (ap (λ s. s.channels) e) (omega arith)

pub refused_entered : (dialect : Dialect) (c : Config) (scope : Scope) (s t : State) → s ≡ c.state → t ≡ entered scope s → BrokenOff dialect c t
refused_entered dialect c scope s t q e =
    let u = ap (λ x. x.units) q in
    let v = ap (λ x. x.units) e ∙ entered_units scope s in
    refused dialect c t (ap (λ x. x.channels) e ∙ entered_channels scope s ∙ ap (λ x. x.channels) q) (omega arith)

-- those that wait, and one more
waitings_push : {A U S O L : Type 0} (views : Views A U S O L) (ws : List (Waiting A U O)) (w : Waiting A U O) → waitings views (ws ++ w ∷ []) ≡ waitings views ws ++ waiting_of views w ∷ []
waitings_push views [] w = refl
waitings_push views (v ∷ ws) w = ap (λ x. waiting_of views v ∷ x) (waitings_push views ws w)

module _ {A U S O L : Type 0} (dialect : Dialect) (views : Views A U S O L) where
  -- a page that has stopped
  answers_stop : (c : Config) (t : State) (got : Got (Value Step)) (e : Stop) → Answers views got (Err e) t → ((n : ℕ) → Agrees got (Exits n (remains t)) → Exited dialect c n t) → (IsPart t.channels got → BrokenOff dialect c t) → Stops dialect e c t
  answers_stop c t got stop.Budget h f g = absurd h
  answers_stop c t got (stop.Exit n) h f g = f n h
  answers_stop c t got stop.Memory h f g = g h
  answers_stop c t got stop.Io h f g = g h

  -- ---- done

  -- the code goes on behind the command, or at a loop
  pub done_made : (m : Machine A U O) (a : A) (s : State) (c : Completion) → LandsSo None (views.running m.current) (views.running a) (completion_of c)
      → Turned dialect On (config (Asking (Done (completion_of c))) (machine_of views m) m.paid s) (config Next (record { current = views.running a; callers = waitings views m.callers.items }) m.paid s)
  done_made m a s c h =
      let spot = (views.running a).spot in
      subst (λ k. Turned dialect On (config (Asking (Done (completion_of c))) (machine_of views m) m.paid s) (config Next (record { current = record { code = k; spot = spot }; callers = waitings views m.callers.items }) m.paid s)) (sym h.0)
      (on_done dialect (machine_of views m) m.paid s (completion_of c) spot (h.1 s))

  -- or it ends
  pub failed_made : (m : Machine A U O) (a : A) (s : State) (c e : Completion) → LandsSo (Some e) (views.running m.current) (views.running a) (completion_of c)
      → Turned dialect On (config (Asking (Done (completion_of c))) (machine_of views m) m.paid s) (config (Ending (completion_of e)) (record { current = views.running a; callers = waitings views m.callers.items }) m.paid s)
  failed_made m a s c e h =
      let t = on_failed dialect (machine_of views m) m.paid s (completion_of c) (completion_of e) (h s) in
      record {
        stands = λ r y. record { either = (t.stands r y).either };
        fits = λ f. let y = t.fits f in record { by = y.by };
        less = λ f. t.less f;
        onward = t.onward;
      }

  -- ---- what begins

  abbrev begun_from : Config → standing.Machine → ℕ → State → Type 0
  begun_from c k n t = Turned dialect Begun c (config Next k n t)

  begun_is : (m n : Machine A U O) (a : A) (o : O) (u : U) → n.current ≡ a → n.callers.items ≡ m.callers.items ++ (record { owes = o; undone = u; caller = m.current; paid = m.paid }) ∷ []
      → machine_of views n ≡ pushed (views.running a) (views.owes o) (views.undone u) m.paid (machine_of views m)
  begun_is m n a o u e q =
      ap (λ x. record { current = views.running x; callers = waitings views n.callers.items }) e
      ∙ ap (λ ws. record { current = views.running a; callers = ws }) (ap (waitings views) q ∙ waitings_push views m.callers.items (record { owes = o; undone = u; caller = m.current; paid = m.paid }))

  begun_by : (c : Config) (m n : Machine A U O) (a : A) (o : O) (u : U) (b : Running) (w : Undone) (s t : State) → n.current ≡ a → n.callers.items ≡ m.callers.items ++ (record { owes = o; undone = u; caller = m.current; paid = m.paid }) ∷ [] → n.paid ≡ 0
      → views.running a ≡ b → views.undone u ≡ w → t ≡ s → begun_from c (pushed b (views.owes o) w m.paid (machine_of views m)) 0 s → begun_from c (machine_of views n) n.paid t
  begun_by c m n a o u b w s t e q p r v k h =
      let f = begun_is m n a o u e q ∙ ap (λ x. pushed x (views.owes o) (views.undone u) m.paid (machine_of views m)) r ∙ ap (λ x. pushed b (views.owes o) x m.paid (machine_of views m)) v in
      subst (λ x. begun_from c (machine_of views n) n.paid x) (sym k) (subst (λ x. begun_from c (machine_of views n) x s) (sym p) (subst (λ x. begun_from c x 0 s) (sym f) h))

  spot_is : (a : Running) (d : ℕ) → a.spot ≡ first_spot d → a ≡ record { code = a.code; spot = first_spot d }
  spot_is a d e = ap (λ q. record { code = a.code; spot = q }) e

  pub run_made : (m n : Machine A U O) (a : A) (scope : S) (text : Text) (o : O) (u : U) (d : ℕ) (s s1 t : State) → d ≡ (views.running m.current).spot.depth → d < most_depth → BeginsAs (Means dialect) text (d + 1) (views.running a) → s1 ≡ s
      → views.undone u ≡ undone_of (views.scope scope) s1 → t ≡ entered (views.scope scope) s1
      → n.current ≡ a → n.callers.items ≡ m.callers.items ++ (record { owes = o; undone = u; caller = m.current; paid = m.paid }) ∷ [] → n.paid ≡ 0
      → begun_from (config (Asking (Run (views.scope scope) text (views.owes o))) (machine_of views m) m.paid s) (machine_of views n) n.paid t
  run_made m n a scope text o u d s s1 t k lt b q w v e f p =
      let sc = views.scope scope in
      let k1 = ap (λ x. x + 1) k in
      begun_by (config (Asking (Run sc text (views.owes o))) (machine_of views m) m.paid s) m n a o u (record { code = (views.running a).code; spot = first_spot ((views.running m.current).spot.depth + 1) }) (undone_of sc s) (entered sc s) t e f p
      (spot_is (views.running a) (d + 1) b.at_start ∙ ap (λ x. record { code = (views.running a).code; spot = first_spot x }) k1)
      (w ∙ ap (undone_of sc) q) (v ∙ ap (entered sc) q)
      (on_run dialect (machine_of views m) m.paid s sc text (views.owes o) (views.running a).code b.is_meant (omega arith))

  pub evaluate_made : (m n : Machine A U O) (a : A) (text : Text) (o : O) (u : U) (d : ℕ) (s t : State) → d ≡ (views.running m.current).spot.depth → d ≤ most_depth → BeginsAs (MeansExpr dialect) text d (views.running a) → t ≡ s
      → views.undone u ≡ Nothing
      → n.current ≡ a → n.callers.items ≡ m.callers.items ++ (record { owes = o; undone = u; caller = m.current; paid = m.paid }) ∷ [] → n.paid ≡ 0
      → begun_from (config (Asking (Evaluate text (views.owes o))) (machine_of views m) m.paid s) (machine_of views n) n.paid t
  evaluate_made m n a text o u d s t k le b q w e f p =
      begun_by (config (Asking (Evaluate text (views.owes o))) (machine_of views m) m.paid s) m n a o u (record { code = (views.running a).code; spot = first_spot (views.running m.current).spot.depth }) Nothing s t e f p
      (spot_is (views.running a) d b.at_start ∙ ap (λ x. record { code = (views.running a).code; spot = first_spot x }) k)
      w q
      (on_evaluate dialect (machine_of views m) m.paid s text (views.owes o) (views.running a).code b.is_meant (omega arith))

  -- ---- a script that would stand too deep

  module _ (m : Machine A U O) (s t : State) (scope : S) (text : Text) (o : O) (d : ℕ) (c : Completion) (k : d ≡ (views.running m.current).spot.depth) (le : most_depth ≤ d) (q : completion_of c ≡ too_deep) (g : Onward s t) where
    abbrev deep : Config
    deep = config (Asking (Run (views.scope scope) text (views.owes o))) (machine_of views m) m.paid s

    pub deep_made : (asked : Asked S O L) → Answers views (does (owed dialect (views.owes o) (completion_of c)) s) (Ok asked) t → questions (step_of views asked) ≤ questions_owed (views.owes o) → t.units ≡ s.units
        → Turned dialect Begun deep (config (Asking (step_of views asked)) (machine_of views m) m.paid t)
    deep_made asked h f u =
        let x = subst (λ y. Answers views (does (owed dialect (views.owes o) y) s) (Ok asked) t) q h in
        on_deep dialect (machine_of views m) m.paid s t (views.scope scope) text (views.owes o) g.adds (omega arith) x.0 (step_of views asked) x.1 x.2 u f

    pub deep_stops : (e : Stop) → Answers views (does (owed dialect (views.owes o) (completion_of c)) s) (Err e) t → Stops dialect e deep t
    deep_stops e h =
        let x = subst (λ y. Answers views (does (owed dialect (views.owes o) y) s) (Err e) t) q h in
        answers_stop deep t (does (owed dialect (views.owes o) too_deep) s) e x
        (λ n a. on_deep_exit dialect (machine_of views m) m.paid s t (views.scope scope) text (views.owes o) g.adds (omega arith) n a g.spends)
        (λ a. on_deep_broken dialect (machine_of views m) m.paid s t (views.scope scope) text (views.owes o) g.adds (omega arith) a g.spends)

  -- ---- a turn of a loop

  pub unpaid_made : (m : Machine A U O) (turns : L) (s t : State) (b : Bool) → b ≡ false → Spent b s t → Paused dialect (config (Asking (Pay (views.turns turns))) (machine_of views m) m.paid s) t
  unpaid_made m turns s t b e h =
      let x = subst (λ y. Spent y s t) e h in
      subst (λ y. Paused dialect (config (Asking (Pay (views.turns turns))) (machine_of views m) m.paid s) y) (sym x.1) (on_unpaid dialect (machine_of views m) m.paid s (views.turns turns) x.0)

  module _ (m : Machine A U O) (turns : L) (s s1 t : State) (b : Bool) (e : b ≡ true) (h : Spent b s s1) (g : Onward s1 t) where
    abbrev paying : Config
    paying = config (Asking (Pay (views.turns turns))) (machine_of views m) m.paid s

    spent : Spent true s s1
    spent = subst (λ y. Spent y s s1) e h

    adds : OutputsBegin s.channels t.channels
    adds = subst (λ y. OutputsBegin y.channels t.channels) spent.2 g.adds

    pub paid_made : (asked : Asked S O L) → Answers views (does (turned (views.turns turns)) s1) (Ok asked) t → t.units ≡ s1.units → Turned dialect Used paying (config (Asking (step_of views asked)) (machine_of views m) m.paid t)
    paid_made asked a u =
        let x = subst (λ y. Answers views (does (turned (views.turns turns)) y) (Ok asked) t) spent.2 a in
        on_paid dialect (machine_of views m) m.paid s t spent.0 (views.turns turns) spent.1 adds x.0 (step_of views asked) x.1 x.2 (u ∙ ap (λ y. y.units) spent.2)

    pub paid_stops : (x : Stop) → Answers views (does (turned (views.turns turns)) s1) (Err x) t → Stops dialect x paying t
    paid_stops x a =
        let y = subst (λ z. Answers views (does (turned (views.turns turns)) z) (Err x) t) spent.2 a in
        let u = ap (λ z. z.units) spent.2 in
        let v = g.spends in
        let w = spent.1 in
        answers_stop paying t (does (turned (views.turns turns)) (with_units spent.0 s)) x y
        (λ n z. on_paid_exit dialect (machine_of views m) m.paid s t spent.0 (views.turns turns) w adds n z (omega arith))
        (λ z. on_paid_broken dialect (machine_of views m) m.paid s t spent.0 (views.turns turns) w adds z (omega arith))

  -- ---- the end of a code

  pub end_made : (m : Machine A U O) (s : State) (c : Completion) → m.callers.items ≡ [] → Over dialect (config (Ending (completion_of c)) (machine_of views m) m.paid s) (completion_of c) s
  end_made m s c e = on_end dialect (machine_of views m) m.paid s (completion_of c) (ap (waitings views) e)

  module _ (m : Machine A U O) (ws : List (Waiting A U O)) (w : Waiting A U O) (s s1 t : State) (c : Completion) (e : m.callers.items ≡ ws ++ w ∷ []) (q : s1 ≡ undo (views.undone w.undone) s) (g : Onward s1 t) where
    abbrev ended : standing.Machine → Config
    ended k = config (Ending (completion_of c)) k m.paid s

    same : record { current = views.running m.current; callers = waitings views ws ++ waiting_of views w ∷ [] } ≡ machine_of views m
    same = ap (λ x. record { current = views.running m.current; callers = x }) (sym (ap (waitings views) e ∙ waitings_push views ws w))

    grown : OutputsBegin s.channels t.channels
    grown = subst (λ x. OutputsBegin x t.channels) (ap (λ x. x.channels) q ∙ undo_channels (views.undone w.undone) s) g.adds

    pub back_made : (asked : Asked S O L) → Answers views (does (owed dialect (views.owes w.owes) (completion_of c)) s1) (Ok asked) t → questions (step_of views asked) ≤ questions_owed (views.owes w.owes) → t.units ≡ s1.units
        → Turned dialect On (ended (machine_of views m)) (config (Asking (step_of views asked)) (record { current = views.running w.caller; callers = waitings views ws }) w.paid t)
    back_made asked a f u =
        let x = subst (λ y. Answers views (does (owed dialect (views.owes w.owes) (completion_of c)) y) (Ok asked) t) q a in
        subst (λ k. Turned dialect On (ended k) (config (Asking (step_of views asked)) (record { current = views.running w.caller; callers = waitings views ws }) w.paid t)) same
        (on_back dialect (views.running m.current) (waitings views ws) (waiting_of views w) m.paid s t (completion_of c) grown x.0 (step_of views asked) x.1 x.2 (u ∙ ap (λ y. y.units) q ∙ undo_units (views.undone w.undone) s) f)

    pub back_stops : (x : Stop) → Answers views (does (owed dialect (views.owes w.owes) (completion_of c)) s1) (Err x) t → Stops dialect x (ended (machine_of views m)) t
    back_stops x a =
        let y = subst (λ z. Answers views (does (owed dialect (views.owes w.owes) (completion_of c)) z) (Err x) t) q a in
        let u = ap (λ z. z.units) q ∙ undo_units (views.undone w.undone) s in
        let v = g.spends in
        subst (λ k. Stops dialect x (ended k) t) same
        (answers_stop _ t (does (owed dialect (views.owes w.owes) (completion_of c)) (undo (views.undone w.undone) s)) x y
        (λ n z. on_back_exit dialect (views.running m.current) (waitings views ws) (waiting_of views w) m.paid s t (completion_of c) grown n z (omega arith))
        (λ z. on_back_broken dialect (views.running m.current) (waitings views ws) (waiting_of views w) m.paid s t (completion_of c) grown z (omega arith)))

module _ {A U S O L : Type 0} (views : Views A U S O L) where
  -- ---- what can be undone

  pub run_unwinds : (m n : Machine A U O) (scope : S) (o : O) (u : U) (s s1 t : State) → s1 ≡ s → views.undone u ≡ undone_of (views.scope scope) s1 → t ≡ entered (views.scope scope) s1 → CanUndo (views.undone u) t
      → n.callers.items ≡ m.callers.items ++ (record { owes = o; undone = u; caller = m.current; paid = m.paid }) ∷ [] → (x y : Turn) (p q : ℕ) → Unwinds (config x (machine_of views m) p s) → Unwinds (config y (machine_of views n) q t)
  run_unwinds m n scope o u s s1 t e v w can f x y p q h =
      let new : Waiting A U O = record { owes = o; undone = u; caller = m.current; paid = m.paid } in
      unwinds_entered (config x (machine_of views m) p s) (config y (machine_of views n) q t) (waiting_of views new) (views.scope scope)
      (ap (waitings views) f ∙ waitings_push views m.callers.items new) (v ∙ ap (undone_of (views.scope scope)) e) (w ∙ ap (entered (views.scope scope)) e) can h

  pub evaluate_unwinds : (m n : Machine A U O) (o : O) (u : U) (s t : State) → t ≡ s → views.undone u ≡ Nothing → n.callers.items ≡ m.callers.items ++ (record { owes = o; undone = u; caller = m.current; paid = m.paid }) ∷ []
      → (x y : Turn) (p q : ℕ) → Unwinds (config x (machine_of views m) p s) → Unwinds (config y (machine_of views n) q t)
  evaluate_unwinds m n o u s t e v f x y p q h =
      let new : Waiting A U O = record { owes = o; undone = u; caller = m.current; paid = m.paid } in
      unwinds_stay (config x (machine_of views m) p s) (config y (machine_of views n) q t) (waiting_of views new) (ap (waitings views) f ∙ waitings_push views m.callers.items new) v e h

  pub back_can : (m : Machine A U O) (ws : List (Waiting A U O)) (w : Waiting A U O) (s : State) → m.callers.items ≡ ws ++ w ∷ [] → (x : Turn) (p : ℕ) → Unwinds (config x (machine_of views m) p s) → CanUndo (views.undone w.undone) s
  back_can m ws w s e x p h = can_undo (config x (machine_of views m) p s) (waitings views ws) (waiting_of views w) (ap (waitings views) e ∙ waitings_push views ws w) h

  pub back_unwinds : (m : Machine A U O) (ws : List (Waiting A U O)) (w : Waiting A U O) (s s1 t : State) → m.callers.items ≡ ws ++ w ∷ [] → s1 ≡ undo (views.undone w.undone) s → SameFrames s1 t
      → (x y : Turn) (p q : ℕ) (a : Running) → Unwinds (config x (machine_of views m) p s) → Unwinds (config y (record { current = a; callers = waitings views ws }) q t)
  back_unwinds m ws w s s1 t e k f x y p q a h =
      unwinds_back (config x (machine_of views m) p s) (config y (record { current = a; callers = waitings views ws }) q t) (waiting_of views w) (ap (waitings views) e ∙ waitings_push views ws w) (subst (λ z. SameFrames z t) k f) h

-- ---- with more units

module _ {A U S O L : Type 0} (dialect : Dialect) (views : Views A U S O L) where
  pub done_later : (m : Machine A U O) (a : A) (s : State) (c : Completion) → LandsSo None (views.running m.current) (views.running a) (completion_of c)
      → Later dialect (config (Asking (Done (completion_of c))) (machine_of views m) m.paid s) (config Next (record { current = views.running a; callers = waitings views m.callers.items }) m.paid s)
  done_later m a s c h = record { stands = λ b r y. (done_made dialect views m a (more b s) c h).stands r y }

  pub failed_later : (m : Machine A U O) (a : A) (s : State) (c e : Completion) → LandsSo (Some e) (views.running m.current) (views.running a) (completion_of c)
      → Later dialect (config (Asking (Done (completion_of c))) (machine_of views m) m.paid s) (config (Ending (completion_of e)) (record { current = views.running a; callers = waitings views m.callers.items }) m.paid s)
  failed_later m a s c e h = record { stands = λ b r y. (failed_made dialect views m a (more b s) c e h).stands r y }

  pub run_later : (m n : Machine A U O) (a : A) (scope : S) (text : Text) (o : O) (u : U) (d : ℕ) (s s1 t : State) → d ≡ (views.running m.current).spot.depth → d < most_depth → BeginsAs (Means dialect) text (d + 1) (views.running a) → s1 ≡ s
      → views.undone u ≡ undone_of (views.scope scope) s1 → t ≡ entered (views.scope scope) s1
      → n.current ≡ a → n.callers.items ≡ m.callers.items ++ (record { owes = o; undone = u; caller = m.current; paid = m.paid }) ∷ [] → n.paid ≡ 0
      → Later dialect (config (Asking (Run (views.scope scope) text (views.owes o))) (machine_of views m) m.paid s) (config Next (machine_of views n) n.paid t)
  run_later m n a scope text o u d s s1 t k lt g q w v e f p = record {
    stands = λ b r y. (run_made dialect views m n a scope text o u d (more b s) (more b s1) (more b t) k lt g (ap (more b) q) (w ∙ sym (undone_later b (views.scope scope) s1)) (ap (more b) v ∙ sym (entered_later b (views.scope scope) s1)) e f p).stands r y;
  }

  pub evaluate_later : (m n : Machine A U O) (a : A) (text : Text) (o : O) (u : U) (d : ℕ) (s t : State) → d ≡ (views.running m.current).spot.depth → d ≤ most_depth → BeginsAs (MeansExpr dialect) text d (views.running a) → t ≡ s
      → views.undone u ≡ Nothing
      → n.current ≡ a → n.callers.items ≡ m.callers.items ++ (record { owes = o; undone = u; caller = m.current; paid = m.paid }) ∷ [] → n.paid ≡ 0
      → Later dialect (config (Asking (Evaluate text (views.owes o))) (machine_of views m) m.paid s) (config Next (machine_of views n) n.paid t)
  evaluate_later m n a text o u d s t k le g q w e f p = record { stands = λ b r y. (evaluate_made dialect views m n a text o u d (more b s) (more b t) k le g (ap (more b) q) w e f p).stands r y }

  pub deep_later : (m : Machine A U O) (s t : State) (scope : S) (text : Text) (o : O) (d : ℕ) (c : Completion) → d ≡ (views.running m.current).spot.depth → most_depth ≤ d → completion_of c ≡ too_deep → Onward s t
      → (asked : Asked S O L) → Answers views (does (owed dialect (views.owes o) (completion_of c)) s) (Ok asked) t → questions (step_of views asked) ≤ questions_owed (views.owes o) → t.units ≡ s.units
      → Later dialect (config (Asking (Run (views.scope scope) text (views.owes o))) (machine_of views m) m.paid s) (config (Asking (step_of views asked)) (machine_of views m) m.paid t)
  deep_later m s t scope text o d c k le q g asked h f u = record {
    stands = λ b r y. (deep_made dialect views m (more b s) (more b t) scope text o d c k le q (onward_later b s t g) asked (answers_later b views (owed dialect (views.owes o) (completion_of c)) s t asked h) f (omega arith)).stands r y;
  }

  pub paid_later : (m : Machine A U O) (turns : L) (s s1 t : State) (x : Bool) → x ≡ true → Spent x s s1 → Onward s1 t → (asked : Asked S O L) → Answers views (does (turned (views.turns turns)) s1) (Ok asked) t → t.units ≡ s1.units
      → Later dialect (config (Asking (Pay (views.turns turns))) (machine_of views m) m.paid s) (config (Asking (step_of views asked)) (machine_of views m) m.paid t)
  paid_later m turns s s1 t x e h g asked a u =
      let h1 = subst (λ y. Spent y s s1) e h in
      record {
        stands = λ b r y. (paid_made dialect views m turns (more b s) (more b s1) (more b t) true refl (spent_later b s s1 h1) (onward_later b s1 t g) asked (answers_later b views (turned (views.turns turns)) s1 t asked a) (omega arith)).stands r y;
      }

  pub back_later : (m : Machine A U O) (ws : List (Waiting A U O)) (w : Waiting A U O) (s s1 t : State) (c : Completion) → m.callers.items ≡ ws ++ w ∷ [] → s1 ≡ undo (views.undone w.undone) s → Onward s1 t
      → (asked : Asked S O L) → Answers views (does (owed dialect (views.owes w.owes) (completion_of c)) s1) (Ok asked) t → questions (step_of views asked) ≤ questions_owed (views.owes w.owes) → t.units ≡ s1.units
      → Later dialect (config (Ending (completion_of c)) (machine_of views m) m.paid s) (config (Asking (step_of views asked)) (record { current = views.running w.caller; callers = waitings views ws }) w.paid t)
  back_later m ws w s s1 t c e q g asked a f u = record {
    stands = λ b r y. (back_made dialect views m ws w (more b s) (more b s1) (more b t) c e (ap (more b) q ∙ sym (undo_later b (views.undone w.undone) s)) (onward_later b s1 t g) asked (answers_later b views (owed dialect (views.owes w.owes) (completion_of c)) s1 t asked a) f (omega arith)).stands r y;
  }

  -- a unit is wanting for a turn
  pub unpaid_pauses : (m : Machine A U O) (turns : L) (s t : State) (x : Bool) → x ≡ false → Spent x s t → Pauses dialect (config (Asking (Pay (views.turns turns))) (machine_of views m) m.paid s) (config (Asking (Pay (views.turns turns))) (machine_of views m) m.paid t)
  unpaid_pauses m turns s t x e h =
      let y = subst (λ z. Spent z s t) e h in
      record {
        paused = unpaid_made dialect views m turns s t x e h;
        later = subst (λ z. Later dialect (config (Asking (Pay (views.turns turns))) (machine_of views m) m.paid s) (config (Asking (Pay (views.turns turns))) (machine_of views m) m.paid z)) (sym y.1) (record { stands = λ b r k. k });
        spent = ap (λ z. z.units) y.1 ∙ y.0;
      }

  pub unpaid_fits : (m : Machine A U O) (turns : L) (s t : State) (x : Bool) → x ≡ false → Spent x s t → Fits (config (Asking (Pay (views.turns turns))) (machine_of views m) m.paid s) → Fits (config (Asking (Pay (views.turns turns))) (machine_of views m) m.paid t)
  unpaid_fits m turns s t x e h f = subst (λ z. Fits (config (Asking (Pay (views.turns turns))) (machine_of views m) m.paid z)) (sym (subst (λ z. Spent z s t) e h).1) f
