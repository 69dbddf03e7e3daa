-- A page's step, and the end of a code.
use Rattle.std.proofs.Common.{◌≡◌, ◌⊎◌, inl, ℕ, suc, ◌+◌, ◌≤◌, ◌<◌, List, [], ◌∷◌, ◌++◌, refl, sym, ap, ◌∙◌, subst, arith}
use Rattle.std.proofs.Math.Seq.{take-append_seam}
use Rattle.tcl_chars.specs.declared.numbers.Dialect.{Dialect}
use Rattle.tcl_pages.specs.Texts.{Text}
use Rattle.tcl_meaning.specs.Agreement.{Agrees, IsPart}
use Rattle.tcl_meaning.specs.Asking.{Asks, value_step, answered as answered_within, all_answered, questions, questions_owed}
use Rattle.tcl_meaning.specs.Beginnings.{OutputsBegin}
use Rattle.tcl_meaning.specs.Completions.{Completion, nothing, too_deep}
use Rattle.tcl_meaning.specs.Control.{turned}
use Rattle.tcl_meaning.specs.Effects.{Scope, Here, At, Within, Got, Gives, Broke, Exits, Give, exec, does, entered, paid}
use Rattle.tcl_meaning.specs.Expressions.{expression}
use Rattle.tcl_meaning.specs.Pages.{owed}
use Rattle.tcl_meaning.specs.Script.{Run, page_in, most_depth}
use Rattle.tcl_meaning.specs.State.{State, with_units, remains}
use Rattle.tcl_meaning.specs.Substitution.{inside}
use Rattle.tcl_meaning.specs.Tasks.{Step, Done, Evaluate, Pay, Owes, Loop}
use Rattle.tcl_meaning.specs.Tasks as tasks
use Rattle.tcl_meaning.specs.Value.{Value, completed}
use Rattle.tcl_meaning.proofs.Runs.{exec_bind, entered_units}
use Rattle.tcl_code.specs.Instructions.{Instruction}
use Rattle.tcl_code.specs.Caught.{lands}
use Rattle.tcl_code.specs.Machine.{Spot, To, Ends, first_spot}
use Rattle.tcl_code.specs.Means.{EndsAs, Means, MeansExpr}
use Rattle.tcl_code.specs.Valid.{Valid, bare}
use Rattle.tcl_vm.specs.Fitting.{FitsHere, FitsThen, AllFit}
use Rattle.tcl_vm.specs.Standing.{Running, Undone, Nothing, undone_of, undo, Waiting, Machine, Comes, Returns, Lands, IsLost, left_of_page, paid_back}
use Rattle.tcl_vm.specs.Turns.{Next, Asking, Ending, Config, Stands, StandsBy, all_owed, all_paid, all_left, left, On, Begun, Used, Turned, Over, Paused, Exited, BrokenOff}
use Rattle.tcl_vm.proofs.Forward.{outputs_same}
use Rattle.tcl_vm.proofs.Returning.{value_of, done_goes, done_ends, owed_lands, run_is, run_returns, evaluate_returns, too_deep_ends, pay_is, lands_as, lands_broke, stepped, exited, broken}
use Rattle.tcl_vm.proofs.Landing.{lands_fit}
use Rattle.tcl_vm.proofs.Turning.{config, moved_to, stands_on, agrees_on, part_on, is_same}

-- ---- those that wait

all_push : (ws : List Waiting) (w : Waiting) → AllFit ws → FitsThen w.caller w.paid → AllFit (ws ++ w ∷ [])
all_push [] w h f = (f, tt)
all_push (v ∷ ws) w h f = (h.0, all_push ws w h.1 f)

record PoppedFit (ws : List Waiting) (w : Waiting) : Type 0 where
  pub caller : FitsThen w.caller w.paid
  pub waiting : AllFit ws

all_pop : (ws : List Waiting) (w : Waiting) → AllFit (ws ++ w ∷ []) → PoppedFit ws w
all_pop [] w h = record { caller = h.0; waiting = tt }
all_pop (v ∷ ws) w h = let x = all_pop ws w h.1 in record { caller = x.caller; waiting = (h.0, x.waiting) }

paid_push : (ws : List Waiting) (w : Waiting) → all_paid (ws ++ w ∷ []) ≡ all_paid ws + w.paid
paid_push [] w = refl
paid_push (v ∷ ws) w = let e = paid_push ws w in omega arith

owed_push : (ws : List Waiting) (w : Waiting) → all_owed (ws ++ w ∷ []) ≡ all_owed ws + questions_owed w.owes
owed_push [] w = refl
owed_push (v ∷ ws) w = let e = owed_push ws w in omega arith

left_push : (ws : List Waiting) (w : Waiting) → all_left (ws ++ w ∷ []) ≡ all_left ws + (left w.caller + 3)
left_push [] w = refl
left_push (v ∷ ws) w = let e = left_push ws w in omega arith

-- a code at its beginning
pub begun_fits : (code : List Instruction) (d : ℕ) → Valid code → d ≤ most_depth → FitsHere (record { code = code; spot = first_spot d }) 0
begun_fits code d v le = record { shape = bare; valid = v; comes = record { steps = 0; comes = (refl, refl) }; shaped = record { texts = refl; lists = refl; results = refl; brackets = omega arith }; deep = le; outer = 0; loops = refl; paid_for = omega arith }

entered_grow : (scope : Scope) (s : State) → OutputsBegin s.channels (entered scope s).channels
entered_grow Here s = outputs_same s.channels
entered_grow (At level) s = outputs_same s.channels
entered_grow (Within vs) s = outputs_same s.channels

-- a page waits for what was begun
abbrev pub pushed : Running → Owes → Undone → ℕ → Machine → Machine
pushed a o u n m = record { current = a; callers = m.callers ++ (record { owes = o; undone = u; caller = m.current; paid = n }) ∷ [] }

-- a frame that is entered and left at once
pub undo_entered : (scope : Scope) (s : State) → undo (undone_of scope s) (entered scope s) ≡ s
undo_entered Here s = refl
undo_entered (At level) s = refl
undo_entered (Within vs) s = ap (λ fs. record s { store = record s.store { frames = fs } }) (take-append_seam s.store.frames _)

module _ (dialect : Dialect) where
  -- ---- it is done

  done_is : (d : ℕ) (c : Completion) (s : State) → left_of_page dialect d (Done c) s ≡ Gives c s
  unfolding answered_within all_answered
  done_is d c s = refl

  -- the code goes on behind the command, or at a loop
  pub on_done : (m : Machine) (n : ℕ) (s : State) (c : Completion) (q : Spot) → lands m.current c s ≡ To q s → Turned dialect On (config (Asking (Done c)) m n s) (config Next (moved_to m q) n s)
  on_done m n s c q e = record {
    stands = stands_on dialect _ _ (outputs_same s.channels) (λ r h. record { either = inl (done_goes dialect m q c s r e (lands_as dialect m _ _ r (done_is m.current.spot.depth c s) h)) });
    fits = λ f. record { by = ((lands_fit m.current n c s s q e (f.by.0.then_fits c)).0, f.by.1) };
    less = λ f. let x = (lands_fit m.current n c s s q e (f.by.0.then_fits c)).1 in (omega arith, omega arith, omega arith);
    onward = record { spends = omega arith; adds = outputs_same s.channels };
  }

  -- or it ends
  pub on_failed : (m : Machine) (n : ℕ) (s : State) (c e : Completion) → lands m.current c s ≡ Ends (Gives e s) → Turned dialect On (config (Asking (Done c)) m n s) (config (Ending e) m n s)
  on_failed m n s c e is = record {
    stands = stands_on dialect (config (Asking (Done c)) m n s) (config (Ending e) m n s) (outputs_same s.channels) (λ r h. record { either = inl (done_ends dialect m c e s r is (lands_as dialect m _ _ r (done_is m.current.spot.depth c s) h)) });
    fits = λ f. record { by = f.by.1 };
    less = λ f. (omega arith, omega arith, omega arith);
    onward = record { spends = omega arith; adds = outputs_same s.channels };
  }

  -- ---- a script or an expression begins

  pub comes_by : {meant : ℕ → State → Got Completion} (code : List Instruction) (d : ℕ) (s : State) → EndsAs dialect code meant → d ≤ most_depth → Comes dialect (record { code = code; spot = first_spot d }) s (meant d s)
  comes_by {meant} code d s h le = let x = (h.ends d s (meant d s) le).1 refl in record { steps = x.0; ends = x.1 }

  pub on_run : (m : Machine) (n : ℕ) (s : State) (scope : Scope) (t : Text) (o : Owes) (code : List Instruction) → Means dialect code t → m.current.spot.depth < most_depth
      → Turned dialect Begun (config (Asking (tasks.Run scope t o)) m n s) (config Next (pushed (record { code = code; spot = first_spot (m.current.spot.depth + 1) }) o (undone_of scope s) n m) 0 (entered scope s))
  on_run m n s scope t o code means lt =
      let d = m.current.spot.depth in
      let u = entered_units scope s in
      let g = entered_grow scope s in
      let q = owed_push m.callers (record { owes = o; undone = undone_of scope s; caller = m.current; paid = n }) in
      let z = paid_push m.callers (record { owes = o; undone = undone_of scope s; caller = m.current; paid = n }) in
      record {
        stands = stands_on dialect (config (Asking (tasks.Run scope t o)) m n s) _ g (λ r h. record { either = inl (record { mid = Run dialect (inside d t) (entered scope s); runs = comes_by code (d + 1) (entered scope s) means (omega arith); returns = run_returns dialect m scope t o n s r h }) });
        fits = λ f. record { by = (begun_fits code (d + 1) means.valid (omega arith), all_push m.callers _ f.by.1 f.by.0) };
        less = λ f. (omega arith, omega arith);
        onward = record { spends = omega arith; adds = g };
      }

  pub on_evaluate : (m : Machine) (n : ℕ) (s : State) (t : Text) (o : Owes) (code : List Instruction) → MeansExpr dialect code t → m.current.spot.depth ≤ most_depth
      → Turned dialect Begun (config (Asking (Evaluate t o)) m n s) (config Next (pushed (record { code = code; spot = first_spot m.current.spot.depth }) o Nothing n m) 0 s)
  on_evaluate m n s t o code means le =
      let d = m.current.spot.depth in
      let q = owed_push m.callers (record { owes = o; undone = Nothing; caller = m.current; paid = n }) in
      let z = paid_push m.callers (record { owes = o; undone = Nothing; caller = m.current; paid = n }) in
      let same = exec_bind (Run dialect) (expression dialect d t) (λ v. Give (completed v)) s in
      record {
        stands = stands_on dialect (config (Asking (Evaluate t o)) m n s) _ (outputs_same s.channels)
            (λ r h. record { either = inl (record { mid = value_of dialect d t s; runs = subst (λ x. Comes dialect (record { code = code; spot = first_spot d }) s x) same (comes_by code d s means le); returns = evaluate_returns dialect m t o n s r h }) });
        fits = λ f. record { by = (begun_fits code d means.valid le, all_push m.callers _ f.by.1 f.by.0) };
        less = λ f. (omega arith, omega arith);
        onward = record { spends = omega arith; adds = outputs_same s.channels };
      }

  -- ---- a page goes on: one that waited, or one whose turn is paid for

  module _ (c : Config) (m : Machine) (page : Asks) (s t : State) (g : OutputsBegin c.state.channels t.channels) (u : t.units ≤ c.state.units)
      (lands : (r : Got Completion) → StandsBy dialect c.turn c.machine c.state r → Lands dialect m (exec (Run dialect) (page_in dialect m.current.spot.depth page) s) r) where
    pub page_stands : (n : ℕ) (v : Value Step) (step : Step) → value_step v ≡ step → Agrees (does page s) (Gives v t) → (r : Got Completion) → Stands dialect c r → Stands dialect (config (Asking step) m n t) r
    page_stands n v step k a = stands_on dialect c (config (Asking step) m n t) g
        (λ r h. record { either = subst (λ x. Lands dialect m (left_of_page dialect m.current.spot.depth x t) r ⊎ IsLost t r) k (stepped dialect m page s t v r a (lands r h)) })

    pub page_exits : (status : ℕ) → Agrees (does page s) (Exits status (remains t)) → Exited dialect c status t
    page_exits status a = record { agrees = agrees_on dialect c t (Exits status (remains t)) g refl (λ r h. exited dialect m page s t status r a (lands r h)); onward = record { spends = u; adds = g } }

    pub page_breaks : IsPart t.channels (does page s) → BrokenOff dialect c t
    page_breaks a = record { part = part_on dialect c t g (λ r h. broken dialect m page s t.channels r a (lands r h)); onward = record { spends = u; adds = g } }

  -- ---- a script would stand too deep

  module _ (m : Machine) (n : ℕ) (s t : State) (scope : Scope) (script : Text) (o : Owes) (g : OutputsBegin s.channels t.channels) (le : most_depth ≤ m.current.spot.depth) where
    deep_lands : (r : Got Completion) → Lands dialect m (left_of_page dialect m.current.spot.depth (tasks.Run scope script o) s) r → Lands dialect m (exec (Run dialect) (page_in dialect m.current.spot.depth (owed dialect o too_deep)) s) r
    deep_lands r h =
        let d = m.current.spot.depth in
        lands_as dialect m _ _ r
        (run_is dialect m scope script o n s
        ∙ ap (paid_back dialect (record { owes = o; undone = undone_of scope s; caller = m.current; paid = n })) (too_deep_ends dialect (d + 1) nothing script (entered scope s) (omega arith))
        ∙ ap (λ x. exec (Run dialect) (page_in dialect d (owed dialect o too_deep)) x) (undo_entered scope s)) h

    pub on_deep : (v : Value Step) (step : Step) → value_step v ≡ step → Agrees (does (owed dialect o too_deep) s) (Gives v t) → t.units ≡ s.units → questions step ≤ questions_owed o → Turned dialect Begun (config (Asking (tasks.Run scope script o)) m n s) (config (Asking step) m n t)
    on_deep v step q a u k = record {
      stands = page_stands (config (Asking (tasks.Run scope script o)) m n s) m (owed dialect o too_deep) s t g (omega arith) deep_lands n v step q a;
      fits = λ f. record { by = f.by };
      less = λ f. (omega arith, omega arith);
      onward = record { spends = omega arith; adds = g };
    }

    pub on_deep_exit : (status : ℕ) → Agrees (does (owed dialect o too_deep) s) (Exits status (remains t)) → t.units ≤ s.units → Exited dialect (config (Asking (tasks.Run scope script o)) m n s) status t
    on_deep_exit status a u = page_exits (config (Asking (tasks.Run scope script o)) m n s) m (owed dialect o too_deep) s t g u deep_lands status a

    pub on_deep_broken : IsPart t.channels (does (owed dialect o too_deep) s) → t.units ≤ s.units → BrokenOff dialect (config (Asking (tasks.Run scope script o)) m n s) t
    on_deep_broken a u = page_breaks (config (Asking (tasks.Run scope script o)) m n s) m (owed dialect o too_deep) s t g u deep_lands a

  -- ---- a turn is paid for

  pay_lands : (m : Machine) (s : State) (k : ℕ) (loop : Loop) (r : Got Completion) → s.units ≡ suc k → Lands dialect m (left_of_page dialect m.current.spot.depth (Pay loop) s) r
      → Lands dialect m (exec (Run dialect) (page_in dialect m.current.spot.depth (turned loop)) (with_units k s)) r
  pay_lands m s k loop r e h = lands_as dialect m _ _ r (pay_is dialect m.current.spot.depth loop s ∙ ap (paid (Run dialect) (page_in dialect m.current.spot.depth (turned loop)) s) e) h

  pub on_unpaid : (m : Machine) (n : ℕ) (s : State) (loop : Loop) → s.units ≡ 0 → Paused dialect (config (Asking (Pay loop)) m n s) s
  on_unpaid m n s loop e = record {
    agrees = agrees_on dialect (config (Asking (Pay loop)) m n s) s (Broke (remains s)) (outputs_same s.channels) refl
        (λ r h. is_same r (Broke (remains s)) (lands_broke dialect m (remains s) r (lands_as dialect m _ _ r (pay_is dialect m.current.spot.depth loop s ∙ ap (paid (Run dialect) (page_in dialect m.current.spot.depth (turned loop)) s) e) h)));
    onward = record { spends = omega arith; adds = outputs_same s.channels };
  }

  module _ (m : Machine) (n : ℕ) (s t : State) (k : ℕ) (loop : Loop) (e : s.units ≡ suc k) (g : OutputsBegin s.channels t.channels) where
    pub on_paid : (v : Value Step) (step : Step) → value_step v ≡ step → Agrees (does (turned loop) (with_units k s)) (Gives v t) → t.units ≡ k → Turned dialect Used (config (Asking (Pay loop)) m n s) (config (Asking step) m n t)
    on_paid v step q a u = record {
      stands = page_stands (config (Asking (Pay loop)) m n s) m (turned loop) (with_units k s) t g (omega arith) (λ r h. pay_lands m s k loop r e h) n v step q a;
      fits = λ f. record { by = f.by };
      less = λ f. omega arith;
      onward = record { spends = omega arith; adds = g };
    }

    pub on_paid_exit : (status : ℕ) → Agrees (does (turned loop) (with_units k s)) (Exits status (remains t)) → t.units ≤ s.units → Exited dialect (config (Asking (Pay loop)) m n s) status t
    on_paid_exit status a u = page_exits (config (Asking (Pay loop)) m n s) m (turned loop) (with_units k s) t g u (λ r h. pay_lands m s k loop r e h) status a

    pub on_paid_broken : IsPart t.channels (does (turned loop) (with_units k s)) → t.units ≤ s.units → BrokenOff dialect (config (Asking (Pay loop)) m n s) t
    on_paid_broken a u = page_breaks (config (Asking (Pay loop)) m n s) m (turned loop) (with_units k s) t g u (λ r h. pay_lands m s k loop r e h) a

  -- ---- a code has ended

  pub on_end : (m : Machine) (n : ℕ) (s : State) (c : Completion) → m.callers ≡ [] → Over dialect (config (Ending c) m n s) c s
  on_end m n s c e = record {
    agrees = agrees_on dialect (config (Ending c) m n s) s (Gives c s) (outputs_same s.channels) refl (λ r h. is_same r (Gives c s) (sym (subst (λ ws. Returns dialect ws (Gives c s) r) e h)));
    onward = record { spends = omega arith; adds = outputs_same s.channels };
  }

  module _ (a : Running) (ws : List Waiting) (w : Waiting) (n : ℕ) (s t : State) (c : Completion) (g : OutputsBegin s.channels t.channels) where
    abbrev ending : Config
    ending = config (Ending c) (record { current = a; callers = ws ++ w ∷ [] }) n s

    abbrev back : Machine
    back = record { current = w.caller; callers = ws }

    pub on_back : (v : Value Step) (step : Step) → value_step v ≡ step → Agrees (does (owed dialect w.owes c) (undo w.undone s)) (Gives v t) → t.units ≡ s.units → questions step ≤ questions_owed w.owes → Turned dialect On ending (config (Asking step) back w.paid t)
    on_back v step q h u k = record {
      stands = page_stands ending back (owed dialect w.owes c) (undo w.undone s) t g (omega arith) (λ r x. owed_lands dialect ws w c s r x) w.paid v step q h;
      fits = λ f. let x = all_pop ws w f.by in record { by = (x.caller, x.waiting) };
      less = λ f. let p = owed_push ws w in let l = left_push ws w in let z = paid_push ws w in (omega arith, omega arith, omega arith);
      onward = record { spends = omega arith; adds = g };
    }

    pub on_back_exit : (status : ℕ) → Agrees (does (owed dialect w.owes c) (undo w.undone s)) (Exits status (remains t)) → t.units ≤ s.units → Exited dialect ending status t
    on_back_exit status h u = page_exits ending back (owed dialect w.owes c) (undo w.undone s) t g u (λ r x. owed_lands dialect ws w c s r x) status h

    pub on_back_broken : IsPart t.channels (does (owed dialect w.owes c) (undo w.undone s)) → t.units ≤ s.units → BrokenOff dialect ending t
    on_back_broken h u = page_breaks ending back (owed dialect w.owes c) (undo w.undone s) t g u (λ r x. owed_lands dialect ws w c s r x) h
