-- What the real instructions make of the real machine.
use Rattle.std.proofs.Common.{◌≡◌, refl, ap, ◌∙◌, arith, ℕ, ◌-◌, ◌≤◌, List, Result, Ok, Err, IfOk, sym, subst, ⊎_elim}
use Rattle.tcl_meaning.specs.Completions.{Completion}
use Rattle.tcl_chars.specs.declared.numbers.Dialect.{Dialect}
use Rattle.tcl_meaning.specs.State.{State, remains}
use Rattle.tcl_meaning.specs.Effects.{Broke}
use Rattle.tcl_code.specs.Machine.{Ends}
use Rattle.tcl_vm.specs.Engines.{Views, completion_of, step_of, Steps, Position, position, Strides}
use Rattle.tcl_vm.specs.Machines.{Stops, Makes}
use Rattle.tcl_vm.specs.Standing.{Running, Waiting, Machine}
use Rattle.tcl_meaning.specs.Beginnings.{more}
use Rattle.tcl_meaning.specs.Pages.{invoked}
use Rattle.tcl_vm.specs.Turns.{Turn, Asking, Ending, Config, Fits, Kind, Onward, Later, Turned, Paused, Pauses, On, Used}
use Rattle.tcl_vm.specs.declared.engine.Stop.{Stop}
use Rattle.tcl_vm.specs.declared.engine.Stop.TheVariants as stop
use Rattle.tcl_steps.specs.declared.step.Step.{Step as Asked}
use Rattle.tcl_vm.specs.declared.engine.Progress.{Progress}
use Rattle.tcl_vm.specs.declared.engine.Progress.TheVariants as progress
use Rattle.tcl_vm.specs.declared.machine.Machine.{Machine as RealMachine}
use Rattle.tcl_vm.specs.declared.machine.Made.{Made}
use Rattle.tcl_vm.proofs.Turning.{config, on_over, on_paused, called_paid, on_called, on_called_exit, on_called_broken, refused}
use Rattle.tcl_vm.proofs.Walking.{machine_at, config_at, Walked, walked, onward_then, LeavesLess, then_turned, then_stops}
use Rattle.tcl_vm.proofs.Later.{plus_at, ends_later, calls_later, does_later, onward_later, walks_later}

-- a machine that rests where a unit is wanting
pub record Rests (dialect : Dialect) (c d : Config) : Type 0 where
  pub pauses : Pauses dialect c d
  pub fits : Fits c → Fits d

pub makes_err : {A U S O L : Type 0} (dialect : Dialect) (views : Views A U S O L) (x : Result (Made S O L) Stop) (e : Stop) (c : Config) (m : RealMachine A U O) (s : State) → x ≡ Err e → Stops dialect e c s → Makes dialect views x c m s
makes_err dialect views x e c m s q h = subst (λ y. Makes dialect views y c m s) (sym q) h

module _ {A U S O L : Type 0} (dialect : Dialect) (views : Views A U S O L) (ws : List Waiting) (p q : Position) where
  abbrev before : Config
  before = config_at p ws

  -- the machine before what it does next, with n commands paid for
  abbrev after : Turn → ℕ → Config
  after turn n = config turn (machine_at q.running ws) n q.state

  -- ---- the instruction at which they end

  module _ (at : Position) (g : Onward at.state q.state) where
    -- the code is the same
    with_code : q.running.code ≡ at.running.code → (P : Running → Type 0) → P (record { code = at.running.code; spot = q.running.spot }) → P q.running
    with_code e P h = subst (λ k. P (record { code = k; spot = q.running.spot })) (sym e) h

    abbrev steps_to : Result (Progress S O L) Stop → Type 0
    steps_to x = Steps dialect views x at.running q.running at.state q.state

    abbrev there : Machine
    there = machine_at at.running ws

    step_asks : q.running.code ≡ at.running.code → (x : Progress S O L) (asked : Asked S O L) → x ≡ progress.Asks asked → steps_to (Ok x) → Turned dialect Used (config_at at ws) (after (Asking (step_of views asked)) (at.paid - 1))
    step_asks e x asked is h =
        let k = subst (λ y. steps_to (Ok y)) is h in
        let called = k.0 in
        with_code e (λ b. Turned dialect Used (config_at at ws) (config (Asking (step_of views asked)) (machine_at b ws) (at.paid - 1) q.state))
        (on_called dialect there at.paid at.state q.state called.0 q.running.spot called.1 called.2.0 (step_of views asked) called.2.1 called.2.2 k.1 g.adds)

    step_paid : (x : Progress S O L) (asked : Asked S O L) → x ≡ progress.Asks asked → steps_to (Ok x) → Fits (config_at at ws) → 1 ≤ at.paid
    step_paid x asked is h f =
        let k = subst (λ y. steps_to (Ok y)) is h in
        let called = k.0 in
        called_paid dialect there at.paid at.state q.state called.0 q.running.spot called.1 f

    step_over : (x : Progress S O L) (c : Completion) → x ≡ progress.Over c → steps_to (Ok x) → Turned dialect On (config_at at ws) (after (Ending (completion_of c)) at.paid)
    step_over x c is h =
        let k = subst (λ y. steps_to (Ok y)) is h in
        let t = on_over dialect there at.paid at.state q.state (completion_of c) k.0 k.1 g.adds in
        record {
          stands = λ r y. record { either = (t.stands r y).either };
          fits = λ f. let y = t.fits f in record { by = y.by };
          less = λ f. t.less f;
          onward = t.onward;
        }

    step_stops : (x : Stop) → steps_to (Err x) → Stops dialect x (config_at at ws) q.state
    step_stops stop.Budget h = absurd h
    step_stops (stop.Exit n) h = on_called_exit dialect there at.paid at.state q.state h.1.0 h.0 h.1.1 n h.1.2 g.spends g.adds
    step_stops stop.Memory h =
        ⊎_elim (λ x. refused dialect (config_at at ws) q.state x g.spends) (λ x. on_called_broken dialect there at.paid at.state q.state x.1.0 x.0 x.1.1 x.1.2 g.spends g.adds) h
    step_stops stop.Io h =
        ⊎_elim (λ x. refused dialect (config_at at ws) q.state x g.spends) (λ x. on_called_broken dialect there at.paid at.state q.state x.1.0 x.0 x.1.1 x.1.2 g.spends g.adds) h

  -- ---- all of them

  module _ {result : Result (Progress S O L) Stop} (h : Strides dialect views result p q) where
    way : Walked dialect before (config_at h.at ws)
    way = walked dialect ws p h.at h.walks

    turned_by : (kind : Kind) (turn : Turn) (left : ℕ → ℕ) → LeavesLess dialect kind before (after turn (left h.at.paid)) → Turned dialect kind (config_at h.at ws) (after turn (left h.at.paid)) → Turned dialect kind before (after turn (left q.paid))
    turned_by kind turn left k t =
        subst (λ n. Turned dialect kind before (after turn (left n))) (sym h.paid) (then_turned dialect kind before (config_at h.at ws) (after turn (left h.at.paid)) k way t)

    steps_as : (r : Result (Progress S O L) Stop) → result ≡ r → Steps dialect views r h.at.running q.running h.at.state q.state
    steps_as r is = subst (λ y. Steps dialect views y h.at.running q.running h.at.state q.state) is h.steps

    code_as : (x : Progress S O L) → result ≡ Ok x → q.running.code ≡ h.at.running.code
    code_as x is = subst (λ y. IfOk y (λ _. q.running.code ≡ h.at.running.code)) is h.code

    pub strides_asks : (x : Progress S O L) (asked : Asked S O L) → result ≡ Ok x → x ≡ progress.Asks asked → Turned dialect Used before (after (Asking (step_of views asked)) (q.paid - 1))
    strides_asks x asked was is = turned_by Used (Asking (step_of views asked)) (λ n. n - 1) tt (step_asks h.at h.onward (code_as x was) x asked is (steps_as (Ok x) was))

    pub strides_paid : (x : Progress S O L) (asked : Asked S O L) → result ≡ Ok x → x ≡ progress.Asks asked → Fits before → 1 ≤ q.paid
    strides_paid x asked was is f = subst (λ n. 1 ≤ n) (sym h.paid) (step_paid h.at h.onward x asked is (steps_as (Ok x) was) (way.fits f))

    pub strides_over : (x : Progress S O L) (c : Completion) → result ≡ Ok x → x ≡ progress.Over c → Turned dialect On before (after (Ending (completion_of c)) q.paid)
    strides_over x c was is = turned_by On (Ending (completion_of c)) (λ n. n) (omega arith) (step_over h.at h.onward x c is (steps_as (Ok x) was))

    pub strides_stop : (x : Stop) → result ≡ Err x → Stops dialect x before q.state
    strides_stop x was = then_stops dialect x before (config_at h.at ws) q way (step_stops h.at h.onward x (steps_as (Err x) was))

  -- ---- with more units

  module _ {result : Result (Progress S O L) Stop} (h : Strides dialect views result p q) where
    -- what ends them, with more units
    strides_more : (x : Progress S O L) → result ≡ Ok x → (b : ℕ) → Steps dialect views (Ok x) h.at.running q.running (more b h.at.state) (more b q.state) → Strides dialect views (Ok x) (plus_at b p) (plus_at b q)
    strides_more x was b k = record {
      at = plus_at b h.at;
      walks = walks_later b dialect p h.at h.walks;
      code = code_as h x was;
      steps = k;
      onward = onward_later b h.at.state q.state h.onward;
      paid = h.paid;
    }

    -- what stands by then
    module _ (b : ℕ) where
      asks_more : (x : Progress S O L) (asked : Asked S O L) → result ≡ Ok x → x ≡ progress.Asks asked → Strides dialect views (Ok (progress.Asks asked)) (plus_at b p) (plus_at b q)
      asks_more x asked was is =
          let k = steps_as h (Ok (progress.Asks asked)) (was ∙ ap Ok is) in
          let f = k.0 in
          strides_more (progress.Asks asked) (was ∙ ap Ok is) b
          ((f.0, calls_later b dialect h.at.running h.at.state h.at.state f.0 q.running.spot f.1, (f.2.0, f.2.1, does_later b (invoked dialect f.0) h.at.state q.state f.2.0 f.2.2)), let u = k.1 in omega arith)

      over_more : (x : Progress S O L) (c : Completion) → result ≡ Ok x → x ≡ progress.Over c → Strides dialect views (Ok (progress.Over c)) (plus_at b p) (plus_at b q)
      over_more x c was is =
          let k = steps_as h (Ok (progress.Over c)) (was ∙ ap Ok is) in
          strides_more (progress.Over c) (was ∙ ap Ok is) b (ends_later b dialect h.at.running h.at.state q.state c k.0, let u = k.1 in omega arith)

module _ {A U S O L : Type 0} (dialect : Dialect) (views : Views A U S O L) (ws : List Waiting) (p q : Position) {result : Result (Progress S O L) Stop} (h : Strides dialect views result p q) where
  pub later_asks : (x : Progress S O L) (asked : Asked S O L) → result ≡ Ok x → x ≡ progress.Asks asked → Later dialect (config_at p ws) (config (Asking (step_of views asked)) (machine_at q.running ws) (q.paid - 1) q.state)
  later_asks x asked was is = record { stands = λ b r y. (strides_asks dialect views ws (plus_at b p) (plus_at b q) (asks_more dialect views ws p q h b x asked was is) (progress.Asks asked) asked refl refl).stands r y }

  pub later_over : (x : Progress S O L) (c : Completion) → result ≡ Ok x → x ≡ progress.Over c → Later dialect (config_at p ws) (config (Ending (completion_of c)) (machine_at q.running ws) q.paid q.state)
  later_over x c was is = record { stands = λ b r y. (strides_over dialect views ws (plus_at b p) (plus_at b q) (over_more dialect views ws p q h b x c was is) (progress.Over c) c refl refl).stands r y }

  -- ---- a unit is wanting

  pub strides_unpaid : (x : Progress S O L) → result ≡ Ok x → x ≡ progress.Unpaid → Rests dialect (config_at p ws) (config_at q ws)
  strides_unpaid x was is = record {
    pauses = record {
      paused = record { agrees = λ r y. broke.agrees r (way.stands r y); onward = onward_then (config_at p ws) (config_at h.at ws) (config_at q ws) way.onward broke.onward };
      later = subst (λ z. Later dialect (config_at p ws) (config_at z ws)) same (record { stands = λ b r y. (walked dialect ws (plus_at b p) (plus_at b h.at) (walks_later b dialect p h.at h.walks)).stands r y });
      spent = ap (λ s. s.units) k.3 ∙ k.1;
    };
    fits = λ f. subst (λ z. Fits (config_at z ws)) same (way.fits f);
  }
    where
      k : Steps dialect views (Ok progress.Unpaid) h.at.running q.running h.at.state q.state
      k = subst (λ y. Steps dialect views y h.at.running q.running h.at.state q.state) (was ∙ ap Ok is) h.steps

      same : h.at ≡ q
      same = ap (λ a. position a h.at.paid h.at.state) (sym k.2) ∙ ap (λ n. position q.running n h.at.state) (sym h.paid) ∙ ap (λ s. position q.running q.paid s) (sym k.3)

      way : Walked dialect (config_at p ws) (config_at h.at ws)
      way = walked dialect ws p h.at h.walks

      broke : Paused dialect (config_at h.at ws) q.state
      broke = on_paused dialect (machine_at h.at.running ws) h.at.paid h.at.state q.state (k.0 ∙ ap (λ s. Ends (Broke (remains s))) (sym k.3)) h.onward.spends h.onward.adds
