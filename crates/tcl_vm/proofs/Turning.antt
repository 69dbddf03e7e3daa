-- Each turn of a machine, seen as a whole.
use Rattle.std.proofs.Common.{◌≡◌, ◌⊎◌, inl, inr, ℕ, ◌+◌, ◌-◌, ◌≤◌, List, Some, refl, sym, ◌∙◌, subst, arith, ⊎_elim}
use Rattle.std.specs.Prelude.{slice_get}
use Rattle.tcl_chars.specs.declared.numbers.Dialect.{Dialect}
use Rattle.tcl_pages.specs.Texts.{Text}
use Rattle.tcl_meaning.specs.Agreement.{Agrees, IsPart}
use Rattle.tcl_meaning.specs.Asking.{value_step, all_answered}
use Rattle.tcl_meaning.specs.Beginnings.{OutputsBegin, channels_of}
use Rattle.tcl_meaning.specs.Completions.{Completion}
use Rattle.tcl_meaning.specs.Effects.{Got, Gives, Broke, Exits, Untold, exec, does}
use Rattle.tcl_meaning.specs.Pages.{owed, invoked}
use Rattle.tcl_meaning.specs.Script.{Run, page_in}
use Rattle.tcl_meaning.specs.State.{State, remains}
use Rattle.tcl_meaning.specs.Tasks.{Step}
use Rattle.tcl_meaning.specs.Value.{Value}
use Rattle.tcl_meaning.proofs.Onward.{outputs_trans}
use Rattle.tcl_meaning.proofs.Runs.{exec_goes}
use Rattle.tcl_code.specs.Instructions.{Spend, Turn as TurnBack}
use Rattle.tcl_code.specs.Machine.{Spot, To, Ends, Calls}
use Rattle.tcl_vm.specs.Fitting.{FitsHere, FitsThen}
use Rattle.tcl_vm.specs.Standing.{here, Machine, Goes, Lands, IsLost, left_of_page}
use Rattle.tcl_vm.specs.Turns.{Turn, Next, Asking, Ending, Config, Stands, StandsBy, Fits, left, On, Used, Less, Turned, Paused, Exited, BrokenOff}
use Rattle.tcl_vm.proofs.Fitting.{MoveFits, here_fits}
use Rattle.tcl_vm.proofs.Forward.{Grows, outputs_same, onward}
use Rattle.tcl_vm.proofs.Returning.{goes_to, goes_ends, goes_calls, goes_grow, lands_grow, returns_grow, returns_broke, stepped, exited, broken, part_of, lost_part}

abbrev pub config : Turn → Machine → ℕ → State → Config
config t m n s = record { turn = t; machine = m; paid = n; state = s }

-- the machine with its code standing elsewhere
abbrev pub moved_to : Machine → Spot → Machine
moved_to m q = record { current = record { code = m.current.code; spot = q }; callers = m.callers }

-- ---- what is lost stays lost

pub lost_later : (s t : State) (r : Got Completion) → OutputsBegin s.channels t.channels → IsLost s r → IsLost t r
lost_later s t r h l = record { channels = l.channels; untold = l.untold; begins = outputs_trans l.begins h }

lost_agrees : (s t : State) (r real : Got Completion) → OutputsBegin s.channels t.channels → channels_of real ≡ t.channels → IsLost s r → Agrees r real
lost_agrees s t r real h e l = subst (λ g. Agrees g real) (sym l.untold) (subst (λ c. OutputsBegin l.channels c) (sym e) (outputs_trans l.begins h))

lost_broken : (dialect : Dialect) (s t : State) (r : Got Completion) → OutputsBegin s.channels t.channels → IsLost s r → IsPart t.channels r
lost_broken dialect s t r h l = lost_part dialect t r (lost_later s t r h l)

agrees_same : (r : Got Completion) → Agrees r r
agrees_same (Gives c s) = refl
agrees_same (Broke x) = refl
agrees_same (Exits n x) = refl
agrees_same (Untold c) = outputs_same c

pub is_same : (r real : Got Completion) → r ≡ real → Agrees r real
is_same r real e = subst (Agrees r) e (agrees_same r)

module _ (dialect : Dialect) where
  -- a turn from what stands to what stands
  pub stands_on : (c d : Config) → OutputsBegin c.state.channels d.state.channels → ((r : Got Completion) → StandsBy dialect c.turn c.machine c.state r → Stands dialect d r) → (r : Got Completion) → Stands dialect c r → Stands dialect d r
  stands_on c d g f r h = ⊎_elim (λ x. f r x) (λ l. record { either = inr (lost_later c.state d.state r g l) }) h.either

  pub agrees_on : (c : Config) (t : State) (real : Got Completion) → OutputsBegin c.state.channels t.channels → channels_of real ≡ t.channels → ((r : Got Completion) → StandsBy dialect c.turn c.machine c.state r → Agrees r real) → (r : Got Completion) → Stands dialect c r → Agrees r real
  agrees_on c t real g e f r h = ⊎_elim (λ x. f r x) (λ l. lost_agrees c.state t r real g e l) h.either

  pub part_on : (c : Config) (t : State) → OutputsBegin c.state.channels t.channels → ((r : Got Completion) → StandsBy dialect c.turn c.machine c.state r → IsPart t.channels r) → (r : Got Completion) → Stands dialect c r → IsPart t.channels r
  part_on c t g f r h = ⊎_elim (λ x. f r x) (λ l. lost_broken dialect c.state t r g l) h.either

  -- ---- memory is refused where nothing was put out since

  stands_grow : (u : Turn) (m : Machine) (s : State) (r : Got Completion) → StandsBy dialect u m s r → OutputsBegin s.channels (channels_of r)
  stands_grow Next m s r h = goes_grow dialect m s r h
  stands_grow (Asking step) m s r h = outputs_trans (page_grow step) (lands_grow dialect m (left_of_page dialect m.current.spot.depth step s) r h)
    where
      page_grow : (step : Step) → Grows s.channels (left_of_page dialect m.current.spot.depth step s)
      page_grow step = (exec_goes (Run dialect) (onward dialect) (all_answered dialect (owed dialect) m.current.spot.depth step) s).adds
  stands_grow (Ending c) m s r h = returns_grow dialect m.callers (Gives c s) r h

  pub refused : (c : Config) (t : State) → t.channels ≡ c.state.channels → t.units ≤ c.state.units → BrokenOff dialect c t
  refused c t e u =
      let g : OutputsBegin c.state.channels t.channels = subst (OutputsBegin c.state.channels) (sym e) (outputs_same c.state.channels) in
      record {
        part = part_on c t g (λ r h. part_of dialect t.channels r (subst (λ x. OutputsBegin x (channels_of r)) (sym e) (stands_grow c.turn c.machine c.state r h)));
        onward = record { spends = u; adds = g };
      }

  -- ---- an instruction

  module _ (m : Machine) (n : ℕ) (s t : State) (q : Spot) (e : here dialect m.current s ≡ To q t) (g : OutputsBegin s.channels t.channels) where
    to_stands : (k : ℕ) (r : Got Completion) → Stands dialect (config Next m n s) r → Stands dialect (config Next (moved_to m q) k t) r
    to_stands k = stands_on (config Next m n s) (config Next (moved_to m q) k t) g (λ r h. record { either = inl (goes_to dialect m s t q r h e) })

    to_fits : (p : ℕ) → FitsHere m.current p → MoveFits (slice_get m.current.code m.current.spot.at) m.current.code (left m.current) p s (To q t)
    to_fits p h = subst (MoveFits (slice_get m.current.code m.current.spot.at) m.current.code (left m.current) p s) e (here_fits dialect m.current p s h)

    pub on_moved : t.units ≡ s.units → Turned dialect On (config Next m n s) (config Next (moved_to m q) n t)
    on_moved u = record {
      stands = to_stands n;
      fits = λ f. (made f).0;
      less = λ f. (made f).1;
      onward = record { spends = omega arith; adds = g };
    }
      where
        made : Fits (config Next m n s) → Fits (config Next (moved_to m q) n t) × Less On (config Next m n s) (config Next (moved_to m q) n t)
        made f =
            let x = to_fits n f.by.0 in
            ⊎_elim
            (λ y. (record { by = (subst (FitsHere (record { code = m.current.code; spot = q })) y.0 x.1, f.by.1) }, (omega arith, omega arith, let z = y.1 in omega arith)))
            (⊎_elim (λ y. absurd (let z = y.3 in omega arith)) (λ y. absurd (let z = y.3 in omega arith)))
            x.2

    pub on_spent : slice_get m.current.code m.current.spot.at ≡ Some Spend → t.units + 1 ≡ s.units → Turned dialect On (config Next m n s) (config Next (moved_to m q) (n + 1) t)
    on_spent i u = record {
      stands = to_stands (n + 1);
      fits = λ f. (made f).0;
      less = λ f. (made f).1;
      onward = record { spends = omega arith; adds = g };
    }
      where
        made : Fits (config Next m n s) → Fits (config Next (moved_to m q) (n + 1) t) × Less On (config Next m n s) (config Next (moved_to m q) (n + 1) t)
        made f =
            let x = to_fits n f.by.0 in
            ⊎_elim
            (λ y. absurd (let z = y.2 in omega arith))
            (⊎_elim
            (λ y. (record { by = (subst (FitsHere (record { code = m.current.code; spot = q })) y.1 x.1, f.by.1) }, (omega arith, omega arith, let z = y.2 in omega arith)))
            (λ y. absurd (let z : Some Spend ≡ Some (TurnBack y.0) = sym i ∙ y.1 in cc)))
            x.2

    pub on_turned : (k : ℕ) → slice_get m.current.code m.current.spot.at ≡ Some (TurnBack k) → t.units + 1 ≡ s.units → Turned dialect Used (config Next m n s) (config Next (moved_to m q) n t)
    on_turned k i u = record {
      stands = to_stands n;
      fits = λ f. made f;
      less = λ f. omega arith;
      onward = record { spends = omega arith; adds = g };
    }
      where
        made : Fits (config Next m n s) → Fits (config Next (moved_to m q) n t)
        made f =
            let x = to_fits n f.by.0 in
            ⊎_elim
            (λ y. absurd (let z = y.2 in omega arith))
            (⊎_elim
            (λ y. absurd (let z : Some (TurnBack k) ≡ Some Spend = sym i ∙ y.0 in cc))
            (λ y. record { by = (subst (FitsHere (record { code = m.current.code; spot = q })) y.2 x.1, f.by.1) }))
            x.2

  -- the code ends
  pub on_over : (m : Machine) (n : ℕ) (s t : State) (c : Completion) → here dialect m.current s ≡ Ends (Gives c t) → t.units ≡ s.units → OutputsBegin s.channels t.channels → Turned dialect On (config Next m n s) (config (Ending c) m n t)
  on_over m n s t c e u g = record {
    stands = stands_on (config Next m n s) (config (Ending c) m n t) g (λ r h. record { either = inl (goes_ends dialect m s (Gives c t) r h e) });
    fits = λ f. record { by = f.by.1 };
    less = λ f. (omega arith, omega arith, omega arith);
    onward = record { spends = omega arith; adds = g };
  }

  pub on_paused : (m : Machine) (n : ℕ) (s t : State) → here dialect m.current s ≡ Ends (Broke (remains t)) → t.units ≤ s.units → OutputsBegin s.channels t.channels → Paused dialect (config Next m n s) t
  on_paused m n s t e u g = record {
    agrees = agrees_on (config Next m n s) t (Broke (remains t)) g refl (λ r h. is_same r (Broke (remains t)) (returns_broke dialect m.callers (remains t) r (goes_ends dialect m s (Broke (remains t)) r h e)));
    onward = record { spends = u; adds = g };
  }

  -- ---- a command is called

  module _ (m : Machine) (n : ℕ) (s t : State) (words : List Text) (q : Spot) (e : here dialect m.current s ≡ Calls words q s) where
    calls_fit : (p : ℕ) → FitsHere m.current p → MoveFits (slice_get m.current.code m.current.spot.at) m.current.code (left m.current) p s (Calls words q s)
    calls_fit p h = subst (MoveFits (slice_get m.current.code m.current.spot.at) m.current.code (left m.current) p s) e (here_fits dialect m.current p s h)

    -- it has been paid for
    pub called_paid : Fits (config Next m n s) → 1 ≤ n
    called_paid f = let x = calls_fit n f.by.0 in let y = x.2 in omega arith

    lands_called : (r : Got Completion) → Goes dialect m s r → Lands dialect (moved_to m q) (exec (Run dialect) (page_in dialect q.depth (invoked dialect words)) s) r
    lands_called r h = goes_calls dialect m s s words q r h e

    pub on_called : (v : Value Step) (step : Step) → value_step v ≡ step → Agrees (does (invoked dialect words) s) (Gives v t) → t.units ≡ s.units → OutputsBegin s.channels t.channels
        → Turned dialect Used (config Next m n s) (config (Asking step) (moved_to m q) (n - 1) t)
    on_called v step k a u g = record {
      stands = stands_on (config Next m n s) (config (Asking step) (moved_to m q) (n - 1) t) g
          (λ r h. record { either = subst (λ x. Lands dialect (moved_to m q) (left_of_page dialect q.depth x t) r ⊎ IsLost t r) k (stepped dialect (moved_to m q) (invoked dialect words) s t v r a (lands_called r h)) });
      fits = λ f.
          let x = calls_fit n f.by.0 in
          let y = x.2 in
          let e : x.0 ≡ n - 1 = omega arith in
          record { by = (subst (FitsThen (record { code = m.current.code; spot = q })) e x.1, f.by.1) };
      less = λ f. let one = called_paid f in omega arith;
      onward = record { spends = omega arith; adds = g };
    }

    pub on_called_exit : (status : ℕ) → Agrees (does (invoked dialect words) s) (Exits status (remains t)) → t.units ≤ s.units → OutputsBegin s.channels t.channels → Exited dialect (config Next m n s) status t
    on_called_exit status a u g = record {
      agrees = agrees_on (config Next m n s) t (Exits status (remains t)) g refl (λ r h. exited dialect (moved_to m q) (invoked dialect words) s t status r a (lands_called r h));
      onward = record { spends = u; adds = g };
    }

    pub on_called_broken : IsPart t.channels (does (invoked dialect words) s) → t.units ≤ s.units → OutputsBegin s.channels t.channels → BrokenOff dialect (config Next m n s) t
    on_called_broken a u g = record {
      part = part_on (config Next m n s) t g (λ r h. broken dialect (moved_to m q) (invoked dialect words) s t.channels r a (lands_called r h));
      onward = record { spends = u; adds = g };
    }
