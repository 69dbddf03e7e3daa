-- Those that wait: how they are called and come back, and what a machine comes to step by step.
use Rattle.std.proofs.Common.{◌≡◌, ◌⊎◌, inl, inr, ℕ, ◌<◌, cond, List, [], ◌∷◌, ◌++◌, refl, sym, ap, ◌∙◌, subst}
use Rattle.std.proofs.lemmas.Bool.{lt-ltb}
use Rattle.tcl_chars.specs.declared.numbers.Dialect.{Dialect}
use Rattle.tcl_pages.specs.Texts.{Text}
use Rattle.tcl_words.specs.First.{first_command, most_levels}
use Rattle.tcl_meaning.specs.Agreement.{Agrees, IsPart}
use Rattle.tcl_meaning.specs.Asking.{Asks, value_step, answered, all_answered, asked}
use Rattle.tcl_meaning.specs.Beginnings.{OutputsBegin, channels_of}
use Rattle.tcl_meaning.specs.Completions.{Completion, too_deep}
use Rattle.tcl_meaning.specs.Control.{turned}
use Rattle.tcl_meaning.specs.Effects.{Scope, Here, At, Within, Got, Gives, Broke, Exits, Untold, on_got, exec, does, plainly, entered, returned, Now, start, paid}
use Rattle.tcl_meaning.specs.Expressions.{expression}
use Rattle.tcl_meaning.specs.Pages.{owed, invoked}
use Rattle.tcl_meaning.specs.Script.{Run, plan, page_in, by_first, most_depth}
use Rattle.tcl_meaning.specs.State.{State, Channels, remains}
use Rattle.tcl_meaning.specs.Substitution.{inside}
use Rattle.tcl_meaning.specs.Tasks.{Script, Turn, Step, Evaluate, Pay, Owes, Loop}
use Rattle.tcl_meaning.specs.Tasks as tasks
use Rattle.tcl_meaning.specs.Value.{Value, completed}
use Rattle.tcl_meaning.proofs.Onward.{outputs_trans}
use Rattle.tcl_meaning.proofs.Runs.{exec_goes, exec_bind, outcome_law}
use Rattle.tcl_meaning.proofs.Rules.{turn_runs}
use Rattle.tcl_meaning.proofs.Plain.{plainly_does}
use Rattle.tcl_meaning.proofs.Questions.{run_answered, expression_answered}
use Rattle.tcl_code.specs.Caught.{lands}
use Rattle.tcl_code.specs.Machine.{Spot, result_at, Move, To, Ends, Calls, Ended, landed, follow, exec_code}
use Rattle.tcl_code.specs.Running.{running}
use Rattle.tcl_code.proofs.Catching.{landed_caught}
use Rattle.tcl_vm.specs.Standing.{Running, here, Undone, Nothing, Back, Gone, undone_of, undo, Waiting, Machine, After, left_of_page, paid_back, Returns, Goes, Lands, IsLost}
use Rattle.tcl_vm.proofs.Forward.{onward, ended_same, outputs_same, comes_then, Then, Grows, grows_on, comes_grows, after_grows}

module _ (dialect : Dialect) where
  -- ---- calls and returns

  pub returns_push : (ws : List Waiting) (w : Waiting) (that mid r : Got Completion) → After dialect w.caller (paid_back dialect w that) mid → Returns dialect ws mid r → Returns dialect (ws ++ w ∷ []) that r
  returns_push [] w that mid r l h = (that, refl, subst (λ x. After dialect w.caller (paid_back dialect w that) x) h l)
  returns_push (v ∷ ws) w that mid r l h = (h.0, returns_push ws w that mid h.0 l h.1, h.2)

  pub record Popped (ws : List Waiting) (w : Waiting) (that r : Got Completion) : Type 0 where
    pub mid : Got Completion
    pub lands : After dialect w.caller (paid_back dialect w that) mid
    pub returns : Returns dialect ws mid r

  pub returns_pop : (ws : List Waiting) (w : Waiting) (that r : Got Completion) → Returns dialect (ws ++ w ∷ []) that r → Popped ws w that r
  returns_pop [] w that r h = record { mid = r; lands = subst (λ x. After dialect w.caller (paid_back dialect w x) r) (sym h.1) h.2; returns = refl }
  returns_pop (v ∷ ws) w that r h = let p = returns_pop ws w that h.0 h.1 in record { mid = p.mid; lands = p.lands; returns = (h.0, p.returns, h.2) }

  -- ---- what stops a run stops all that wait

  after_broke : (a : Running) (x : _) (got : Got Completion) → After dialect a (Broke x) got → got ≡ Broke x
  after_broke a x got l = sym (ended_same _ _ l.ends)

  after_exits : (a : Running) (n : ℕ) (x : _) (got : Got Completion) → After dialect a (Exits n x) got → got ≡ Exits n x
  after_exits a n x got l = sym (ended_same _ _ l.ends)

  pub after_untold : (a : Running) (c : Channels) (got : Got Completion) → After dialect a (Untold c) got → got ≡ Untold c
  after_untold a c got l = sym (ended_same _ _ l.ends)

  pub returns_broke : (ws : List Waiting) (x : _) (r : Got Completion) → Returns dialect ws (Broke x) r → r ≡ Broke x
  returns_broke [] x r h = sym h
  returns_broke (w ∷ ws) x r h = after_broke w.caller x r (subst (λ g. After dialect w.caller (paid_back dialect w g) r) (returns_broke ws x h.0 h.1) h.2)

  pub returns_exits : (ws : List Waiting) (n : ℕ) (x : _) (r : Got Completion) → Returns dialect ws (Exits n x) r → r ≡ Exits n x
  returns_exits [] n x r h = sym h
  returns_exits (w ∷ ws) n x r h = after_exits w.caller n x r (subst (λ g. After dialect w.caller (paid_back dialect w g) r) (returns_exits ws n x h.0 h.1) h.2)

  pub returns_untold : (ws : List Waiting) (c : Channels) (r : Got Completion) → Returns dialect ws (Untold c) r → r ≡ Untold c
  returns_untold [] c r h = sym h
  returns_untold (w ∷ ws) c r h = after_untold w.caller c r (subst (λ g. After dialect w.caller (paid_back dialect w g) r) (returns_untold ws c h.0 h.1) h.2)

  pub lands_broke : (m : Machine) (x : _) (r : Got Completion) → Lands dialect m (Broke x) r → r ≡ Broke x
  lands_broke m x r h = returns_broke m.callers x r (subst (λ g. Returns dialect m.callers g r) (after_broke m.current x h.mid h.lands) h.returns)

  pub lands_exits : (m : Machine) (n : ℕ) (x : _) (r : Got Completion) → Lands dialect m (Exits n x) r → r ≡ Exits n x
  lands_exits m n x r h = returns_exits m.callers n x r (subst (λ g. Returns dialect m.callers g r) (after_exits m.current n x h.mid h.lands) h.returns)

  pub lands_untold : (m : Machine) (c : Channels) (r : Got Completion) → Lands dialect m (Untold c) r → r ≡ Untold c
  lands_untold m c r h = returns_untold m.callers c r (subst (λ g. Returns dialect m.callers g r) (after_untold m.current c h.mid h.lands) h.returns)

  -- ---- outputs

  undo_channels : (u : Undone) (s : State) → (undo u s).channels ≡ s.channels
  undo_channels Nothing s = refl
  undo_channels (Back i) s = refl
  undo_channels (Gone i n) s = refl

  paid_grows : (w : Waiting) (that : Got Completion) → Grows (channels_of that) (paid_back dialect w that)
  paid_grows w (Gives c s) = grows_on (paid_back dialect w (Gives c s)) s.channels (undo w.undone s).channels (undo_channels w.undone s) (exec_goes (Run dialect) (onward dialect) (page_in dialect w.caller.spot.depth (owed dialect w.owes c)) (undo w.undone s)).adds
  paid_grows w (Broke x) = outputs_same x.channels
  paid_grows w (Exits n x) = outputs_same x.channels
  paid_grows w (Untold c) = outputs_same c

  pub returns_grow : (ws : List Waiting) (that r : Got Completion) → Returns dialect ws that r → Grows (channels_of that) r
  returns_grow [] that r h = subst (Grows (channels_of that)) h (outputs_same (channels_of that))
  returns_grow (w ∷ ws) that r h = outputs_trans (returns_grow ws that h.0 h.1) (outputs_trans (paid_grows w h.0) (after_grows dialect w.caller _ r h.2))

  pub goes_grow : (m : Machine) (s : State) (r : Got Completion) → Goes dialect m s r → Grows s.channels r
  goes_grow m s r g = outputs_trans (comes_grows dialect m.current s g.mid g.runs) (returns_grow m.callers g.mid r g.returns)

  pub lands_grow : (m : Machine) (got r : Got Completion) → Lands dialect m got r → Grows (channels_of got) r
  lands_grow m got r h = outputs_trans (after_grows dialect m.current got h.mid h.lands) (returns_grow m.callers h.mid r h.returns)

  -- ---- an instruction

  then_at : (m : Machine) (s : State) (r : Got Completion) (g : Goes dialect m s r) (n : Move) → here dialect m.current s ≡ n → Then dialect m.current.code n g.mid
  then_at m s r g n e = subst (λ x. Then dialect m.current.code x g.mid) e (comes_then dialect m.current s g.mid g.runs)

  pub goes_to : (m : Machine) (s t : State) (p : Spot) (r : Got Completion) → Goes dialect m s r → here dialect m.current s ≡ To p t → Goes dialect (record { current = record { code = m.current.code; spot = p }; callers = m.callers }) t r
  goes_to m s t p r g e = record { mid = g.mid; runs = then_at m s r g _ e; returns = g.returns }

  pub goes_ends : (m : Machine) (s : State) (got r : Got Completion) → Goes dialect m s r → here dialect m.current s ≡ Ends got → Returns dialect m.callers got r
  goes_ends m s got r g e = subst (λ x. Returns dialect m.callers x r) (sym (then_at m s r g _ e)) g.returns

  pub goes_calls : (m : Machine) (s t : State) (words : List Text) (p : Spot) (r : Got Completion) → Goes dialect m s r → here dialect m.current s ≡ Calls words p t
      → Lands dialect (record { current = record { code = m.current.code; spot = p }; callers = m.callers }) (exec (Run dialect) (page_in dialect p.depth (invoked dialect words)) t) r
  goes_calls m s t words p r g e = record { mid = g.mid; lands = then_at m s r g _ e; returns = g.returns }

  -- ---- a page's step

  pub lands_as : (m : Machine) (got real r : Got Completion) → got ≡ real → Lands dialect m got r → Lands dialect m real r
  lands_as m got real r e h = subst (λ x. Lands dialect m x r) e h

  -- where a completion lands the run goes on
  pub landed_follows : (a : Running) (k : ℕ) (c : Completion) (s : State) (m : Move) → lands a c s ≡ m
      → landed (exec_code dialect a.code k) a.spot.stack.loops (result_at a.spot.at a.spot.stack a.spot.depth) (Gives c s) ≡ follow dialect (exec_code dialect a.code k) a.spot.stack.loops m
  landed_follows a k c s m e = landed_caught dialect (exec_code dialect a.code k) a.spot.stack.loops (result_at a.spot.at a.spot.stack a.spot.depth) c s ∙ ap (follow dialect (exec_code dialect a.code k) a.spot.stack.loops) e

  -- it is done, and the code goes on behind the command, or at a loop
  pub done_goes : (m : Machine) (q : Spot) (c : Completion) (s : State) (r : Got Completion) → lands m.current c s ≡ To q s → Lands dialect m (Gives c s) r → Goes dialect (record { current = running m.current.code q; callers = m.callers }) s r
  done_goes m q c s r e h = record {
    mid = h.mid;
    runs = record { steps = h.lands.steps; ends = sym (landed_follows m.current h.lands.steps c s (To q s) e) ∙ h.lands.ends };
    returns = h.returns;
  }

  -- or the code ends
  pub done_ends : (m : Machine) (c e : Completion) (s : State) (r : Got Completion) → lands m.current c s ≡ Ends (Gives e s) → Lands dialect m (Gives c s) r → Returns dialect m.callers (Gives e s) r
  done_ends m c e s r is h =
      let ended : Ended (Gives e s) ≡ Ended h.mid = sym (landed_follows m.current h.lands.steps c s (Ends (Gives e s)) is) ∙ h.lands.ends in
      subst (λ x. Returns dialect m.callers x r) (sym (ended_same _ _ ended)) h.returns

  -- the page that waits goes on
  pub owed_lands : (ws : List Waiting) (w : Waiting) (c : Completion) (s : State) (r : Got Completion) → Returns dialect (ws ++ w ∷ []) (Gives c s) r
      → Lands dialect (record { current = w.caller; callers = ws }) (exec (Run dialect) (page_in dialect w.caller.spot.depth (owed dialect w.owes c)) (undo w.undone s)) r
  owed_lands ws w c s r h = let p = returns_pop ws w (Gives c s) r h in record { mid = p.mid; lands = p.lands; returns = p.returns }

  -- ---- scripts and expressions are begun

  returned_undo : (scope : Scope) (s t : State) → undo (undone_of scope s) t ≡ returned scope s t
  returned_undo Here s t = refl
  returned_undo (At level) s t = refl
  returned_undo (Within vs) s t = refl

  on_got_same : (g : Got Completion) (f h : Completion → State → Got Completion) → ((c : Completion) (t : State) → f c t ≡ h c t) → on_got g f ≡ on_got g h
  on_got_same (Gives c t) f h k = k c t
  on_got_same (Broke x) f h k = refl
  on_got_same (Exits n x) f h k = refl
  on_got_same (Untold c) f h k = refl

  -- a page that runs a script comes to what it comes to when the script has ended
  pub run_is : (m : Machine) (scope : Scope) (t : Text) (o : Owes) (n : ℕ) (s : State)
      → left_of_page dialect m.current.spot.depth (tasks.Run scope t o) s ≡ paid_back dialect (record { owes = o; undone = undone_of scope s; caller = m.current; paid = n }) (Run dialect (inside m.current.spot.depth t) (entered scope s))
  run_is m scope t o n s =
      let d = m.current.spot.depth in
      ap (λ p. exec (Run dialect) p s) (run_answered dialect d scope t o)
      ∙ on_got_same (Run dialect (inside d t) (entered scope s)) _ _ (λ c after. ap (λ u. exec (Run dialect) (page_in dialect d (owed dialect o c)) u) (sym (returned_undo scope s after)))

  pub run_returns : (m : Machine) (scope : Scope) (t : Text) (o : Owes) (n : ℕ) (s : State) (r : Got Completion) → Lands dialect m (left_of_page dialect m.current.spot.depth (tasks.Run scope t o) s) r
      → Returns dialect (m.callers ++ (record { owes = o; undone = undone_of scope s; caller = m.current; paid = n }) ∷ []) (Run dialect (inside m.current.spot.depth t) (entered scope s)) r
  run_returns m scope t o n s r h =
      let w : Waiting = record { owes = o; undone = undone_of scope s; caller = m.current; paid = n } in
      returns_push m.callers w (Run dialect (inside m.current.spot.depth t) (entered scope s)) h.mid r (subst (λ x. After dialect m.current x h.mid) (run_is m scope t o n s) h.lands) h.returns

  -- what an expression comes to, as a completion
  abbrev pub value_of : ℕ → Text → State → Got Completion
  value_of d t s = on_got (exec (Run dialect) (expression dialect d t) s) (λ v after. Gives (completed v) after)

  on_got_completed : (g : Got (Value Text)) (f : Completion → State → Got Completion) → on_got g (λ v after. f (completed v) after) ≡ on_got (on_got g (λ v after. Gives (completed v) after)) f
  on_got_completed (Gives c t) f = refl
  on_got_completed (Broke x) f = refl
  on_got_completed (Exits n x) f = refl
  on_got_completed (Untold c) f = refl

  pub evaluate_returns : (m : Machine) (t : Text) (o : Owes) (n : ℕ) (s : State) (r : Got Completion) → Lands dialect m (left_of_page dialect m.current.spot.depth (Evaluate t o) s) r
      → Returns dialect (m.callers ++ (record { owes = o; undone = Nothing; caller = m.current; paid = n }) ∷ []) (value_of m.current.spot.depth t s) r
  evaluate_returns m t o n s r h =
      let d = m.current.spot.depth in
      let w : Waiting = record { owes = o; undone = Nothing; caller = m.current; paid = n } in
      let same : left_of_page dialect d (Evaluate t o) s ≡ paid_back dialect w (value_of d t s) =
      ap (λ p. exec (Run dialect) p s) (expression_answered dialect d t o)
      ∙ exec_bind (Run dialect) (expression dialect d t) (λ v. page_in dialect d (owed dialect o (completed v))) s
      ∙ on_got_completed (exec (Run dialect) (expression dialect d t) s) (λ c after. exec (Run dialect) (page_in dialect d (owed dialect o c)) after) in
      returns_push m.callers w (value_of d t s) h.mid r (subst (λ x. After dialect m.current x h.mid) same h.lands) h.returns

  -- a script that stands too deep
  pub too_deep_ends : (d : ℕ) (last : Completion) (t : Text) (s : State) → most_depth < d → Run dialect (Script d last t) s ≡ Gives too_deep s
  unfolding plan
  too_deep_ends d last t s h = outcome_law (plan dialect) (Script d last t) s ∙ ap (λ b. start (Run dialect) (cond b (Now too_deep) (by_first dialect d last (first_command most_levels t))) s) (lt-ltb most_depth d h)

  -- a turn is to be paid for
  on_got_id : (g : Got Completion) → on_got g (λ c after. Gives c after) ≡ g
  on_got_id (Gives c t) = refl
  on_got_id (Broke x) = refl
  on_got_id (Exits n x) = refl
  on_got_id (Untold c) = refl

  pub pay_is : (d : ℕ) (loop : Loop) (s : State) → left_of_page dialect d (Pay loop) s ≡ paid (Run dialect) (page_in dialect d (turned loop)) s s.units
  unfolding answered all_answered
  pay_is d loop s = on_got_id (Run dialect (Turn d loop) s) ∙ turn_runs dialect d loop s

  -- ---- what a page has really done

  page_is : (d : ℕ) (page : Asks) (s : State) → exec (Run dialect) (page_in dialect d page) s ≡ on_got (does page s) (λ v t. left_of_page dialect d (value_step v) t)
  unfolding asked
  page_is d page s =
      exec_bind (Run dialect) (plainly page) (λ v. all_answered dialect (owed dialect) d (value_step v)) s
      ∙ ap (λ g. on_got g (λ v t. left_of_page dialect d (value_step v) t)) (plainly_does (Run dialect) page s)

  -- it has come to a step
  stepped_by : (m : Machine) (r : Got Completion) (g : Got (Value Step)) (v : Value Step) (t : State) → Agrees g (Gives v t)
      → Lands dialect m (on_got g (λ w u. left_of_page dialect m.current.spot.depth (value_step w) u)) r
      → Lands dialect m (left_of_page dialect m.current.spot.depth (value_step v) t) r ⊎ IsLost t r
  stepped_by m r (Gives w u) v t e h = inl (subst (λ (x : Got _). Lands dialect m (on_got x (λ w u. left_of_page dialect m.current.spot.depth (value_step w) u)) r) e h)
  stepped_by m r (Broke x) v t e h = absurd cc
  stepped_by m r (Exits n x) v t e h = absurd cc
  stepped_by m r (Untold c) v t e h = inr (record { channels = c; untold = lands_untold m c r h; begins = e })

  pub stepped : (m : Machine) (page : Asks) (s t : State) (v : Value Step) (r : Got Completion) → Agrees (does page s) (Gives v t)
      → Lands dialect m (exec (Run dialect) (page_in dialect m.current.spot.depth page) s) r → Lands dialect m (left_of_page dialect m.current.spot.depth (value_step v) t) r ⊎ IsLost t r
  stepped m page s t v r e h = stepped_by m r (does page s) v t e (lands_as m _ _ r (page_is m.current.spot.depth page s) h)

  -- the run is over
  exited_by : (m : Machine) (r : Got Completion) (g : Got (Value Step)) (n : ℕ) (t : State) → Agrees g (Exits n (remains t))
      → Lands dialect m (on_got g (λ w u. left_of_page dialect m.current.spot.depth (value_step w) u)) r → Agrees r (Exits n (remains t))
  exited_by m r (Gives w u) n t e h = absurd cc
  exited_by m r (Broke x) n t e h = absurd cc
  exited_by m r (Exits k x) n t e h =
      let f : Exits k x ≡ Exits n (remains t) = cc in
      subst (λ g. Agrees g (Exits n (remains t))) (sym (lands_exits m k x r h)) f
  exited_by m r (Untold c) n t e h = subst (λ g. Agrees g (Exits n (remains t))) (sym (lands_untold m c r h)) e

  pub exited : (m : Machine) (page : Asks) (s t : State) (n : ℕ) (r : Got Completion) → Agrees (does page s) (Exits n (remains t))
      → Lands dialect m (exec (Run dialect) (page_in dialect m.current.spot.depth page) s) r → Agrees r (Exits n (remains t))
  exited m page s t n r e h = exited_by m r (does page s) n t e (lands_as m _ _ r (page_is m.current.spot.depth page s) h)

  -- it was broken off
  pub part_of : (c : Channels) (r : Got Completion) → OutputsBegin c (channels_of r) → IsPart c r
  part_of c (Gives a s) h = h
  part_of c (Broke x) h = h
  part_of c (Exits n x) h = h
  part_of c (Untold d) h = inl h

  pub lost_part : (s : State) (r : Got Completion) → IsLost s r → IsPart s.channels r
  lost_part s r l = subst (IsPart s.channels) (sym l.untold) (inr l.begins)

  broken_by : (m : Machine) (r : Got Completion) (g : Got (Value Step)) (c : Channels) → IsPart c g
      → Lands dialect m (on_got g (λ w u. left_of_page dialect m.current.spot.depth (value_step w) u)) r → IsPart c r
  broken_by m r (Gives w u) c e h =
      part_of c r (outputs_trans (outputs_trans e (exec_goes (Run dialect) (onward dialect) (all_answered dialect (owed dialect) m.current.spot.depth (value_step w)) u).adds) (lands_grow m _ r h))
  broken_by m r (Broke x) c e h = part_of c r (outputs_trans e (lands_grow m _ r h))
  broken_by m r (Exits n x) c e h = part_of c r (outputs_trans e (lands_grow m _ r h))
  broken_by m r (Untold d) c e h = subst (IsPart c) (sym (lands_untold m d r h)) e

  pub broken : (m : Machine) (page : Asks) (s : State) (c : Channels) (r : Got Completion) → IsPart c (does page s)
      → Lands dialect m (exec (Run dialect) (page_in dialect m.current.spot.depth page) s) r → IsPart c r
  broken m page s c r e h = broken_by m r (does page s) c e (lands_as m _ _ r (page_is m.current.spot.depth page s) h)
