-- With more units the same is done.
use Rattle.std.proofs.Common.{◌≡◌, ℕ, zero, suc, ◌+◌, true, List, [], ◌∷◌, Option, Some, None, Result, Ok, Err, refl, sym, ap, subst, arith, ⊎_elim, inl, inr, drop}
use Rattle.std.specs.Prelude.{nat_lt}
use Rattle.tcl_chars.specs.declared.numbers.Dialect.{Dialect}
use Rattle.tcl_chars.specs.Messages.{truth_value}
use Rattle.tcl_pages.specs.Answers.{Answer}
use Rattle.tcl_pages.specs.Texts.{Text}
use Rattle.tcl_list.specs.Elements.{elements_of}
use Rattle.tcl_meaning.specs.declared.refusal.Refusal.{Refusal}
use Rattle.tcl_meaning.specs.Agreement.{Agrees}
use Rattle.tcl_meaning.specs.Beginnings.{more, Longer}
use Rattle.tcl_meaning.specs.declared.code.Code.{Code}
use Rattle.tcl_meaning.specs.declared.code.Code.TheVariants as how
use Rattle.tcl_meaning.specs.Asking.{Asks, value_step}
use Rattle.tcl_meaning.specs.Completions.{Completion, code_now}
use Rattle.tcl_meaning.specs.Effects.{Scope, Here, At, Within, Plain, Give, Look, Make, Link, Write, Take, HasEnded, Exit, Call, Got, Gives, Broke, Exits, Untold, made, linked, wrote, take_from, entered, nothing_runs, exec, does}
use Rattle.tcl_meaning.specs.Input.{Want}
use Rattle.tcl_meaning.specs.Links.{link}
use Rattle.tcl_meaning.specs.Operators.{Operator, lazy, eager, operator, truth_answer, unary_answer, power_answer, function_answer, final_answer}
use Rattle.tcl_meaning.specs.Pages.{invoked}
use Rattle.tcl_meaning.specs.Script.{most_depth}
use Rattle.tcl_meaning.specs.State.{State, with_units}
use Rattle.tcl_meaning.specs.Substitution.{spelled_element}
use Rattle.tcl_meaning.specs.Tasks.{Step, Done, Run, Evaluate, Pay}
use Rattle.tcl_meaning.specs.Value.{Value}
use Rattle.tcl_meaning.specs.VariablePages.{set_page, update_page}
use Rattle.tcl_meaning.specs.Variables.{get}
use Rattle.tcl_pages.specs.declared.pages.UpdatePage.TheVariants as update
use Rattle.tcl_code.specs.Caught.{caught, caught_by}
use Rattle.tcl_code.specs.Dealing.{dealt_of}
use Rattle.tcl_code.specs.Instructions.{Instruction, Push, Read, ReadElement, Duplicate, Join, Spend, Enter, Leave, Call as CallWords, Gather, Add, AddAll, CallGathered, Deal, TakeFirst, SkipEmpty, DropList, Listed, Raise, Guard, Under, Write as WriteName, Bump, Become, Body, Again, Collect, Return, Break, Continue, Skip, SkipWhen, Turn, Unary, Binary, Power, Apply, Truth, Final, Answer as AnswerTop}
use Rattle.tcl_code.specs.Machine.{Loop, Texts, Taken, taken, on_taken, on_read, on_answer, on_operator, on_code, on_step, on_page, spend, Spot, Move, To, Fails, Ends, Calls, Wrong, move}
use Rattle.std.specs.Prelude.{slice_get}
use Rattle.tcl_vm.specs.Engines.{Views, Answers, Position, IsFree, PaysHere, TurnsHere, MovesOn, CallsOn, LeadsOn, WalksIn, Walks, Spent}
use Rattle.tcl_vm.specs.Standing.{Running, here, Undone, Nothing, Back, Gone, undone_of, undo}
use Rattle.tcl_vm.specs.Turns.{Onward}
use Rattle.tcl_vm.proofs.Forward.{raw}
use Rattle.tcl_vm.proofs.Landing.{both_cond, both_caught}
use Rattle.tcl_steps.specs.declared.step.Step.{Step as Asked}

-- the same position with b more units
abbrev pub plus_at : ℕ → Position → Position
plus_at b p = record p { state = more b p.state }

module _ (b : ℕ) where
  -- ---- a page

  take_longer : {A : Type 0} (want : Want) (i : Option Text) (s : State) (f g : Text → State → Got A) → ((t : Text) (u : State) → Longer b (f t u) (g t (more b u))) → Longer b (take_from want i s f) (take_from want i (more b s) g)
  take_longer want None s f g k = refl
  take_longer want (Some cs) s f g k = k _ _

  does_longer : {A : Type 0} (p : Plain A) (s : State) → Longer b (does p s) (does p (more b s))
  does_longer (Give a) s = refl
  does_longer (Look q) s = does_longer (q s.store) s
  does_longer (Make ch p) s = does_longer p (made ch s)
  does_longer (Link level other local q) s = does_longer (q (link s.store level other local).0) (linked level other local s)
  does_longer (Write o t p) s = does_longer p (wrote o t s)
  does_longer (Take want q) s = take_longer want s.channels.input s (λ t after. exec nothing_runs (q t) after) (λ t after. exec nothing_runs (q t) after) (λ t u. does_longer (q t) u)
  does_longer (HasEnded q) s = does_longer (q s.channels.met_end) s
  does_longer (Exit m) s = refl
  does_longer (Call scope task q) s = absurd task

  abbrev later_got : {A : Type 0} → Got A → Got A
  later_got (Gives a s) = Gives a (more b s)
  later_got (Broke r) = Broke r
  later_got (Exits n r) = Exits n r
  later_got (Untold c) = Untold c

  agrees_longer : {A : Type 0} (g h : Got A) (v : A) (t : State) → Longer b g h → Agrees g (Gives v t) → Agrees h (Gives v (more b t))
  agrees_longer (Gives a u) h v t l e = subst (λ x. Agrees x (Gives v (more b t))) (sym l) (ap later_got e)
  agrees_longer (Broke x) h v t l e = absurd cc
  agrees_longer (Exits n x) h v t l e = absurd cc
  agrees_longer (Untold c) h v t l e = subst (λ x. Agrees x (Gives v (more b t))) (sym l) e

  pub does_later : {A : Type 0} (p : Plain A) (s t : State) (v : A) → Agrees (does p s) (Gives v t) → Agrees (does p (more b s)) (Gives v (more b t))
  does_later p s t v e = agrees_longer (does p s) (does p (more b s)) v t (does_longer p s) e

  -- ---- one instruction

  -- what it leads to with more units; where a unit is wanting, that is another thing
  abbrev MovesSo : Move → Move → Type 0
  MovesSo (To p s) n = n ≡ To p (more b s)
  MovesSo (Fails c s) n = n ≡ Fails c (more b s)
  MovesSo (Ends (Gives c s)) n = n ≡ Ends (Gives c (more b s))
  MovesSo (Ends (Broke r)) n = Unit {0}
  MovesSo (Ends (Exits k r)) n = Unit {0}
  MovesSo (Ends (Untold c)) n = Unit {0}
  MovesSo (Calls ws p s) n = n ≡ Calls ws p (more b s)
  MovesSo Wrong n = n ≡ Wrong

  module _ (dialect : Dialect) (s : State) where
    so_read : (name : Text) (r : Result Text Refusal) (to : Text → Spot) → MovesSo (on_read name r to s) (on_read name r to (more b s))
    so_read name (Ok t) to = refl
    so_read name (Err refusal) to = refl

    so_answer : {A : Type 0} (r : Answer A) (to : A → Spot) → MovesSo (on_answer r to s) (on_answer r to (more b s))
    so_answer (Ok a) to = refl
    so_answer (Err message) to = refl

    so_operator : (o : Operator) (x y : Text) (to : Text → Spot) → MovesSo (on_operator o x y to s) (on_operator o x y to (more b s))
    so_operator (lazy decided) x y to = refl
    so_operator (eager answer) x y to = so_answer (answer x y) to

    so_taken : (t : Taken) (f g : Texts → Texts → Move) → ((us below : Texts) → MovesSo (f us below) (g us below)) → MovesSo (on_taken t f) (on_taken t g)
    so_taken None f g k = refl
    so_taken (Some x) f g k = k x.0 x.1

    so_spend : (u v : ℕ) (p : Spot) → v ≡ u + b → MovesSo (spend u p s) (spend v p (more b s))
    so_spend zero v p e = tt
    so_spend (suc u) zero p e = absurd (omega arith)
    so_spend (suc u) (suc v) p e = let q : v ≡ u + b = omega arith in ap (λ k. To p (with_units k s)) q

    so_code : (k : Code) (c : Completion) (to : Completion → Spot) (u : State) → MovesSo (on_code k c to u) (on_code k c to (more b u))
    so_code how.Ok c to u = refl
    so_code how.Error c to u = refl
    so_code how.Return c to u = refl
    so_code how.Break c to u = refl
    so_code how.Continue c to u = refl
    so_code (how.Other z) c to u = refl

    so_step : (x : Step) (to : Completion → Spot) (u : State) → MovesSo (on_step x to u) (on_step x to (more b u))
    so_step (Done c) to u = so_code (code_now c) c to u
    so_step (Run scope t o) to u = refl
    so_step (Evaluate t o) to u = refl
    so_step (Pay turns) to u = refl

    so_page : (page : Asks) (to : Completion → Spot) → MovesSo (on_page (does page s) to) (on_page (does page (more b s)) to)
    so_page page to = by_got (does page s) (does page (more b s)) (does_longer page s)
      where
        by_got : (g h : Got (Value Step)) → Longer b g h → MovesSo (on_page g to) (on_page h to)
        by_got (Gives v u) h e = subst (λ (x : Got _). MovesSo (on_step (value_step v) to u) (on_page x to)) (sym e) (so_step (value_step v) to u)
        by_got (Broke r) h e = tt
        by_got (Exits n r) h e = tt
        by_got (Untold c) h e = tt

    so_end : (os : List Loop) (ts : Texts) (ls : List Texts) (rs : List Completion) (at d : ℕ) → MovesSo (move dialect None at ts ls rs os d s) (move dialect None at ts ls rs os d (more b s))
    so_end [] [] [] [] at d = refl
    so_end [] [] [] (r ∷ []) at d = refl
    so_end [] [] [] (r ∷ q ∷ rs) at d = refl
    so_end [] [] (l ∷ ls) rs at d = refl
    so_end [] (t ∷ ts) ls rs at d = refl
    so_end (o ∷ os) [] [] [] at d = refl
    so_end (o ∷ os) [] [] (r ∷ []) at d = refl
    so_end (o ∷ os) [] [] (r ∷ q ∷ rs) at d = refl
    so_end (o ∷ os) [] (l ∷ ls) rs at d = refl
    so_end (o ∷ os) (t ∷ ts) ls rs at d = refl

    so_again : (os : List Loop) (ts : Texts) (ls : List Texts) (rs : List Completion) (at d : ℕ) → MovesSo (move dialect (Some Again) at ts ls rs os d s) (move dialect (Some Again) at ts ls rs os d (more b s))
    so_again os (t ∷ ts) ls rs at d = refl
    so_again os [] (l ∷ ls) rs at d = refl
    so_again os [] [] [] at d = refl
    so_again os [] [] (r ∷ q ∷ rs) at d = refl
    so_again [] [] [] (r ∷ []) at d = refl
    so_again (o ∷ os) [] [] (r ∷ []) at d = refl

    so_collect : (os : List Loop) (ts : Texts) (ls : List Texts) (rs : List Completion) (at d : ℕ) → MovesSo (move dialect (Some Collect) at ts ls rs os d s) (move dialect (Some Collect) at ts ls rs os d (more b s))
    so_collect os (t ∷ ts) ls rs at d = refl
    so_collect os [] (l ∷ ls) rs at d = refl
    so_collect os [] [] [] at d = refl
    so_collect os [] [] (r ∷ q ∷ rs) at d = refl
    so_collect [] [] [] (r ∷ []) at d = refl
    so_collect (o ∷ os) [] [] (r ∷ []) at d = refl

    so : (os : List Loop) (i : Option Instruction) (at : ℕ) (ts : Texts) (ls : List Texts) (rs : List Completion) (d : ℕ) → MovesSo (move dialect i at ts ls rs os d s) (move dialect i at ts ls rs os d (more b s))
    so os None at ts ls rs d = so_end os ts ls rs at d
    so os (Some (Push t)) at ts ls rs d = refl
    so os (Some (Read name)) at ts ls rs d = so_read name (get s.store name) _
    so os (Some (ReadElement name)) at [] ls rs d = refl
    so os (Some (ReadElement name)) at (i ∷ ts) ls rs d = so_read (spelled_element name i) (get s.store (spelled_element name i)) _
    so os (Some (Join n)) at ts ls rs d = so_taken (taken n [] ts) _ _ (λ us below. refl)
    so os (Some Spend) at ts ls [] d = refl
    so os (Some Spend) at ts ls (r ∷ rs) d = so_spend s.units (s.units + b) _ refl
    so os (Some Enter) at ts ls rs d = both_cond MovesSo (nat_lt most_depth (suc d)) _ _ _ _ refl refl
    so os (Some Leave) at ts ls [] d = refl
    so os (Some Leave) at ts ls (r ∷ rs) zero = refl
    so os (Some Leave) at ts ls (r ∷ rs) (suc d) = refl
    so os (Some (CallWords n)) at ts ls [] d = refl
    so os (Some (CallWords n)) at ts ls (r ∷ rs) d = so_taken (taken n [] ts) _ _ (λ us below. refl)
    so os (Some Gather) at ts ls rs d = refl
    so os (Some Add) at [] ls rs d = refl
    so os (Some Add) at (t ∷ ts) [] rs d = refl
    so os (Some Add) at (t ∷ ts) (l ∷ ls) rs d = refl
    so os (Some AddAll) at [] ls rs d = refl
    so os (Some AddAll) at (t ∷ ts) [] rs d = refl
    so os (Some AddAll) at (t ∷ ts) (l ∷ ls) rs d = so_answer (elements_of t) _
    so os (Some CallGathered) at ts [] rs d = refl
    so os (Some CallGathered) at ts (l ∷ ls) [] d = refl
    so os (Some CallGathered) at ts (l ∷ ls) (r ∷ rs) d = refl
    so os (Some (Deal n)) at ts ls rs d = so_taken (taken n [] ts) _ _ (λ us below. so_answer (dealt_of (drop 1 us)) _)
    so os (Some TakeFirst) at ts [] rs d = refl
    so os (Some TakeFirst) at ts ([] ∷ ls) rs d = refl
    so os (Some TakeFirst) at ts ((w ∷ ws) ∷ ls) rs d = refl
    so os (Some (SkipEmpty n)) at ts [] rs d = refl
    so os (Some (SkipEmpty n)) at ts ([] ∷ ls) rs d = refl
    so os (Some (SkipEmpty n)) at ts ((w ∷ ws) ∷ ls) rs d = refl
    so os (Some DropList) at ts [] rs d = refl
    so os (Some DropList) at ts (l ∷ ls) rs d = refl
    so os (Some Listed) at ts [] rs d = refl
    so os (Some Listed) at ts (l ∷ ls) rs d = refl
    so os (Some (Raise message)) at ts ls rs d = refl
    so os (Some (Guard p n)) at ts ls rs d = refl
    so os (Some Duplicate) at [] ls rs d = refl
    so os (Some Duplicate) at (u ∷ ts) ls rs d = refl
    so os (Some (Under t)) at [] ls rs d = refl
    so os (Some (Under t)) at (u ∷ ts) ls rs d = refl
    so os (Some (WriteName name)) at [] ls rs d = refl
    so os (Some (WriteName name)) at (t ∷ ts) ls [] d = refl
    so os (Some (WriteName name)) at (t ∷ ts) ls (r ∷ rs) d = so_page (set_page (name ∷ t ∷ [])) _
    so os (Some (Bump name)) at [] ls rs d = refl
    so os (Some (Bump name)) at (t ∷ ts) ls [] d = refl
    so os (Some (Bump name)) at (t ∷ ts) ls (r ∷ rs) d = so_page (update_page dialect update.Incr (name ∷ t ∷ [])) _
    so os (Some Become) at ts ls [] d = refl
    so os (Some Become) at ts ls (r ∷ []) d = refl
    so os (Some Become) at ts ls (r ∷ below ∷ rs) zero = refl
    so os (Some Become) at ts ls (r ∷ below ∷ rs) (suc d) = refl
    so os (Some (Body x n)) at ts ls rs d = both_cond MovesSo (nat_lt most_depth (suc d)) _ _ _ _ refl refl
    so os (Some Again) at ts ls rs d = so_again os ts ls rs at d
    so os (Some Collect) at ts ls rs d = so_collect os ts ls rs at d
    so os (Some Return) at [] ls rs d = refl
    so os (Some Return) at (t ∷ ts) ls rs d = refl
    so os (Some Break) at ts ls rs d = refl
    so os (Some Continue) at ts ls rs d = refl
    so os (Some (Skip n)) at ts ls rs d = refl
    so os (Some (SkipWhen x n)) at [] ls rs d = refl
    so os (Some (SkipWhen x n)) at (t ∷ ts) ls rs d = so_answer (truth_value dialect t) _
    so os (Some (Turn n)) at ts ls rs d = so_spend s.units (s.units + b) _ refl
    so os (Some (Unary u)) at [] ls rs d = refl
    so os (Some (Unary u)) at (t ∷ ts) ls rs d = so_answer (unary_answer dialect u t) _
    so os (Some (Binary o)) at [] ls rs d = refl
    so os (Some (Binary o)) at (x ∷ []) ls rs d = refl
    so os (Some (Binary o)) at (x ∷ y ∷ ts) ls rs d = so_operator (operator dialect o) y x _
    so os (Some Power) at [] ls rs d = refl
    so os (Some Power) at (x ∷ []) ls rs d = refl
    so os (Some Power) at (x ∷ y ∷ ts) ls rs d = so_answer (power_answer dialect y x) _
    so os (Some (Apply f n)) at ts ls rs d = so_taken (taken n [] ts) _ _ (λ us below. so_answer (function_answer dialect f us) _)
    so os (Some Truth) at [] ls rs d = refl
    so os (Some Truth) at (t ∷ ts) ls rs d = so_answer (truth_answer dialect t) _
    so os (Some Final) at [] ls rs d = refl
    so os (Some Final) at (t ∷ ts) ls rs d = so_answer (final_answer dialect t) _
    so os (Some AnswerTop) at [] ls rs d = refl
    so os (Some AnswerTop) at (t ∷ ts) ls [] d = refl
    so os (Some AnswerTop) at (t ∷ ts) ls (r ∷ rs) d = refl

  -- and where completions are caught
  so_caught : (os : List Loop) (m n : Move) → MovesSo m n → MovesSo (caught os m) (caught os n)
  so_caught os (To p s) n e = ap (caught os) e
  so_caught os (Fails c s) n e = subst (λ x. MovesSo (caught_by (code_now c) os c s) (caught os x)) (sym e) (both_caught MovesSo os (code_now c) c s (more b s) (λ k o inner rest le is. refl) refl)
  so_caught os (Ends (Gives c s)) n e = ap (caught os) e
  so_caught os (Ends (Broke r)) n e = tt
  so_caught os (Ends (Exits k r)) n e = tt
  so_caught os (Ends (Untold c)) n e = tt
  so_caught os (Calls ws p s) n e = ap (caught os) e
  so_caught os Wrong n e = ap (caught os) e

  here_so : (dialect : Dialect) (a : Running) (s : State) (m : Move) → here dialect a s ≡ m → MovesSo m (here dialect a (more b s))
  here_so dialect a s m e =
      subst (λ x. MovesSo x (here dialect a (more b s))) e
      (so_caught a.spot.stack.loops (raw dialect a s) (raw dialect a (more b s)) (so dialect s a.spot.stack.loops (slice_get a.code a.spot.at) a.spot.at a.spot.stack.texts a.spot.stack.lists a.spot.stack.results a.spot.depth))

  to_later : (dialect : Dialect) (a : Running) (s t : State) (p : Spot) → here dialect a s ≡ To p t → here dialect a (more b s) ≡ To p (more b t)
  to_later dialect a s t p e = here_so dialect a s (To p t) e

  pub calls_later : (dialect : Dialect) (a : Running) (s t : State) (ws : List Text) (p : Spot) → here dialect a s ≡ Calls ws p t → here dialect a (more b s) ≡ Calls ws p (more b t)
  calls_later dialect a s t ws p e = here_so dialect a s (Calls ws p t) e

  pub ends_later : (dialect : Dialect) (a : Running) (s t : State) (c : Completion) → here dialect a s ≡ Ends (Gives c t) → here dialect a (more b s) ≡ Ends (Gives c (more b t))
  ends_later dialect a s t c e = here_so dialect a s (Ends (Gives c t)) e

  pub onward_later : (s t : State) → Onward s t → Onward (more b s) (more b t)
  onward_later s t h = record { spends = let u = h.spends in omega arith; adds = h.adds }

  -- ---- frames

  pub entered_later : (scope : Scope) (s : State) → entered scope (more b s) ≡ more b (entered scope s)
  entered_later Here s = refl
  entered_later (At level) s = refl
  entered_later (Within vs) s = refl

  pub undone_later : (scope : Scope) (s : State) → undone_of scope (more b s) ≡ undone_of scope s
  undone_later Here s = refl
  undone_later (At level) s = refl
  undone_later (Within vs) s = refl

  pub undo_later : (u : Undone) (s : State) → undo u (more b s) ≡ more b (undo u s)
  undo_later Nothing s = refl
  undo_later (Back i) s = refl
  undo_later (Gone i n) s = refl

  pub spent_later : (s t : State) → Spent true s t → Spent true (more b s) (more b t)
  spent_later s t h = (h.0 + b, let e = h.1 in omega arith, ap (more b) h.2)

  -- ---- instructions, one after another

  module _ (dialect : Dialect) where
    moves_later : (p q : Position) → MovesOn dialect p q → MovesOn dialect (plus_at b p) (plus_at b q)
    moves_later p q h = record {
      code = h.code;
      leads = to_later dialect p.running p.state q.state q.running.spot h.leads;
      channels = h.channels;
      frames = record { count = h.frames.count };
      pays = ⊎_elim (λ f. inl (free f)) (⊎_elim (λ f. inr (inl (pays f))) (λ f. inr (inr (turns f)))) h.pays;
    }
      where
        free : IsFree p q → IsFree (plus_at b p) (plus_at b q)
        free f = record { units = let u = f.units in omega arith; paid = f.paid }

        pays : PaysHere p q → PaysHere (plus_at b p) (plus_at b q)
        pays f = record { spends = f.spends; units = let u = f.units in omega arith; paid = f.paid }

        turns : TurnsHere p q → TurnsHere (plus_at b p) (plus_at b q)
        turns f = record { over = f.over; turns = f.turns; units = let u = f.units in omega arith; paid = f.paid }

    called_later : (p q : Position) → CallsOn dialect p q → CallsOn dialect (plus_at b p) (plus_at b q)
    called_later p q h = record {
      words = h.words;
      spot = h.spot;
      completion = h.completion;
      calls = calls_later dialect p.running p.state p.state h.words h.spot h.calls;
      done = (h.done.0, h.done.1, does_later (invoked dialect h.words) p.state q.state h.done.0 h.done.2);
      is_ok = h.is_ok;
      running = h.running;
      units = let u = h.units in omega arith;
      onward = onward_later p.state q.state h.onward;
      frames = record { count = h.frames.count };
      paid = h.paid;
    }

    leads_later : (p q : Position) → LeadsOn dialect p q → LeadsOn dialect (plus_at b p) (plus_at b q)
    leads_later p q h = ⊎_elim (λ m. inl (moves_later p q m)) (λ c. inr (called_later p q c)) h

    walks_in_later : (n : ℕ) (p q : Position) → WalksIn dialect n p q → WalksIn dialect n (plus_at b p) (plus_at b q)
    walks_in_later zero p q e = ap (plus_at b) e
    walks_in_later (suc n) p q h = (plus_at b h.0, walks_in_later n p h.0 h.1, leads_later h.0 q h.2)

    pub walks_later : (p q : Position) → Walks dialect p q → Walks dialect (plus_at b p) (plus_at b q)
    walks_later p q h = record { count = h.count; walks = walks_in_later h.count p q h.walks }

  pub answers_later : {A U S O L : Type 0} (views : Views A U S O L) (p : Plain _) (s t : State) (a : Asked S O L) → Answers views (does p s) (Ok a) t → Answers views (does p (more b s)) (Ok a) (more b t)
  answers_later views p s t a h = (h.0, h.1, does_later p s t h.0 h.2)
