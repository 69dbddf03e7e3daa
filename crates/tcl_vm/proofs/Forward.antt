-- From one instruction to the next.
use Rattle.std.proofs.Common.{◌≡◌, ℕ, zero, suc, cond, Bool, true, false, List, [], ◌∷◌, Option, Some, None, Result, Ok, Err, refl, sym, ap, ◌∙◌, subst, drop}
use Rattle.std.specs.Prelude.{slice_get, nat_lt}
use Rattle.std.proofs.lemmas.Bool.{cond_both}
use Rattle.tcl_chars.specs.declared.numbers.Dialect.{Dialect}
use Rattle.tcl_chars.specs.Messages.{truth_value}
use Rattle.tcl_pages.specs.Answers.{Answer}
use Rattle.tcl_meaning.specs.Operators.{Operator, lazy, eager, operator, truth_answer, unary_answer, power_answer, function_answer, final_answer}
use Rattle.tcl_pages.specs.Texts.{Text}
use Rattle.tcl_list.specs.Elements.{elements_of}
use Rattle.tcl_meaning.specs.declared.code.Code.{Code}
use Rattle.tcl_meaning.specs.declared.code.Code.TheVariants as how
use Rattle.tcl_meaning.specs.declared.refusal.Refusal.{Refusal}
use Rattle.tcl_meaning.specs.Beginnings.{OutputsBegin, channels_of}
use Rattle.tcl_meaning.specs.Completions.{Completion, code_now}
use Rattle.tcl_meaning.specs.Asking.{Asks, value_step}
use Rattle.tcl_meaning.specs.Effects.{Got, Gives, Broke, Exits, Untold, exec, does}
use Rattle.tcl_meaning.specs.Script.{Run, plan, page_in, most_depth}
use Rattle.tcl_meaning.specs.Pages.{invoked}
use Rattle.tcl_meaning.specs.State.{State, Channels}
use Rattle.tcl_meaning.specs.Substitution.{spelled_element}
use Rattle.tcl_meaning.specs.Tasks.{Step, Done, Run as RunScript, Evaluate, Pay}
use Rattle.tcl_meaning.specs.Value.{Value}
use Rattle.tcl_meaning.specs.VariablePages.{set_page, update_page}
use Rattle.tcl_meaning.specs.Variables.{get}
use Rattle.tcl_pages.specs.declared.pages.UpdatePage.TheVariants as update
use Rattle.tcl_meaning.proofs.Onward.{onward_same, outputs_trans}
use Rattle.tcl_meaning.proofs.Runs.{IsOnward, exec_goes, outcome_goes}
use Rattle.tcl_code.specs.Dealing.{dealt_of}
use Rattle.tcl_code.specs.Instructions.{Instruction, Push, Read, ReadElement, Duplicate, Join, Spend, Enter, Leave, Call, Gather, Add, AddAll, CallGathered, Deal, TakeFirst, SkipEmpty, DropList, Listed, Raise, Guard, Under, Write, Bump, Become, Body, Again, Collect, Return, Break, Continue, Skip, SkipWhen, Turn, Unary, Binary, Power, Apply, Truth, Final, Answer as AnswerTop}
use Rattle.tcl_code.specs.Caught.{caught}
use Rattle.tcl_code.specs.Machine.{Loop, Texts, Taken, taken, on_taken, on_read, on_answer, on_operator, on_code, on_step, on_page, spend, Spot, result_at, Move, To, Fails, Ends, Calls, Wrong, move, Ended, Unfinished, Stuck, thrown_by, landed_by, landed, follow, exec_code}
use Rattle.tcl_code.specs.Running.{running}
use Rattle.tcl_code.proofs.Catching.{follow_caught}
use Rattle.tcl_vm.specs.Standing.{Running, here, Comes, After}
use Rattle.tcl_vm.proofs.Landing.{caught_elim}
use Rattle.tcl_vm.proofs.Quiet.{IsDone, IsOver, IsQuiet, GivesQuietly, quiet_does, set_page_quiet, incr_page_quiet}

pub onward : (dialect : Dialect) → IsOnward (Run dialect)
onward dialect = outcome_goes (plan dialect)

pub ended_same : (a b : Got Completion) → Ended a ≡ Ended b → a ≡ b
ended_same a b e = cc

unfinished_ended : (a : Got Completion) → Unfinished ≡ Ended a → ⊥
unfinished_ended a e = cc

stuck_ended : (a : Got Completion) → Stuck ≡ Ended a → ⊥
stuck_ended a e = cc

pub outputs_same : (c : Channels) → OutputsBegin c c
outputs_same c = (onward_same 0 c).adds

-- ---- an instruction leaves channels as they are, and a call leaves the loops

abbrev Keeps : State → List Loop → Move → Type 0
Keeps s os (To p t) = t.channels ≡ s.channels
Keeps s os (Fails c t) = t.channels ≡ s.channels
Keeps s os (Ends g) = channels_of g ≡ s.channels
Keeps s os (Calls words p t) = (t.channels ≡ s.channels) × (p.stack.loops ≡ os)
Keeps s os Wrong = Unit {0}

module _ (dialect : Dialect) (s : State) (os : List Loop) where
  keeps_cond : (b : Bool) (m n : Move) → Keeps s os m → Keeps s os n → Keeps s os (cond b m n)
  keeps_cond true m n h k = h
  keeps_cond false m n h k = k

  keeps_read : (name : Text) (r : Result Text Refusal) (to : Text → Spot) → Keeps s os (on_read name r to s)
  keeps_read name (Ok t) to = refl
  keeps_read name (Err refusal) to = refl

  keeps_answer : {A : Type 0} (r : Answer A) (to : A → Spot) → Keeps s os (on_answer r to s)
  keeps_answer (Ok a) to = refl
  keeps_answer (Err message) to = refl

  keeps_operator : (o : Operator) (a b : Text) (to : Text → Spot) → Keeps s os (on_operator o a b to s)
  keeps_operator (lazy decided) a b to = tt
  keeps_operator (eager answer) a b to = keeps_answer (answer a b) to

  keeps_taken : (t : Taken) (f : Texts → Texts → Move) → ((us below : Texts) → Keeps s os (f us below)) → Keeps s os (on_taken t f)
  keeps_taken None f k = tt
  keeps_taken (Some x) f k = k x.0 x.1

  keeps_spend : (u : ℕ) (p : Spot) → Keeps s os (spend u p s)
  keeps_spend zero p = refl
  keeps_spend (suc u) p = refl

  keeps_page : (page : Asks) (to : Completion → Spot) → IsQuiet page → Keeps s os (on_page (does page s) to)
  keeps_page page to quiet = by_got (does page s) (quiet_does IsOver page s quiet)
    where
      by_code : (k : Code) (c : Completion) (t : State) → t.channels ≡ s.channels → Keeps s os (on_code k c to t)
      by_code how.Ok c t e = e
      by_code how.Error c t e = e
      by_code how.Return c t e = e
      by_code how.Break c t e = e
      by_code how.Continue c t e = e
      by_code (how.Other z) c t e = e

      by_step : (x : Step) (t : State) → IsDone x → t.channels ≡ s.channels → Keeps s os (on_step x to t)
      by_step (Done c) t h e = by_code (code_now c) c t e
      by_step (RunScript scope script owes) t h e = absurd h
      by_step (Evaluate expr owes) t h e = absurd h
      by_step (Pay turns) t h e = absurd h

      by_got : (g : Got (Value Step)) → GivesQuietly IsOver s g → Keeps s os (on_page g to)
      by_got (Gives v t) h = by_step (value_step v) t h.0 h.1
      by_got (Broke r) h = absurd h
      by_got (Exits n r) h = absurd h
      by_got (Untold c) h = absurd h

  pub keeps : (i : Option Instruction) (at : ℕ) (ts : Texts) (ls : List Texts) (rs : List Completion) (d : ℕ) → Keeps s os (move dialect i at ts ls rs os d s)
  keeps None at ts ls rs d = keeps_end os ts ls rs
    where
      keeps_end : (qs : List Loop) (ts : Texts) (ls : List Texts) (rs : List Completion) → Keeps s os (move dialect None at ts ls rs qs d s)
      keeps_end [] [] [] [] = tt
      keeps_end [] [] [] (r ∷ []) = refl
      keeps_end [] [] [] (r ∷ q ∷ rs) = tt
      keeps_end [] [] (l ∷ ls) rs = tt
      keeps_end [] (t ∷ ts) ls rs = tt
      keeps_end (o ∷ qs) [] [] [] = tt
      keeps_end (o ∷ qs) [] [] (r ∷ []) = tt
      keeps_end (o ∷ qs) [] [] (r ∷ q ∷ rs) = tt
      keeps_end (o ∷ qs) [] (l ∷ ls) rs = tt
      keeps_end (o ∷ qs) (t ∷ ts) ls rs = tt
  keeps (Some (Push t)) at ts ls rs d = refl
  keeps (Some (Read name)) at ts ls rs d = keeps_read name (get s.store name) _
  keeps (Some (ReadElement name)) at [] ls rs d = tt
  keeps (Some (ReadElement name)) at (i ∷ ts) ls rs d = keeps_read (spelled_element name i) (get s.store (spelled_element name i)) _
  keeps (Some (Join n)) at ts ls rs d = keeps_taken (taken n [] ts) _ (λ us below. refl)
  keeps (Some Spend) at ts ls [] d = tt
  keeps (Some Spend) at ts ls (r ∷ rs) d = keeps_spend s.units _
  keeps (Some Enter) at ts ls rs d = keeps_cond (nat_lt most_depth (suc d)) _ _ refl refl
  keeps (Some Leave) at ts ls [] d = tt
  keeps (Some Leave) at ts ls (r ∷ rs) zero = tt
  keeps (Some Leave) at ts ls (r ∷ rs) (suc d) = refl
  keeps (Some (Call n)) at ts ls [] d = tt
  keeps (Some (Call n)) at ts ls (r ∷ rs) d = keeps_taken (taken n [] ts) _ (λ us below. (refl, refl))
  keeps (Some Gather) at ts ls rs d = refl
  keeps (Some Add) at [] ls rs d = tt
  keeps (Some Add) at (t ∷ ts) [] rs d = tt
  keeps (Some Add) at (t ∷ ts) (l ∷ ls) rs d = refl
  keeps (Some AddAll) at [] ls rs d = tt
  keeps (Some AddAll) at (t ∷ ts) [] rs d = tt
  keeps (Some AddAll) at (t ∷ ts) (l ∷ ls) rs d = keeps_answer (elements_of t) _
  keeps (Some CallGathered) at ts [] rs d = tt
  keeps (Some CallGathered) at ts (l ∷ ls) [] d = tt
  keeps (Some CallGathered) at ts (l ∷ ls) (r ∷ rs) d = (refl, refl)
  keeps (Some (Deal n)) at ts ls rs d = keeps_taken (taken n [] ts) _ (λ us below. keeps_answer (dealt_of (drop 1 us)) _)
  keeps (Some TakeFirst) at ts [] rs d = tt
  keeps (Some TakeFirst) at ts ([] ∷ ls) rs d = refl
  keeps (Some TakeFirst) at ts ((w ∷ ws) ∷ ls) rs d = refl
  keeps (Some (SkipEmpty n)) at ts [] rs d = tt
  keeps (Some (SkipEmpty n)) at ts ([] ∷ ls) rs d = refl
  keeps (Some (SkipEmpty n)) at ts ((w ∷ ws) ∷ ls) rs d = refl
  keeps (Some DropList) at ts [] rs d = tt
  keeps (Some DropList) at ts (l ∷ ls) rs d = refl
  keeps (Some Listed) at ts [] rs d = tt
  keeps (Some Listed) at ts (l ∷ ls) rs d = refl
  keeps (Some (Raise message)) at ts ls rs d = refl
  keeps (Some (Guard p n)) at ts ls rs d = refl
  keeps (Some Duplicate) at [] ls rs d = tt
  keeps (Some Duplicate) at (u ∷ ts) ls rs d = refl
  keeps (Some (Under t)) at [] ls rs d = tt
  keeps (Some (Under t)) at (u ∷ ts) ls rs d = refl
  keeps (Some (Write name)) at [] ls rs d = tt
  keeps (Some (Write name)) at (t ∷ ts) ls [] d = tt
  keeps (Some (Write name)) at (t ∷ ts) ls (r ∷ rs) d = keeps_page (set_page (name ∷ t ∷ [])) _ (set_page_quiet name t)
  keeps (Some (Bump name)) at [] ls rs d = tt
  keeps (Some (Bump name)) at (t ∷ ts) ls [] d = tt
  keeps (Some (Bump name)) at (t ∷ ts) ls (r ∷ rs) d = keeps_page (update_page dialect update.Incr (name ∷ t ∷ [])) _ (incr_page_quiet dialect (name ∷ t ∷ []))
  keeps (Some Become) at ts ls [] d = tt
  keeps (Some Become) at ts ls (r ∷ []) d = tt
  keeps (Some Become) at ts ls (r ∷ below ∷ rs) zero = tt
  keeps (Some Become) at ts ls (r ∷ below ∷ rs) (suc d) = refl
  keeps (Some (Body b n)) at ts ls rs d = keeps_cond (nat_lt most_depth (suc d)) _ _ refl refl
  keeps (Some Again) at ts ls rs d = keeps_again os ts ls rs
    where
      keeps_again : (qs : List Loop) (ts : Texts) (ls : List Texts) (rs : List Completion) → Keeps s os (move dialect (Some Again) at ts ls rs qs d s)
      keeps_again qs (t ∷ ts) ls rs = tt
      keeps_again qs [] (l ∷ ls) rs = tt
      keeps_again qs [] [] [] = tt
      keeps_again qs [] [] (r ∷ q ∷ rs) = tt
      keeps_again [] [] [] (r ∷ []) = tt
      keeps_again (o ∷ qs) [] [] (r ∷ []) = refl
  keeps (Some Collect) at ts ls rs d = keeps_collect os ts ls rs
    where
      keeps_collect : (qs : List Loop) (ts : Texts) (ls : List Texts) (rs : List Completion) → Keeps s os (move dialect (Some Collect) at ts ls rs qs d s)
      keeps_collect qs (t ∷ ts) ls rs = tt
      keeps_collect qs [] (l ∷ ls) rs = tt
      keeps_collect qs [] [] [] = tt
      keeps_collect qs [] [] (r ∷ q ∷ rs) = tt
      keeps_collect [] [] [] (r ∷ []) = tt
      keeps_collect (o ∷ qs) [] [] (r ∷ []) = refl
  keeps (Some Return) at [] ls rs d = tt
  keeps (Some Return) at (t ∷ ts) ls rs d = refl
  keeps (Some Break) at ts ls rs d = refl
  keeps (Some Continue) at ts ls rs d = refl
  keeps (Some (Skip n)) at ts ls rs d = refl
  keeps (Some (SkipWhen b n)) at [] ls rs d = tt
  keeps (Some (SkipWhen b n)) at (t ∷ ts) ls rs d = keeps_answer (truth_value dialect t) _
  keeps (Some (Turn n)) at ts ls rs d = keeps_spend s.units _
  keeps (Some (Unary u)) at [] ls rs d = tt
  keeps (Some (Unary u)) at (t ∷ ts) ls rs d = keeps_answer (unary_answer dialect u t) _
  keeps (Some (Binary o)) at [] ls rs d = tt
  keeps (Some (Binary o)) at (b ∷ []) ls rs d = tt
  keeps (Some (Binary o)) at (b ∷ a ∷ ts) ls rs d = keeps_operator (operator dialect o) a b _
  keeps (Some Power) at [] ls rs d = tt
  keeps (Some Power) at (b ∷ []) ls rs d = tt
  keeps (Some Power) at (b ∷ a ∷ ts) ls rs d = keeps_answer (power_answer dialect a b) _
  keeps (Some (Apply f n)) at ts ls rs d = keeps_taken (taken n [] ts) _ (λ us below. keeps_answer (function_answer dialect f us) _)
  keeps (Some Truth) at [] ls rs d = tt
  keeps (Some Truth) at (t ∷ ts) ls rs d = keeps_answer (truth_answer dialect t) _
  keeps (Some Final) at [] ls rs d = tt
  keeps (Some Final) at (t ∷ ts) ls rs d = keeps_answer (final_answer dialect t) _
  keeps (Some AnswerTop) at [] ls rs d = tt
  keeps (Some AnswerTop) at (t ∷ ts) ls [] d = tt
  keeps (Some AnswerTop) at (t ∷ ts) ls (r ∷ rs) d = refl

-- ---- one instruction

-- what the instruction does, before a completion is caught
abbrev pub raw : Dialect → Running → State → Move
raw dialect a s = move dialect (slice_get a.code a.spot.at) a.spot.at a.spot.stack.texts a.spot.stack.lists a.spot.stack.results a.spot.stack.loops a.spot.depth s

-- a move of a code with these loops, in which completions are caught
abbrev pub IsCaught : List Loop → Move → Type 0
IsCaught os (To p t) = Unit {0}
IsCaught os (Fails c t) = ⊥
IsCaught os (Ends g) = Unit {0}
IsCaught os (Calls words p t) = p.stack.loops ≡ os
IsCaught os Wrong = Unit {0}

is_caught : (s : State) (os : List Loop) (m : Move) → Keeps s os m → IsCaught os (caught os m)
is_caught s os (To p t) h = tt
is_caught s os (Fails c t) h = caught_elim (IsCaught os) os c t (λ n o inner rest le e. tt {0}) tt (code_now c)
is_caught s os (Ends g) h = tt
is_caught s os (Calls words p t) h = h.1
is_caught s os Wrong h = tt

raw_keeps : (dialect : Dialect) (a : Running) (s : State) → Keeps s a.spot.stack.loops (raw dialect a s)
raw_keeps dialect a s = keeps dialect s a.spot.stack.loops (slice_get a.code a.spot.at) a.spot.at a.spot.stack.texts a.spot.stack.lists a.spot.stack.results a.spot.depth

pub here_caught : (dialect : Dialect) (a : Running) (s : State) → IsCaught a.spot.stack.loops (here dialect a s)
here_caught dialect a s = is_caught s a.spot.stack.loops (raw dialect a s) (raw_keeps dialect a s)

-- the run goes on with what the instruction does where the code stands
pub steps_on : (dialect : Dialect) (a : Running) (k : ℕ) (s : State) (m : Move) → here dialect a s ≡ m → exec_code dialect a.code (suc k) a.spot s ≡ follow dialect (exec_code dialect a.code k) a.spot.stack.loops m
steps_on dialect a k s m e = sym (follow_caught dialect (exec_code dialect a.code k) a.spot.stack.loops (raw dialect a s)) ∙ ap (follow dialect (exec_code dialect a.code k) a.spot.stack.loops) e

-- what is left after a move
abbrev pub Then : Dialect → List Instruction → Move → Got Completion → Type 0
Then dialect code (To p s) got = Comes dialect (running code p) s got
Then dialect code (Fails c s) got = ⊥
Then dialect code (Ends g) got = g ≡ got
Then dialect code (Calls words p s) got = After dialect (running code p) (exec (Run dialect) (page_in dialect p.depth (invoked dialect words)) s) got
Then dialect code Wrong got = ⊥

then_of : (dialect : Dialect) (code : List Instruction) (k : ℕ) (os : List Loop) (m : Move) (got : Got Completion) → IsCaught os m → follow dialect (exec_code dialect code k) os m ≡ Ended got → Then dialect code m got
then_of dialect code k os (To p s) got h e = record { steps = k; ends = e }
then_of dialect code k os (Fails c s) got h e = h
then_of dialect code k os (Ends g) got h e = ended_same _ _ e
then_of dialect code k os (Calls words p s) got h e =
    let that = exec (Run dialect) (page_in dialect p.depth (invoked dialect words)) s in
    record { steps = k; ends = subst (λ x. landed (exec_code dialect code k) x (result_at p.at p.stack p.depth) that ≡ Ended got) (sym h) e }
then_of dialect code k os Wrong got h e = stuck_ended got e

pub comes_then : (dialect : Dialect) (a : Running) (s : State) (got : Got Completion) → Comes dialect a s got → Then dialect a.code (here dialect a s) got
comes_then dialect a s got c = by_steps c.steps c.ends
  where
    by_steps : (k : ℕ) → exec_code dialect a.code k a.spot s ≡ Ended got → Then dialect a.code (here dialect a s) got
    by_steps zero e = absurd (unfinished_ended got e)
    by_steps (suc k) e = then_of dialect a.code k a.spot.stack.loops (here dialect a s) got (here_caught dialect a s) (sym (steps_on dialect a k s (here dialect a s) refl) ∙ e)

-- ---- outputs: what a code comes to begins with what is put out already

abbrev pub Grows : Channels → Got Completion → Type 0
Grows c got = OutputsBegin c (channels_of got)

abbrev Begins : Dialect → List Instruction → ℕ → Got Completion → Type 0
Begins dialect code k got = (p : Spot) (s : State) → exec_code dialect code k p s ≡ Ended got → Grows s.channels got

pub grows_on : (got : Got Completion) (c d : Channels) → d ≡ c → Grows d got → Grows c got
grows_on got c d e h = subst (λ x. Grows x got) e h

module _ (dialect : Dialect) (code : List Instruction) (k : ℕ) (got : Got Completion) (rest : Begins dialect code k got) where
  begins_thrown : (os : List Loop) (end : Code) (c : Completion) (s : State) → thrown_by (exec_code dialect code k) os end c s ≡ Ended got → Grows s.channels got
  begins_thrown [] end c s e = subst (Grows s.channels) (ended_same _ _ e) (outputs_same s.channels)
  begins_thrown (o ∷ os) how.Ok c s e = subst (Grows s.channels) (ended_same _ _ e) (outputs_same s.channels)
  begins_thrown (o ∷ os) how.Error c s e = subst (Grows s.channels) (ended_same _ _ e) (outputs_same s.channels)
  begins_thrown (o ∷ os) how.Return c s e = subst (Grows s.channels) (ended_same _ _ e) (outputs_same s.channels)
  begins_thrown (o ∷ os) how.Break c s e = rest _ s e
  begins_thrown (o ∷ os) how.Continue c s e = cond_both o.passes _ _ (λ x. x ≡ Ended got → Grows s.channels got) (λ _. begins_thrown os how.Continue c s) (λ _. rest _ s) e
  begins_thrown (o ∷ os) (how.Other z) c s e = subst (Grows s.channels) (ended_same _ _ e) (outputs_same s.channels)

  begins_by : (os : List Loop) (end : Code) (to : Completion → Spot) (c : Completion) (s : State) → landed_by (exec_code dialect code k) os to end c s ≡ Ended got → Grows s.channels got
  begins_by os how.Ok to c s e = rest (to c) s e
  begins_by os how.Error to c s e = begins_thrown os how.Error c s e
  begins_by os how.Return to c s e = begins_thrown os how.Return c s e
  begins_by os how.Break to c s e = begins_thrown os how.Break c s e
  begins_by os how.Continue to c s e = begins_thrown os how.Continue c s e
  begins_by os (how.Other z) to c s e = begins_thrown os (how.Other z) c s e

  pub begins_landed : (os : List Loop) (g : Got Completion) (to : Completion → Spot) → landed (exec_code dialect code k) os to g ≡ Ended got → Grows (channels_of g) got
  begins_landed os (Gives c s) to e = begins_by os (code_now c) to c s e
  begins_landed os (Broke r) to e = subst (Grows r.channels) (ended_same _ _ e) (outputs_same r.channels)
  begins_landed os (Exits n r) to e = subst (Grows r.channels) (ended_same _ _ e) (outputs_same r.channels)
  begins_landed os (Untold c) to e = subst (Grows c) (ended_same _ _ e) (outputs_same c)

  begins_move : (s : State) (os : List Loop) (m : Move) → Keeps s os m → follow dialect (exec_code dialect code k) os m ≡ Ended got → Grows s.channels got
  begins_move s os (To p t) h e = grows_on got s.channels t.channels h (rest p t e)
  begins_move s os (Fails c t) h e = grows_on got s.channels t.channels h (begins_thrown os (code_now c) c t e)
  begins_move s os (Ends g) h e = grows_on got s.channels (channels_of g) h (subst (Grows (channels_of g)) (ended_same _ _ e) (outputs_same (channels_of g)))
  begins_move s os (Calls words p t) h e =
      grows_on got s.channels t.channels h.0
      (outputs_trans (exec_goes (Run dialect) (onward dialect) (page_in dialect p.depth (invoked dialect words)) t).adds
      (begins_landed os (exec (Run dialect) (page_in dialect p.depth (invoked dialect words)) t) (result_at p.at p.stack p.depth) e))
  begins_move s os Wrong h e = absurd (stuck_ended got e)

code_begins : (dialect : Dialect) (code : List Instruction) (k : ℕ) (got : Got Completion) → Begins dialect code k got
code_begins dialect code zero got = λ p s e. absurd (unfinished_ended got e)
code_begins dialect code (suc k) got = λ p s e.
    begins_move dialect code k got (code_begins dialect code k got) s p.stack.loops (raw dialect (running code p) s) (raw_keeps dialect (running code p) s) e

pub comes_grows : (dialect : Dialect) (a : Running) (s : State) (got : Got Completion) → Comes dialect a s got → Grows s.channels got
comes_grows dialect a s got c = code_begins dialect a.code c.steps got a.spot s c.ends

pub after_grows : (dialect : Dialect) (a : Running) (that got : Got Completion) → After dialect a that got → Grows (channels_of that) got
after_grows dialect a that got c = begins_landed dialect a.code c.steps got (code_begins dialect a.code c.steps got) a.spot.stack.loops that _ c.ends
