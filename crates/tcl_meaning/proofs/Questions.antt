-- No page asks too often: how often it may ask doesn't show.
use Rattle.std.proofs.Common.{◌≡◌, ℕ, zero, suc, ◌<◌, ◌≤◌, Bool, true, false, List, [], ◌∷◌, take, length, refl, ap, subst, arith, Option, Some, None}
use Rattle.tcl_chars.specs.declared.numbers.Dialect.{Dialect}
use Rattle.tcl_meaning.specs.declared.code.Code.{Code}
use Rattle.tcl_meaning.specs.declared.refusal.LinkRefusal.{LinkRefusal}
use Rattle.tcl_meaning.specs.declared.code.Code.TheVariants as code
use Rattle.tcl_pages.specs.Texts.{Text}
use Rattle.tcl_meaning.specs.Completions.{Completion, code_now, options_text}
use Rattle.tcl_meaning.specs.Input.{Want, input_taken}
use Rattle.tcl_meaning.specs.Links.{link}
use Rattle.tcl_meaning.specs.State.{Store, State}
use Rattle.tcl_meaning.specs.Effects.{Scope, Prog, Plain, Give, Look, Make, Link, Write, Take, HasEnded, Exit, Call, plainly, ◌>>=◌, Got, Gives, made, linked, wrote, took, take_from, does}
use Rattle.tcl_meaning.specs.Value.{Value, Has, Fails, completed, ◌>>=◌ as andthen, judged}
use Rattle.tcl_meaning.specs.Variables.{set_all}
use Rattle.tcl_chars.specs.Messages.{truth_value}
use Rattle.tcl_meaning.specs.Tasks.{Each, Step, Done, Run, Evaluate, Pay, Owes, Nothing, Leaving, Catching, IfTest, WhileTest, ForTest, WhileBody, ForStart, ForBody, ForNext, EachBody, Handler, Trying, Handling, Finishing}
use Rattle.tcl_meaning.specs.Substitution.{inside}
use Rattle.tcl_meaning.specs.Expressions.{expression}
use Rattle.tcl_meaning.specs.Asking.{Asks, questions_owed, questions, value_step, answered, all_answered, asked}
use Rattle.tcl_meaning.specs.Control.{ask_if, if_ok, if_goes_on, if_true, body_asks, next_clause, each_next, has_more, gathered, after_for_next, after_each}
use Rattle.tcl_meaning.specs.Handlers.{handler_for}
use Rattle.tcl_meaning.specs.Trying.{finish, handle_by, handle, after_try_by, after_finally}
use Rattle.tcl_meaning.specs.Pages.{owed}

-- every value that a plain program gives meets P
abbrev pub AllGive : {A : Type 0} → (A → Type 0) → Plain A → Type 0
AllGive P (Give a) = P a
AllGive P (Look g) = (s : Store) → AllGive P (g s)
AllGive P (Make ch p) = AllGive P p
AllGive P (Link level other local g) = (r : Option LinkRefusal) → AllGive P (g r)
AllGive P (Write o t p) = AllGive P p
AllGive P (Take want g) = (t : Text) → AllGive P (g t)
AllGive P (HasEnded g) = (b : Bool) → AllGive P (g b)
AllGive P (Exit n) = Unit {0}
AllGive P (Call scope task g) = Unit {0}

-- ---- what a page owes asks at most so often

abbrev AsksWithin : ℕ → Asks → Type 0
AsksWithin n page = AllGive (λ v. questions (value_step v) ≤ n) page

-- whatever a program gives, what follows asks at most so often
bind_within : {A : Type 0} (n : ℕ) (p : Plain (Value A)) (f : A → Asks) → ((a : A) → AsksWithin n (f a)) → AsksWithin n (andthen p f)
bind_within n (Give (Has a)) f h = h a
bind_within n (Give (Fails c)) f h = omega arith
bind_within n (Look g) f h = λ s. bind_within n (g s) f h
bind_within n (Make ch p) f h = bind_within n p f h
bind_within n (Link level other local g) f h = λ r. bind_within n (g r) f h
bind_within n (Write o t p) f h = bind_within n p f h
bind_within n (Take want g) f h = λ t. bind_within n (g t) f h
bind_within n (HasEnded g) f h = λ b. bind_within n (g b) f h
bind_within n (Exit m) f h = tt
bind_within n (Call scope task g) f h = absurd task

if_within : (n : ℕ) (b : Bool) (p q : Asks) → AsksWithin n p → AsksWithin n q → AsksWithin n (ask_if b p q)
if_within n true p q h k = h
if_within n false p q h k = k

if_ok_within : (n : ℕ) (k : Code) (c : Completion) (p : Asks) → AsksWithin n p → AsksWithin n (if_ok k c p)
if_ok_within n code.Ok c p h = h
if_ok_within n code.Error c p h = omega arith
if_ok_within n code.Return c p h = omega arith
if_ok_within n code.Break c p h = omega arith
if_ok_within n code.Continue c p h = omega arith
if_ok_within n (code.Other z) c p h = omega arith

if_goes_on_within : (n : ℕ) (k : Code) (c : Completion) (p q : Asks) → AsksWithin n p → AsksWithin n q → AsksWithin n (if_goes_on k c p q)
if_goes_on_within n code.Ok c p q h i = h
if_goes_on_within n code.Error c p q h i = omega arith
if_goes_on_within n code.Return c p q h i = omega arith
if_goes_on_within n code.Break c p q h i = i
if_goes_on_within n code.Continue c p q h i = h
if_goes_on_within n (code.Other z) c p q h i = omega arith

if_true_within : (dialect : Dialect) (n : ℕ) (c : Completion) (p q : Asks) → AsksWithin n p → AsksWithin n q → AsksWithin n (if_true dialect c p q)
if_true_within dialect n c p q h k = if_ok_within n (code_now c) c _ (bind_within n (judged (truth_value dialect c.result)) (λ b. ask_if b p q) (λ b. if_within n b p q h k))

body_within : (o : Option Text) (n : ℕ) → 0 < n → AsksWithin n (body_asks o)
body_within None n h = omega arith
body_within (Some body) n h = omega arith

clauses_within : (cs : List (Text × Text)) (o : Option Text) → AsksWithin (suc (length cs)) (next_clause cs o)
clauses_within [] o = body_within o (suc 0) (omega arith)
clauses_within (c ∷ cs) o = omega arith

each_next_within : (n : ℕ) (e : Each) → AsksWithin n (each_next e)
each_next_within n e = if_within n (has_more e.lists) _ _ (omega arith) (omega arith)

-- whatever a program comes to, a value or an error, what follows asks at most so often
then_within : {A : Type 0} (n : ℕ) (p : Plain (Value A)) (f : Value A → Asks) → ((v : Value A) → AsksWithin n (f v)) → AsksWithin n (p >>= f)
then_within n (Give v) f h = h v
then_within n (Look g) f h = λ s. then_within n (g s) f h
then_within n (Make ch p) f h = then_within n p f h
then_within n (Link level other local g) f h = λ r. then_within n (g r) f h
then_within n (Write o t p) f h = then_within n p f h
then_within n (Take want g) f h = λ t. then_within n (g t) f h
then_within n (HasEnded g) f h = λ b. then_within n (g b) f h
then_within n (Exit m) f h = tt
then_within n (Call scope task g) f h = absurd task

finish_within : (n : ℕ) (finally : Option Text) (c : Completion) → AsksWithin (suc n) (finish finally c)
finish_within n None c = omega arith
finish_within n (Some script) c = omega arith

handle_within : (finally : Option Text) (script : Text) (v : Value (Unit {0})) → AsksWithin 2 (handle_by finally script v)
handle_within finally script (Has u) = omega arith
handle_within finally script (Fails c) = finish_within 1 finally c

try_within : (finally : Option Text) (c : Completion) (h : Option Handler) → AsksWithin 2 (after_try_by finally c h)
try_within finally c None = finish_within 1 finally c
try_within finally c (Some h) = then_within 2 (set_all (take 2 h.names) (c.result ∷ options_text c ∷ [])) (handle_by finally h.script) (handle_within finally h.script)

finally_within : (before : Completion) (k : Code) (c : Completion) → AsksWithin 0 (after_finally before k c)
finally_within before code.Ok c = omega arith
finally_within before code.Error c = omega arith
finally_within before code.Return c = omega arith
finally_within before code.Break c = omega arith
finally_within before code.Continue c = omega arith
finally_within before (code.Other z) c = omega arith

module _ (dialect : Dialect) where
  owed_within : (o : Owes) (c : Completion) → AsksWithin (questions_owed o) (owed dialect o c)
  unfolding owed
  owed_within Nothing c = omega arith
  owed_within Leaving c = omega arith
  owed_within (Catching names) c = bind_within 0 (set_all names (c.result ∷ options_text c ∷ [])) _ (λ u. omega arith)
  owed_within (IfTest body others) c = if_true_within dialect (suc (length others.clauses)) c _ _ (omega arith) (clauses_within others.clauses others.otherwise)
  owed_within (WhileTest test body) c = if_true_within dialect 0 c _ _ (omega arith) (omega arith)
  owed_within (WhileBody test body) c = if_goes_on_within 1 (code_now c) c _ _ (omega arith) (omega arith)
  owed_within (ForStart test next body) c = if_ok_within 1 (code_now c) c _ (omega arith)
  owed_within (ForTest test next body) c = if_true_within dialect 0 c _ _ (omega arith) (omega arith)
  owed_within (ForBody test next body) c = if_goes_on_within 2 (code_now c) c _ _ (omega arith) (omega arith)
  owed_within (ForNext test next body) c = next_within (code_now c)
    where
      next_within : (k : Code) → AsksWithin 1 (after_for_next dialect test next body k c)
      next_within code.Ok = omega arith
      next_within code.Error = omega arith
      next_within code.Return = omega arith
      next_within code.Break = omega arith
      next_within code.Continue = omega arith
      next_within (code.Other z) = omega arith
  owed_within (EachBody e) c = each_within (code_now c)
    where
      each_within : (k : Code) → AsksWithin 0 (after_each e k c)
      each_within code.Ok = each_next_within 0 (record e { results = gathered e.results c.result })
      each_within code.Error = omega arith
      each_within code.Return = omega arith
      each_within code.Break = omega arith
      each_within code.Continue = each_next_within 0 e
      each_within (code.Other z) = omega arith
  owed_within (Trying handlers) c = try_within handlers.finally c (handler_for handlers.clauses c)
  owed_within (Handling finally) c = finish_within 0 finally c
  owed_within (Finishing before) c = finally_within before (code_now c) c

-- ---- what is given

take_from_gives : {A : Type 0} (P : A → Type 0) (want : Want) (i : Option Text) (s t : State) (a : A) (f : Text → State → Got A)
    → ((x : Text) (u : State) → f x u ≡ Gives a t → P a) → take_from want i s f ≡ Gives a t → P a
take_from_gives P want None s t a f k e = absurd cc
take_from_gives P want (Some cs) s t a f k e = k (input_taken want cs) (took want cs s) e

-- what holds of every value that a program gives holds of the one that it comes to
given : {A : Type 0} (P : A → Type 0) (p : Plain A) (s t : State) (a : A) → AllGive P p → does p s ≡ Gives a t → P a
given P (Give b) s t a h e = subst P (ap (λ r. value_in a r) e) h
  where
    value_in : {A : Type 0} → A → Got A → A
    value_in b (Gives c t) = c
    value_in b _ = b
given P (Look q) s t a h e = given P (q s.store) s t a (h s.store) e
given P (Make ch p) s t a h e = given P p (made ch s) t a h e
given P (Link level other local q) s t a h e = given P (q (link s.store level other local).0) (linked level other local s) t a (h (link s.store level other local).0) e
given P (Write o x p) s t a h e = given P p (wrote o x s) t a h e
given P (Take want q) s t a h e = take_from_gives P want s.channels.input s t a (λ x after. does (q x) after) (λ x u d. given P (q x) u t a (h x) d) e
given P (HasEnded q) s t a h e = given P (q s.channels.met_end) s t a (h s.channels.met_end) e
given P (Exit n) s t a h e = absurd cc
given P (Call scope task q) s t a h e = absurd task

-- what a page that owes asks for asks at most as often as it owes
pub owed_asks : (dialect : Dialect) (o : Owes) (c : Completion) (s t : State) (v : Value Step) → does (owed dialect o c) s ≡ Gives v t → questions (value_step v) ≤ questions_owed o
owed_asks dialect o c s t v e = given (λ w. questions (value_step w) ≤ questions_owed o) (owed dialect o c) s t v (owed_within dialect o c) e

-- ---- so any count that is enough is enough

-- what follows a plain program is the same if it is the same for all that the program gives
same_behind : {T A B : Type 0} (P : A → Type 0) (p : Plain A) (f g : A → Prog T B) → AllGive P p → ((a : A) → P a → f a ≡ g a) → plainly p >>= f ≡ plainly p >>= g
same_behind P (Give a) f g h k = k a h
same_behind P (Look q) f g h k = λ i. Look (λ s. same_behind P (q s) f g (h s) k i)
same_behind P (Make ch p) f g h k = λ i. Make ch (same_behind P p f g h k i)
same_behind P (Link level other local q) f g h k = λ i. Link level other local (λ r. same_behind P (q r) f g (h r) k i)
same_behind P (Write o t p) f g h k = λ i. Write o t (same_behind P p f g h k i)
same_behind P (Take want q) f g h k = λ i. Take want (λ t. same_behind P (q t) f g (h t) k i)
same_behind P (HasEnded q) f g h k = λ i. HasEnded (λ b. same_behind P (q b) f g (h b) k i)
same_behind P (Exit n) f g h k = refl
same_behind P (Call scope task q) f g h k = absurd task

module _ (dialect : Dialect) (d : ℕ) where
  enough : (n m : ℕ) (step : Step) → questions step ≤ n → questions step ≤ m → answered dialect (owed dialect) d n step ≡ answered dialect (owed dialect) d m step
  unfolding answered all_answered asked
  enough n m (Done c) h i = refl
  enough n m (Pay loop) h i = refl
  enough zero m (Run scope t o) h i = absurd (omega arith)
  enough (suc n) zero (Run scope t o) h i = absurd (omega arith)
  enough (suc n) (suc m) (Run scope t o) h i =
      λ j. Call scope (inside d t) (λ c. same_behind (λ v. questions (value_step v) ≤ questions_owed o) (owed dialect o c) _ _ (owed_within dialect o c) (λ v le. enough n m (value_step v) (omega arith) (omega arith)) j)
  enough zero m (Evaluate t o) h i = absurd (omega arith)
  enough (suc n) zero (Evaluate t o) h i = absurd (omega arith)
  enough (suc n) (suc m) (Evaluate t o) h i =
      λ j. expression dialect d t >>= (λ v. same_behind (λ v. questions (value_step v) ≤ questions_owed o) (owed dialect o (completed v)) _ _ (owed_within dialect o (completed v)) (λ w le. enough n m (value_step w) (omega arith) (omega arith)) j)

  next_asked : (o : Owes) (c : Completion) → (plainly (owed dialect o c) >>= λ v. answered dialect (owed dialect) d (questions_owed o) (value_step v)) ≡ asked dialect (owed dialect) d (owed dialect o c)
  unfolding answered all_answered asked
  next_asked o c = same_behind (λ v. questions (value_step v) ≤ questions_owed o) (owed dialect o c) _ _ (owed_within dialect o c) (λ v le. enough (questions_owed o) (questions (value_step v)) (value_step v) le (omega arith))

  pub run_answered : (scope : Scope) (t : Text) (o : Owes) → all_answered dialect (owed dialect) d (Run scope t o) ≡ Call scope (inside d t) (λ c. asked dialect (owed dialect) d (owed dialect o c))
  unfolding answered all_answered asked
  run_answered scope t o = λ j. Call scope (inside d t) (λ c. next_asked o c j)

  pub expression_answered : (t : Text) (o : Owes) → all_answered dialect (owed dialect) d (Evaluate t o) ≡ (expression dialect d t >>= λ v. asked dialect (owed dialect) d (owed dialect o (completed v)))
  unfolding answered all_answered asked
  expression_answered t o = λ j. expression dialect d t >>= (λ v. next_asked o (completed v) j)
