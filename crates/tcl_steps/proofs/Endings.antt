-- Programs one behind the other, and how commands end.
use Rattle.std.proofs.Common.{Result, Ok, Err, ap, ◌∙◌}
use Rattle.tcl_meaning.proofs.Runs.{exec_bind}
use Rattle.tcl_meaning.specs.Asking.{Asks}
use Rattle.tcl_meaning.specs.Completions.{Completion}
use Rattle.tcl_meaning.specs.Effects.{Plain, does, nothing_runs, on_got, ◌>>=◌ as andthen}
use Rattle.tcl_meaning.specs.Tasks.{Done}
use Rattle.tcl_meaning.specs.Value.{Value, Has, Fails, on_value, ◌>>=◌}
use Rattle.tcl_frames.specs.Standing.{Standing}
use Rattle.tcl_steps.specs.Comes.{Becomes, Comes, state_of}
use Rattle.tcl_steps.specs.Ends.{EndsDone, Does, Closes}
use Rattle.tcl_steps.specs.declared.stop.Stop.{Stop}
use Rattle.tcl_steps.specs.declared.stop.Stop.TheVariants as stop

-- what a program gives goes on
pub gives_on : {A B : Type 0} (p : Plain A) (k : A → Plain B) (f g : Standing) (a : A) → Comes p f a g → Becomes (andthen p k) f (k a) g
gives_on p k f g a h = record { same = λ cs ch n. exec_bind nothing_runs p k (state_of cs ch n f) ∙ ap (λ r. on_got r (λ b u. does (k b) u)) (h.same cs ch n) }

pub has_on : {A B : Type 0} (p : Plain (Value A)) (k : A → Plain (Value B)) (f g : Standing) (a : A) → Comes p f (Has a) g → Becomes (p >>= k) f (k a) g
has_on p k f g a h = gives_on p (on_value k) f g (Has a) h

pub fails_on : {A B : Type 0} (p : Plain (Value A)) (k : A → Plain (Value B)) (f g : Standing) (c : Completion) → Comes p f (Fails c) g → Comes (p >>= k) f (Fails c) g
fails_on p k f g c h = gives_on p (on_value k) f g (Fails c) h

pub then_becomes : {A : Type 0} {p q r : Plain A} {f g h : Standing} → Becomes p f q g → Becomes q g r h → Becomes p f r h
then_becomes a b = record { same = λ cs ch n. a.same cs ch n ∙ b.same cs ch n }

-- ---- a page is done

pub closes : {E : Type 0} (page : Asks) (f g : Standing) (r : Result Completion Stop) (q : Result Completion E) → EndsDone page f r g → Closes r q → Does page f q g
closes page f g (Ok c) q h e = rw e (gives_on page _ f g (Has (Done c)) h)
closes page f g (Err (stop.Error c)) q h e = rw e (gives_on page _ f g (Fails c) h)
closes page f g (Err stop.Memory) (Ok c) h e = absurd e
closes page f g (Err stop.Memory) (Err refused) h e = tt
