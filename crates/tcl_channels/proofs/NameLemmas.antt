-- Channels by their names, and commands that stop.
use Rattle.std.proofs.Common.{◌≡◌, false, Result, Ok, Err, ap, sym, subst, refl}
use Rattle.tcl_meaning.specs.Asking.{Asks}
use Rattle.tcl_meaning.specs.Channels.{Channel, input, output, as_output, as_input, channel_of, not_for_writing, not_for_reading}
use Rattle.tcl_meaning.specs.Completions.{Completion, failure}
use Rattle.tcl_meaning.specs.Effects.{Plain}
use Rattle.tcl_meaning.specs.State.{Output, State}
use Rattle.tcl_meaning.specs.Value.{Value, give, fail, judged, ◌>>=◌}
use Rattle.tcl_pages.specs.Answers.{Answer}
use Rattle.tcl_pages.specs.Texts.{Text}
use Rattle.tcl_steps.specs.declared.fault.Fault.{Fault}
use Rattle.tcl_steps.specs.declared.stop.Stop.{Stop}
use Rattle.tcl_steps.specs.declared.stop.Stop.TheVariants as stop
use Rattle.tcl_channels.proofs.ChannelLemmas.{broken_at_once}
use Rattle.tcl_channels.specs.Leaves.{is_io}
use Rattle.tcl_channels.specs.Orders.{Orders, Tells, Halts, channel_at}
use Rattle.tcl_channels.specs.Shown.{output_at}
use Rattle.tcl_channels.specs.Works.{Works}

-- ---- an answer, as a program

answer_is : {A : Type 0} (r : Answer A) (a : A) → judged {T = ⊥} r ≡ give a → r ≡ Ok a
answer_is (Ok b) a h = let e : b ≡ a = cc in ap Ok e
answer_is (Err message) a h = absurd cc

still_fails : {A B : Type 0} (c : Completion) (d : Completion) → ◌≡◌ {A = Plain (Value A)} (fail c) (fail d) → ◌≡◌ {A = Plain (Value B)} (fail c) (fail d)
still_fails {A} {B} c d h = let e : c ≡ d = cc in ap (λ x. fail {T = ⊥} {A = B} x) e

pub found_output : (r : Answer Channel) (name : Text) (o : Output) → judged {T = ⊥} r ≡ give (output o) → judged {T = ⊥} (as_output name r) ≡ give o
found_output r name o h = ap (λ x. judged {T = ⊥} (as_output name x)) (answer_is r (output o) h)

pub input_only : (r : Answer Channel) (name : Text) → judged {T = ⊥} r ≡ give input → judged {T = ⊥} (as_output name r) ≡ fail (failure (not_for_writing name))
input_only r name h = ap (λ x. judged {T = ⊥} (as_output name x)) (answer_is r input h)

pub no_output : (r : Answer Channel) (name : Text) (c : Completion) → judged {T = ⊥} r ≡ fail c → judged {T = ⊥} (as_output name r) ≡ fail c
no_output (Ok a) name c h = absurd cc
no_output (Err message) name c h = still_fails (failure message) c h

pub found_input : (r : Answer Channel) (name : Text) → judged {T = ⊥} r ≡ give input → judged {T = ⊥} (as_input name r) ≡ give tt
found_input r name h = ap (λ x. judged {T = ⊥} (as_input name x)) (answer_is r input h)

pub output_only : (r : Answer Channel) (name : Text) (o : Output) → judged {T = ⊥} r ≡ give (output o) → judged {T = ⊥} (as_input name r) ≡ fail (failure (not_for_reading name))
output_only r name o h = ap (λ x. judged {T = ⊥} (as_input name x)) (answer_is r (output o) h)

pub no_input : (r : Answer Channel) (name : Text) (c : Completion) → judged {T = ⊥} r ≡ fail c → judged {T = ⊥} (as_input name r) ≡ fail c
no_input (Ok a) name c h = absurd cc
no_input (Err message) name c h = still_fails (failure message) c h

-- ---- what goes on, and what stops

-- a value, and what goes on with it
pub tells_on : {A B C : Type 0} (view : A → B) (p : Plain (Value B)) (k : B → Plain (Value C)) (r : Result A Stop) → Tells view p r → Orders (λ a. k (view a)) (p >>= k) r
tells_on view p k (Ok a) h = ap (λ q. q >>= k) h
tells_on view p k (Err (stop.Error c)) h = ap (λ q. q >>= k) h
tells_on view p k (Err stop.Memory) h = tt

pub orders_of : {A B : Type 0} (go : A → Plain (Value B)) (p q : Plain (Value B)) (r : Result A Stop) → p ≡ q → Orders go q r → Orders go p r
orders_of go p q r e h = subst (λ x. Orders go x r) (sym e) h

pub halts_works : {A : Type 0} (go : A → Asks) (page : Asks) (stop : Stop) (r : Result Completion Fault) (s : State) → Orders go page (Err stop) → Halts stop r → Works page s r s
halts_works go page (stop.Error c) r s h e = rw (e, h) refl
halts_works go page stop.Memory r s h e = rw e (broken_at_once page s)

-- no device has failed
pub halts_quiet : (stop : Stop) (r : Result Completion Fault) → Halts stop r → is_io r ≡ false
halts_quiet (stop.Error c) r e = ap is_io e
halts_quiet stop.Memory r e = ap is_io e

-- ---- a name that is no channel's

pub output_failed : (name : Text) (s : Stop) → Tells channel_at (judged (channel_of name)) (Err s) → Tells output_at (judged (as_output name (channel_of name))) (Err s)
output_failed name (stop.Error c) h = no_output (channel_of name) name c h
output_failed name stop.Memory h = tt

pub input_failed : (name : Text) (s : Stop) → Tells channel_at (judged (channel_of name)) (Err s) → Tells (λ (u : Unit {0}). u) (judged (as_input name (channel_of name))) (Err s)
input_failed name (stop.Error c) h = no_input (channel_of name) name c h
input_failed name stop.Memory h = tt
