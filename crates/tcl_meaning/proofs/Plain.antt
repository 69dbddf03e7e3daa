-- Programs that run nothing.
use Rattle.std.proofs.Common.{◌≡◌, refl, ◌∙◌, List, Option, Some, None, Ok, Err}
use Rattle.tcl_chars.specs.declared.numbers.Dialect.{Dialect}
use Rattle.tcl_meaning.specs.declared.page.Page.TheVariants as page
use Rattle.tcl_pages.specs.declared.pages.PurePage.{PurePage}
use Rattle.tcl_pages.specs.Texts.{Text}
use Rattle.tcl_pages.specs.Answers.{Answer}
use Rattle.tcl_meaning.specs.Completions.{Completion, normal}
use Rattle.tcl_meaning.specs.Input.{Want, input_taken}
use Rattle.tcl_meaning.specs.Links.{link}
use Rattle.tcl_meaning.specs.State.{State}
use Rattle.tcl_meaning.specs.Effects.{Plain, Give, Look, Make, Link, Write, Take, HasEnded, Exit, Call, plainly, Got, Gives, Broke, Exits, Untold, made, linked, wrote, took, take_from, exec, does}
use Rattle.tcl_meaning.specs.Value.{◌>>=◌, judged}
use Rattle.tcl_meaning.specs.Asking.{done}
use Rattle.tcl_meaning.specs.Pure.{pure}
use Rattle.tcl_meaning.specs.VariablePages.{pure_page}
use Rattle.tcl_meaning.specs.Pages.{page_asks}
use Rattle.tcl_meaning.specs.Beginnings.{IsFree}
use Rattle.tcl_meaning.specs.Laws.{answered_by}

take_from_same : {A : Type 0} (want : Want) (i : Option Text) (s : State) (f g : Text → State → Got A) → ((t : Text) (u : State) → f t u ≡ g t u) → take_from want i s f ≡ take_from want i s g
take_from_same want None s f g k = refl
take_from_same want (Some cs) s f g k = k (input_taken want cs) (took want cs s)

-- what tasks come to doesn't matter to them
pub plainly_does : {T A : Type 0} (run : T → State → Got Completion) (p : Plain A) (s : State) → exec run (plainly p) s ≡ does p s
plainly_does run (Give a) s = refl
plainly_does run (Look g) s = plainly_does run (g s.store) s
plainly_does run (Make ch p) s = plainly_does run p (made ch s)
plainly_does run (Link level other local g) s = plainly_does run (g (link s.store level other local).0) (linked level other local s)
plainly_does run (Write o t p) s = plainly_does run p (wrote o t s)
plainly_does run (Take want g) s = take_from_same want s.channels.input s (λ t after. exec run (plainly (g t)) after) (λ t after. does (g t) after) (λ t u. plainly_does run (g t) u)
plainly_does run (HasEnded g) s = plainly_does run (g s.channels.met_end) s
plainly_does run (Exit n) s = refl
plainly_does run (Call scope task g) s = absurd task

take_from_free : {A : Type 0} (want : Want) (i : Option Text) (s : State) (f : Text → State → Got A) → ((t : Text) (u : State) → u.units ≡ s.units → IsFree s (f t u)) → IsFree s (take_from want i s f)
take_from_free want None s f k = tt
take_from_free want (Some cs) s f k = k (input_taken want cs) (took want cs s) refl

free_from : {A : Type 0} (s t : State) (r : Got A) → t.units ≡ s.units → IsFree t r → IsFree s r
free_from s t (Gives a u) e h = h ∙ e
free_from s t (Broke x) e h = absurd h
free_from s t (Exits n x) e h = tt
free_from s t (Untold x) e h = tt

pub plain_free : {A : Type 0} (p : Plain A) (s : State) → IsFree s (does p s)
plain_free (Give a) s = refl
plain_free (Look g) s = plain_free (g s.store) s
plain_free (Make ch p) s = free_from s (made ch s) (does p (made ch s)) refl (plain_free p (made ch s))
plain_free (Link level other local g) s =
    free_from s (linked level other local s) (does (g (link s.store level other local).0) (linked level other local s)) refl (plain_free (g (link s.store level other local).0) (linked level other local s))
plain_free (Write o t p) s = free_from s (wrote o t s) (does p (wrote o t s)) refl (plain_free p (wrote o t s))
plain_free (Take want g) s = take_from_free want s.channels.input s (λ t after. does (g t) after) (λ t u e. free_from s u (does (g t) u) e (plain_free (g t) u))
plain_free (HasEnded g) s = plain_free (g s.channels.met_end) s
plain_free (Exit n) s = tt
plain_free (Call scope task g) s = absurd task

by_answer : (a : Answer Text) (s : State) → does (judged a >>= λ t. done (normal t)) s ≡ Gives (answered_by a) s
by_answer (Ok t) s = refl
by_answer (Err message) s = refl

pub pure_does : (dialect : Dialect) (p : PurePage) (ws : List Text) (s : State) → does (page_asks dialect (page.Pure p) ws) s ≡ Gives (answered_by (pure dialect p ws)) s
unfolding page_asks pure_page
pure_does dialect p ws s = by_answer (pure dialect p ws) s
