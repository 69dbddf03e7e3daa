-- How pages end that look at frames.
use Rattle.std.proofs.Common.{◌≡◌, List, Result, Ok, Err, sym, ap, ◌∙◌}
use Rattle.tcl_arrays.specs.Completes.{Completes}
use Rattle.tcl_chars.specs.Answers.{Answers}
use Rattle.tcl_chars.specs.Texts.{text_of}
use Rattle.tcl_chars.specs.declared.fault.Fault.{Fault}
use Rattle.tcl_chars.specs.declared.fault.Fault.TheVariants as fault
use Rattle.tcl_frames.specs.Standing.{Standing, store_of}
use Rattle.tcl_meaning.specs.Asking.{Asks, done}
use Rattle.tcl_meaning.specs.Completions.{Completion, normal}
use Rattle.tcl_meaning.specs.Effects.{does}
use Rattle.tcl_meaning.specs.SeenPages.{seen_answer}
use Rattle.tcl_meaning.specs.State.{Commands}
use Rattle.tcl_meaning.specs.Tasks.{Done}
use Rattle.tcl_meaning.specs.Value.{◌>>=◌, judged}
use Rattle.tcl_meaning.specs.VariablePages.{seen_page}
use Rattle.tcl_meaning.specs.declared.page.SeenPage.{SeenPage}
use Rattle.tcl_pages.specs.Answers.{Answer}
use Rattle.tcl_pages.specs.Texts.{Text}
use Rattle.tcl_steps.specs.Comes.{Comes, state_of}
use Rattle.tcl_steps.specs.Ends.{Does, first_step}

-- what is done with an answer
abbrev answered : Answer Text → Asks
answered a = judged a >>= λ t. done (normal t)

by_answer : (page : SeenPage) (ws : List Text) (f : Standing) (a : Answer Text) (c : Completion) → ((cs : Commands) → seen_answer page (store_of cs f) ws ≡ a) → ((cs : Commands) → Comes (first_step (answered a)) f (Done c) f) → Comes (first_step (seen_page page ws)) f (Done c) f
unfolding seen_page
by_answer page ws f a c h k = record { same = λ cs ch n. ap (λ b. does (first_step (answered b)) (state_of cs ch n f)) (h cs) ∙ (k cs).same cs ch n }

pub seen_does : {E : Type 0} (page : SeenPage) (ws : List Text) (f : Standing) (r : Result Text Fault) (q : Result Completion E)
    → ((cs : Commands) → Answers (λ v. v) r (seen_answer page (store_of cs f) ws)) → Completes r q → Does (seen_page page ws) f q f
seen_does page ws f r (Err refused) h e = tt
seen_does page ws f (Ok t) (Ok c) h e = by_answer page ws f (Ok t) c h (λ cs. record { same = λ cs ch n. ap (λ d. does (first_step (done d)) (state_of cs ch n f)) (sym e) })
seen_does page ws f (Err (fault.Error message)) (Ok c) h e = by_answer page ws f (Err (text_of message)) c h (λ cs. record { same = λ cs ch n. ap (λ d. does (first_step (done d)) (state_of cs ch n f)) (sym e) })
seen_does page ws f (Err fault.Memory) (Ok c) h e = absurd e
