-- Scripts that are run in the frame of a level: uplevel(n).
use Rattle.std.proofs.Common.{◌≡◌, ◌≢◌, ◌-◌, Bool, true, false, List, [], ◌∷◌, length, take, drop, take_all, get_or, Result, Ok, Err, refl, sym, ap, subst, ◌∙◌, arith}
use Rattle.std.specs.Prelude.{if◌then◌else◌}
use Rattle.std.specs.declared.alloc.AllocError.{AllocError}
use Rattle.tcl_chars.specs.Texts.{literal}
use Rattle.tcl_steps.specs.Asked.{IsAsked}
use Rattle.tcl_frames.specs.Standing.{Standing}
use Rattle.tcl_meaning.specs.Asking.{Asks, usage}
use Rattle.tcl_meaning.specs.Completions.{wrong_words}
use Rattle.tcl_meaning.specs.Effects.{Gives}
use Rattle.tcl_meaning.specs.ProcedurePages.{uplevel_usage, uplevel_page, run_at}
use Rattle.tcl_meaning.specs.Procedures.{is_level}
use Rattle.tcl_meaning.specs.Tasks as tasks
use Rattle.tcl_pages.specs.Texts.{Text}
use Rattle.tcl_steps.specs.Views.{step_of}
use Rattle.tcl_steps.specs.declared.step.Step.{Step}
use Rattle.tcl_steps.specs.declared.step.Scope.{Scope}
use Rattle.tcl_steps.specs.declared.step.Owes.{Owes}
use Rattle.tcl_steps.specs.declared.step.Loop.{Loop}
use Rattle.tcl_steps.specs.Comes.{state_of}
use Rattle.tcl_steps.specs.Ends.{DoesAsk}

abbrev Asked : Type 0
Asked = Result (Step Scope Owes Loop) AllocError

usage_does : (r : Asked) (u : Text) (f : Standing) → IsAsked r (usage u) → DoesAsk (usage u) f r f
usage_does (Ok step) u f h =
    let k : tasks.Done (wrong_words u) ≡ step_of step = cc in
    record { same = λ cs ch n. ap (λ s. Gives s (state_of cs ch n f)) k }
usage_does (Err refused) u f h = tt

pub no_words : (ws : List Text) (r : Asked) (f : Standing) → length ws ≡ 0 → IsAsked r (usage uplevel_usage) → DoesAsk (uplevel_page ws) f r f
unfolding uplevel_page
no_words [] r f e h = usage_does r uplevel_usage f h
no_words (w ∷ ws) r f e h = absurd (omega arith)

same_page : (page rest : Asks) (f : Standing) (r : Asked) → page ≡ rest → DoesAsk rest f r f → DoesAsk page f r f
same_page page rest f r e h = subst (λ (p : Asks). DoesAsk p f r f) (sym e) h

abbrev by_first : Bool → Text → List Text → Asks
by_first b w ws = if b then run_at w ws else run_at (literal "1") (w ∷ ws)

behind_first : (ws us : List Text) → us ≡ ws → take (length us - 1) (drop 1 us) ≡ drop 1 ws
behind_first [] us e = ap (λ (vs : List Text). take (length vs - 1) (drop 1 vs)) e ∙ take_all (length {A = Text} [] - 1) (drop 1 []) (omega arith)
behind_first (w ∷ ws) us e = ap (λ (vs : List Text). take (length vs - 1) (drop 1 vs)) e ∙ take_all (length (w ∷ ws) - 1) ws (omega arith)

named_first : (ws : List Text) (w : Text) → length ws ≢ 0 → w ≡ get_or ws 0 [] → is_level w ≡ true → uplevel_page ws ≡ run_at w (drop 1 ws)
unfolding uplevel_page
named_first [] w some e l = absurd (some refl)
named_first (x ∷ ws) w some e l = ap (λ (t : Text). by_first (is_level t) t ws) (sym e) ∙ ap (λ (b : Bool). by_first b w ws) l

none_named : (ws : List Text) (w : Text) → length ws ≢ 0 → w ≡ get_or ws 0 [] → is_level w ≡ false → uplevel_page ws ≡ run_at (literal "1") ws
unfolding uplevel_page
none_named [] w some e l = absurd (some refl)
none_named (x ∷ ws) w some e l = ap (λ (t : Text). by_first (is_level t) x ws) (sym e) ∙ ap (λ (b : Bool). by_first b x ws) l

module _ (ws us : List Text) (w : Text) (f : Standing) (r : Asked) (some : length ws ≢ 0) (same : us ≡ ws) (first : w ≡ get_or ws 0 []) where
  pub at_level : is_level w ≡ true → DoesAsk (run_at w (take (length us - 1) (drop 1 us))) f r f → DoesAsk (uplevel_page ws) f r f
  at_level l h = same_page (uplevel_page ws) (run_at w (take (length us - 1) (drop 1 us))) f r (named_first ws w some first l ∙ ap (run_at w) (sym (behind_first ws us same))) h

  pub at_caller : is_level w ≡ false → DoesAsk (run_at (literal "1") us) f r f → DoesAsk (uplevel_page ws) f r f
  at_caller l h = same_page (uplevel_page ws) (run_at (literal "1") us) f r (none_named ws w some first l ∙ ap (run_at (literal "1")) (sym same)) h
