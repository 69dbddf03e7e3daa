-- What exit(n) comes to, by the count of its words.
use Rattle.std.proofs.Common.{◌≡◌, ◌≢◌, ℕ, ◌≤◌, ◌<◌, List, [], ◌∷◌, Some, Ok, Err, length, ap, ◌∙◌, subst, refl, arith}
use Rattle.std.specs.Prelude.{Result}
use Rattle.std.specs.declared.alloc.Global.{Global}
use Rattle.std.specs.declared.rc.RcStr.{RcStr}
use Rattle.tcl_chars.specs.Answers.{Stops}
use Rattle.tcl_chars.specs.declared.fault.Fault.{Fault}
use Rattle.tcl_chars.specs.declared.fault.Fault.TheVariants as fault
use Rattle.tcl_steps.specs.Asked.{at_once}
use Rattle.tcl_arguments.specs.WordAt.{word}
use Rattle.tcl_chars.specs.Texts.{literal, text_of}
use Rattle.tcl_chars.specs.declared.numbers.Dialect.{Dialect}
use Rattle.tcl_meaning.specs.Asking.{Asks, usage}
use Rattle.tcl_meaning.specs.CodePages.{exit_page}
use Rattle.tcl_meaning.specs.Codes.{status_of}
use Rattle.tcl_meaning.specs.Completions.{failure}
use Rattle.tcl_meaning.specs.Effects.{Exit}
use Rattle.tcl_meaning.specs.Tasks.{Done}
use Rattle.tcl_meaning.specs.Value.{◌>>=◌, judged}
use Rattle.tcl_pages.specs.Answers.{Answer}
use Rattle.tcl_pages.specs.Texts.{Text}

pub no_status : (d : Dialect) (ws : List Text) → length ws ≡ 0 → exit_page d ws ≡ Exit 0
unfolding exit_page
no_status d [] h = refl
no_status d (a ∷ ws) h = absurd (omega arith)

pub exit_usage : (d : Dialect) (ws : List Text) → 1 < length ws → exit_page d ws ≡ usage (literal "exit ?returnCode?")
unfolding exit_page
exit_usage d [] h = absurd (omega arith)
exit_usage d (a ∷ []) h = absurd (omega arith)
exit_usage d (a ∷ b ∷ ws) h = refl

abbrev exits_by : Answer ℕ → Asks
exits_by status = judged status >>= λ n. Exit n

exit_is : (d : Dialect) (ws : List Text) → length ws ≢ 0 → length ws ≤ 1 → exit_page d ws ≡ exits_by (status_of d (word ws 0))
unfolding exit_page
exit_is d [] g h = absurd (g refl)
exit_is d (a ∷ []) g h = refl
exit_is d (a ∷ b ∷ ws) g h = absurd (omega arith)

pub exits : (d : Dialect) (ws : List Text) (n : ℕ) → length ws ≢ 0 → length ws ≤ 1 → status_of d (word ws 0) ≡ Ok n → exit_page d ws ≡ Exit n
exits d ws n g h e = exit_is d ws g h ∙ ap exits_by e

pub exit_fails : (d : Dialect) (ws : List Text) (message : Text) → length ws ≢ 0 → length ws ≤ 1 → status_of d (word ws 0) ≡ Err message
    → at_once (exit_page d ws) ≡ Some (Done (failure message))
exit_fails d ws message g h e = ap at_once (exit_is d ws g h ∙ ap exits_by e)

-- what a script's error stops is meant to be it
pub stopped : {Y : Type 0} (f : Fault) (t : RcStr Global) (meant : Result Y Text) → f ≡ fault.Error t → Stops f meant → meant ≡ Err (text_of t)
stopped f t meant e h = subst (λ g. Stops g meant) e h
