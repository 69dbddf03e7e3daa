-- What pages ask for, by the count of their words.
use Rattle.std.proofs.Common.{◌≡◌, ◌≢◌, ◌≤◌, ◌<◌, List, [], ◌∷◌, length, sym, ap, ◌∙◌, refl, arith}
use Rattle.std.specs.Prelude.{Result}
use Rattle.std.specs.declared.alloc.AllocError.{AllocError}
use Rattle.tcl_arguments.specs.WordAt.{word}
use Rattle.tcl_chars.specs.Texts.{literal}
use Rattle.tcl_chars.specs.declared.numbers.Dialect.{Dialect}
use Rattle.tcl_control.specs.Codes.{options_given}
use Rattle.tcl_meaning.specs.Asking.{done, ask, usage}
use Rattle.tcl_meaning.specs.CodePages.{break_page, continue_page, error_page, catch_page}
use Rattle.tcl_meaning.specs.Completions.{Completion, failure, ended}
use Rattle.tcl_meaning.specs.Control.{while_page, while_next, for_page, eval_page, expr_page}
use Rattle.tcl_meaning.specs.Effects.{Here}
use Rattle.tcl_meaning.specs.Tasks.{Run, Evaluate, Nothing, ForStart}
use Rattle.tcl_meaning.specs.declared.code.Code.TheVariants as code
use Rattle.tcl_pages.specs.Lists.{one_text}
use Rattle.tcl_pages.specs.Texts.{Text}
use Rattle.tcl_steps.specs.Asked.{IsAsked}
use Rattle.tcl_steps.specs.declared.step.Loop.{Loop}
use Rattle.tcl_steps.specs.declared.step.Owes.{Owes}
use Rattle.tcl_steps.specs.declared.step.Scope.{Scope}
use Rattle.tcl_steps.specs.declared.step.Step.{Step}

-- ---- while, for

pub while_usage : (d : Dialect) (ws : List Text) → length ws ≢ 2 → while_page d ws ≡ usage (literal "while test command")
unfolding while_page
while_usage d [] h = refl
while_usage d (a ∷ []) h = refl
while_usage d (a ∷ b ∷ []) h = absurd (h refl)
while_usage d (a ∷ b ∷ c ∷ ws) h = refl

pub while_is : (d : Dialect) (ws : List Text) → length ws ≡ 2 → while_page d ws ≡ while_next d (word ws 0) (word ws 1)
unfolding while_page
while_is d [] h = absurd (omega arith)
while_is d (a ∷ []) h = absurd (omega arith)
while_is d (a ∷ b ∷ []) h = refl
while_is d (a ∷ b ∷ c ∷ ws) h = absurd (omega arith)

pub while_asks : (d : Dialect) (ws : List Text) (test body : Text) → length ws ≡ 2 → test ≡ word ws 0 → body ≡ word ws 1 → while_page d ws ≡ while_next d test body
while_asks d ws test body h e f = while_is d ws h ∙ sym (ap (λ z. while_next d z body) e ∙ ap (λ z. while_next d (word ws 0) z) f)

pub for_usage : (d : Dialect) (ws : List Text) → length ws ≢ 4 → for_page d ws ≡ usage (literal "for start test next command")
unfolding for_page
for_usage d [] h = refl
for_usage d (a ∷ []) h = refl
for_usage d (a ∷ b ∷ []) h = refl
for_usage d (a ∷ b ∷ c ∷ []) h = refl
for_usage d (a ∷ b ∷ c ∷ e ∷ []) h = absurd (h refl)
for_usage d (a ∷ b ∷ c ∷ e ∷ f ∷ ws) h = refl

pub for_is : (d : Dialect) (ws : List Text) → length ws ≡ 4 → for_page d ws ≡ ask (Run Here (word ws 0) (ForStart (word ws 1) (word ws 2) (word ws 3)))
unfolding for_page
for_is d [] h = absurd (omega arith)
for_is d (a ∷ []) h = absurd (omega arith)
for_is d (a ∷ b ∷ []) h = absurd (omega arith)
for_is d (a ∷ b ∷ c ∷ []) h = absurd (omega arith)
for_is d (a ∷ b ∷ c ∷ e ∷ []) h = refl
for_is d (a ∷ b ∷ c ∷ e ∷ f ∷ ws) h = absurd (omega arith)

pub for_asks : (d : Dialect) (ws : List Text) (first test next body : Text) → length ws ≡ 4
    → first ≡ word ws 0 → test ≡ word ws 1 → next ≡ word ws 2 → body ≡ word ws 3 → for_page d ws ≡ ask (Run Here first (ForStart test next body))
for_asks d ws first test next body h e f g i =
    for_is d ws h
    ∙ sym (ap (λ z. ask (Run Here z (ForStart test next body))) e ∙ ap (λ z. ask (Run Here (word ws 0) (ForStart z next body))) f
    ∙ ap (λ z. ask (Run Here (word ws 0) (ForStart (word ws 1) z body))) g ∙ ap (λ z. ask (Run Here (word ws 0) (ForStart (word ws 1) (word ws 2) z))) i)

-- ---- eval, expr

pub eval_is : (ws : List Text) → length ws ≢ 0 → eval_page ws ≡ ask (Run Here (one_text ws) Nothing)
unfolding eval_page
eval_is [] h = absurd (h refl)
eval_is (a ∷ ws) h = refl

pub eval_usage : (ws : List Text) → length ws ≡ 0 → eval_page ws ≡ usage (literal "eval arg ?arg ...?")
unfolding eval_page
eval_usage [] h = refl
eval_usage (a ∷ ws) h = absurd (omega arith)

pub expr_is : (ws : List Text) → length ws ≢ 0 → expr_page ws ≡ ask (Evaluate (one_text ws) Nothing)
unfolding expr_page
expr_is [] h = absurd (h refl)
expr_is (a ∷ ws) h = refl

pub expr_usage : (ws : List Text) → length ws ≡ 0 → expr_page ws ≡ usage (literal "expr arg ?arg ...?")
unfolding expr_page
expr_usage [] h = refl
expr_usage (a ∷ ws) h = absurd (omega arith)

pub eval_asks : (ws : List Text) (script : Text) → length ws ≢ 0 → script ≡ one_text ws → eval_page ws ≡ ask (Run Here script Nothing)
eval_asks ws script h e = eval_is ws h ∙ sym (ap (λ z. ask (Run Here z Nothing)) e)

pub expr_asks : (ws : List Text) (expr : Text) → length ws ≢ 0 → expr ≡ one_text ws → expr_page ws ≡ ask (Evaluate expr Nothing)
expr_asks ws expr h e = expr_is ws h ∙ sym (ap (λ z. ask (Evaluate z Nothing)) e)

-- ---- break, continue

pub break_is : (ws : List Text) → length ws ≡ 0 → break_page ws ≡ done (ended code.Break [])
unfolding break_page
break_is [] h = refl
break_is (a ∷ ws) h = absurd (omega arith)

pub break_usage : (ws : List Text) → length ws ≢ 0 → break_page ws ≡ usage (literal "break")
unfolding break_page
break_usage [] h = absurd (h refl)
break_usage (a ∷ ws) h = refl

pub continue_is : (ws : List Text) → length ws ≡ 0 → continue_page ws ≡ done (ended code.Continue [])
unfolding continue_page
continue_is [] h = refl
continue_is (a ∷ ws) h = absurd (omega arith)

pub continue_usage : (ws : List Text) → length ws ≢ 0 → continue_page ws ≡ usage (literal "continue")
unfolding continue_page
continue_usage [] h = absurd (h refl)
continue_usage (a ∷ ws) h = refl

-- ---- error

pub no_error_words : (ws : List Text) → length ws ≡ 0 → error_page ws ≡ usage (literal "error message ?errorInfo? ?errorCode?")
unfolding error_page
no_error_words [] h = refl
no_error_words (a ∷ ws) h = absurd (omega arith)

pub more_error_words : (ws : List Text) → 3 < length ws → error_page ws ≡ usage (literal "error message ?errorInfo? ?errorCode?")
unfolding error_page
more_error_words [] h = absurd (omega arith)
more_error_words (a ∷ []) h = absurd (omega arith)
more_error_words (a ∷ b ∷ []) h = absurd (omega arith)
more_error_words (a ∷ b ∷ c ∷ []) h = absurd (omega arith)
more_error_words (a ∷ b ∷ c ∷ e ∷ ws) h = refl

pub error_is : (ws : List Text) → length ws ≢ 0 → length ws ≤ 3 → error_page ws ≡ done (record (failure (word ws 0)) { options = options_given ws })
unfolding error_page
error_is [] g h = absurd (g refl)
error_is (a ∷ []) g h = refl
error_is (a ∷ b ∷ []) g h = refl
error_is (a ∷ b ∷ c ∷ []) g h = refl
error_is (a ∷ b ∷ c ∷ e ∷ ws) g h = absurd (omega arith)

pub error_asks : (ws : List Text) (message : Text) (options : List (Text × Text)) (c : Completion) → length ws ≢ 0 → length ws ≤ 3
    → message ≡ word ws 0 → options ≡ options_given ws → c ≡ record (failure message) { options = options } → error_page ws ≡ done c
error_asks ws message options c g h e f i =
    error_is ws g h ∙ sym (ap done (i ∙ ap (λ z. record (failure z) { options = options }) e ∙ ap (λ z. record (failure (word ws 0)) { options = z }) f))

-- ---- catch

abbrev Asked : Type 0
Asked = Result (Step Scope Owes Loop) AllocError

pub no_catch_words : (ws : List Text) (r : Asked) → length ws ≡ 0 → IsAsked r (usage (literal "catch script ?resultVarName? ?optionVarName?")) → IsAsked r (catch_page ws)
unfolding catch_page
no_catch_words [] r h asked = asked
no_catch_words (a ∷ ws) r h asked = absurd (omega arith)

pub more_catch_words : (ws : List Text) (r : Asked) → 4 ≤ length ws → IsAsked r (usage (literal "catch script ?resultVarName? ?optionVarName?")) → IsAsked r (catch_page ws)
unfolding catch_page
more_catch_words [] r h asked = absurd (omega arith)
more_catch_words (a ∷ []) r h asked = absurd (omega arith)
more_catch_words (a ∷ b ∷ []) r h asked = absurd (omega arith)
more_catch_words (a ∷ b ∷ c ∷ []) r h asked = absurd (omega arith)
more_catch_words (a ∷ b ∷ c ∷ e ∷ ws) r h asked = asked
