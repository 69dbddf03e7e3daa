-- Lambdas that are applied: apply(n).
use Rattle.std.proofs.Common.{◌≡◌, List, [], ◌∷◌, length, Some, Ok, Err, Result, refl, sym, ap, subst, ◌∙◌, arith}
use Rattle.std.specs.declared.alloc.AllocError.{AllocError}
use Rattle.tcl_chars.specs.Texts.{literal}
use Rattle.tcl_steps.specs.Asked.{IsAsked, at_once}
use Rattle.tcl_list.specs.Elements.{elements_of}
use Rattle.tcl_meaning.specs.Asking.{Asks, usage}
use Rattle.tcl_meaning.specs.Completions.{failure}
use Rattle.tcl_meaning.specs.ProcedurePages.{apply_page, call_procedure, lambda_of}
use Rattle.tcl_meaning.specs.Procedures.{procedure_of}
use Rattle.tcl_meaning.specs.State.{Procedure}
use Rattle.tcl_meaning.specs.Tasks.{Done}
use Rattle.tcl_meaning.specs.Value.{◌>>=◌, judged}
use Rattle.tcl_pages.specs.Answers.{Answer, ◌>>=◌ as answered}
use Rattle.tcl_pages.specs.Texts.{Text}
use Rattle.tcl_procs.specs.Lambdas.{lambda_procedure}
use Rattle.tcl_steps.specs.declared.step.Step.{Step}
use Rattle.tcl_steps.specs.declared.step.Scope.{Scope}
use Rattle.tcl_steps.specs.declared.step.Owes.{Owes}
use Rattle.tcl_steps.specs.declared.step.Loop.{Loop}

-- what is asked for once the lambda is read
abbrev called_by : Answer Procedure → List Text → Asks
called_by answer ws = do
  p ← judged answer
  call_procedure (literal "apply lambdaExpr") p ws

read_at_once : {A B : Type 0} (a : Answer A) (f : A → Answer B) (k : B → Asks) → (judged a >>= λ x. judged (f x) >>= k) ≡ (judged (answered a f) >>= k)
read_at_once (Ok x) f k = refl
read_at_once (Err m) f k = refl

apply_is : (t : Text) (ws : List Text) → apply_page (t ∷ ws) ≡ called_by (lambda_procedure t) ws
unfolding apply_page
apply_is t ws = read_at_once (lambda_of t (elements_of t)) (λ parts. procedure_of parts.0 parts.1) (λ p. call_procedure (literal "apply lambdaExpr") p ws)

pub apply_calls : (t : Text) (ws : List Text) (p : Procedure) (r : Result (Step Scope Owes Loop) AllocError) → lambda_procedure t ≡ Ok p → IsAsked r (call_procedure (literal "apply lambdaExpr") p ws) → IsAsked r (apply_page (t ∷ ws))
apply_calls t ws p r e h = subst (IsAsked r) (sym (apply_is t ws ∙ ap (λ a. called_by a ws) e)) h

pub apply_refused : (t : Text) (ws : List Text) (m : Text) → lambda_procedure t ≡ Err m → at_once (apply_page (t ∷ ws)) ≡ Some (Done (failure m))
apply_refused t ws m e = ap at_once (apply_is t ws ∙ ap (λ a. called_by a ws) e)

pub apply_usage : (ws : List Text) → length ws ≡ 0 → apply_page ws ≡ usage (literal "apply lambdaExpr ?arg ...?")
unfolding apply_page
apply_usage [] h = refl
apply_usage (w ∷ ws) h = absurd (omega arith)
