-- The rules by which an evaluator goes: what a page does, what it asks for, and what it owes.
use Rattle.std.proofs.Common.{◌≡◌, ℕ, ap, ◌∙◌}
use Rattle.tcl_chars.specs.declared.numbers.Dialect.{Dialect}
use Rattle.tcl_pages.specs.Texts.{Text}
use Rattle.tcl_meaning.specs.Completions.{Completion}
use Rattle.tcl_meaning.specs.State.{State}
use Rattle.tcl_meaning.specs.Effects.{Scope, plainly, Got, on_got, entered, returned, exec, does, paid}
use Rattle.tcl_meaning.specs.Value.{completed}
use Rattle.tcl_meaning.specs.Tasks.{Task, Turn, Step, Done, Evaluate, Pay, Owes, Loop}
use Rattle.tcl_meaning.specs.Tasks as tasks
use Rattle.tcl_meaning.specs.Substitution.{inside}
use Rattle.tcl_meaning.specs.Expressions.{expression}
use Rattle.tcl_meaning.specs.Asking.{Asks, value_step, all_answered, asked}
use Rattle.tcl_meaning.specs.Control.{turned}
use Rattle.tcl_meaning.specs.Pages.{owed}
use Rattle.tcl_meaning.specs.Script.{Run, plan, page_in}
use Rattle.tcl_meaning.proofs.Runs.{exec_bind, outcome_law}
use Rattle.tcl_meaning.proofs.Plain.{plainly_does}
use Rattle.tcl_meaning.proofs.Questions.{run_answered, expression_answered}

on_got_same : {A B : Type 0} {r q : Got A} (f : A → State → Got B) → r ≡ q → on_got r f ≡ on_got q f
on_got_same f e = ap (λ x. on_got x f) e

module _ (dialect : Dialect) (d : ℕ) where
  -- what is left when a page has come to a step
  pub step_run : Step → State → Got Completion
  step_run step s = exec (Run dialect) (all_answered dialect (owed dialect) d step) s

  -- a page does something, and then its step is made
  pub page_runs : (page : Asks) (s : State) → exec (Run dialect) (page_in dialect d page) s ≡ on_got (does page s) (λ v t. step_run (value_step v) t)
  unfolding step_run asked
  page_runs page s =
      exec_bind (Run dialect) (plainly page) (λ v. all_answered dialect (owed dialect) d (value_step v)) s
      ∙ on_got_same (λ v t. exec (Run dialect) (all_answered dialect (owed dialect) d (value_step v)) t) (plainly_does (Run dialect) page s)

  -- a script is run in its frame, and then the page does what it owes
  pub run_runs : (scope : Scope) (t : Text) (o : Owes) (s : State) → step_run (tasks.Run scope t o) s ≡ on_got (Run dialect (inside d t) (entered scope s)) (λ c after. exec (Run dialect) (page_in dialect d (owed dialect o c)) (returned scope s after))
  unfolding step_run
  run_runs scope t o s = ap (λ p. exec (Run dialect) p s) (run_answered dialect d scope t o)

  -- an expression is evaluated, and then the page does what it owes
  pub evaluate_runs : (t : Text) (o : Owes) (s : State) → step_run (Evaluate t o) s ≡ on_got (exec (Run dialect) (expression dialect d t) s) (λ v after. exec (Run dialect) (page_in dialect d (owed dialect o (completed v))) after)
  unfolding step_run
  evaluate_runs t o s = ap (λ p. exec (Run dialect) p s) (expression_answered dialect d t o) ∙ exec_bind (Run dialect) (expression dialect d t) (λ v. page_in dialect d (owed dialect o (completed v))) s

  -- a turn costs a unit and is made
  pub turn_runs : (loop : Loop) (s : State) → Run dialect (Turn d loop) s ≡ paid (Run dialect) (page_in dialect d (turned loop)) s s.units
  unfolding plan
  turn_runs loop s = outcome_law (plan dialect) (Turn d loop) s
