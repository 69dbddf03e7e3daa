-- What is owed, by the command that owes it.
use Rattle.std.proofs.Common.{◌≡◌, Result, None, Some, Global, sym, subst}
use Rattle.std.specs.Prelude.{Box}
use Rattle.std.specs.declared.alloc.AllocError.{AllocError}
use Rattle.tcl_chars.specs.declared.numbers.Dialect.{Dialect}
use Rattle.tcl_steps.specs.Asked.{IsAsked}
use Rattle.tcl_frames.specs.Standing.{Standing}
use Rattle.tcl_meaning.specs.Completions.{Completion, code_now}
use Rattle.tcl_meaning.specs.Control.{after_if_test, after_while_body, after_for_start, after_for_body, after_for_next}
use Rattle.tcl_meaning.specs.Pages.{owed}
use Rattle.tcl_meaning.specs.Trying.{finish, after_finally}
use Rattle.tcl_pages.specs.Texts.{Text}
use Rattle.tcl_steps.specs.Views.{owes_of, others_of}
use Rattle.tcl_steps.specs.declared.step.ForLoop.{ForLoop}
use Rattle.tcl_steps.specs.declared.step.IfTest.{IfTest}
use Rattle.tcl_steps.specs.declared.step.WhileLoop.{WhileLoop}
use Rattle.tcl_steps.specs.declared.step.Step.{Step}
use Rattle.tcl_steps.specs.declared.step.Scope.{Scope}
use Rattle.tcl_steps.specs.declared.step.Owes.{Owes}
use Rattle.tcl_steps.specs.declared.step.Owes.TheVariants as owes
use Rattle.tcl_steps.specs.declared.step.Loop.{Loop}
use Rattle.tcl_steps.specs.Ends.{DoesAsk}
use Rattle.tcl_steps.proofs.AskLemmas.{asks_over}

abbrev Asked : Type 0
Asked = Result (Step Scope Owes Loop) AllocError

module _ (dialect : Dialect) (o : Owes) (c : Completion) (r : Asked) (f : Standing) where
  owed_by : (p : Owes) → o ≡ p → IsAsked r (owed dialect (owes_of p) c) → DoesAsk (owed dialect (owes_of o) c) f r f
  owed_by p is asks = subst (λ x. DoesAsk (owed dialect (owes_of x) c) f r f) (sym is) (asks_over r (owed dialect (owes_of p) c) f asks)

  pub if_test : (test : Box IfTest Global) → o ≡ owes.IfTest test → IsAsked r (after_if_test dialect test.value.body (others_of test.value.others) c) → DoesAsk (owed dialect (owes_of o) c) f r f
  unfolding owed
  if_test test is asks = owed_by (owes.IfTest test) is asks

  pub while_body : (w : Box WhileLoop Global) → o ≡ owes.WhileBody w → IsAsked r (after_while_body dialect w.value.test w.value.body c) → DoesAsk (owed dialect (owes_of o) c) f r f
  unfolding owed
  while_body w is asks = owed_by (owes.WhileBody w) is asks

  pub for_start : (t : Box ForLoop Global) → o ≡ owes.ForStart t → IsAsked r (after_for_start dialect t.value.test t.value.next t.value.body c) → DoesAsk (owed dialect (owes_of o) c) f r f
  unfolding owed
  for_start t is asks = owed_by (owes.ForStart t) is asks

  pub for_body : (t : Box ForLoop Global) → o ≡ owes.ForBody t → IsAsked r (after_for_body dialect t.value.test t.value.next t.value.body c) → DoesAsk (owed dialect (owes_of o) c) f r f
  unfolding owed
  for_body t is asks = owed_by (owes.ForBody t) is asks

  pub for_next : (t : Box ForLoop Global) → o ≡ owes.ForNext t → IsAsked r (after_for_next dialect t.value.test t.value.next t.value.body (code_now c) c) → DoesAsk (owed dialect (owes_of o) c) f r f
  unfolding owed
  for_next t is asks = owed_by (owes.ForNext t) is asks

  pub handled : o ≡ owes.Handled → IsAsked r (finish None c) → DoesAsk (owed dialect (owes_of o) c) f r f
  unfolding owed
  handled is asks = owed_by owes.Handled is asks

  pub handling : (finally : Text) → o ≡ owes.Handling finally → IsAsked r (finish (Some finally) c) → DoesAsk (owed dialect (owes_of o) c) f r f
  unfolding owed
  handling finally is asks = owed_by (owes.Handling finally) is asks

  pub finishing : (before : Box Completion Global) → o ≡ owes.Finishing before → IsAsked r (after_finally before.value (code_now c) c) → DoesAsk (owed dialect (owes_of o) c) f r f
  unfolding owed
  finishing before is asks = owed_by (owes.Finishing before) is asks
