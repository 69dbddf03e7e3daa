-- What follows a condition, and a completion.
use Rattle.std.proofs.Common.{◌≡◌, ◌≢◌, true, false, Some, ap, ◌∙◌, refl}
use Rattle.tcl_steps.specs.Asked.{at_once}
use Rattle.tcl_control.specs.Conditions.{by_test}
use Rattle.tcl_control.specs.declared.conditions.Condition.{Condition}
use Rattle.tcl_control.specs.declared.conditions.Condition.TheVariants as condition
use Rattle.tcl_meaning.specs.Asking.{Asks}
use Rattle.tcl_meaning.specs.Completions.{Completion}
use Rattle.tcl_meaning.specs.Control.{if_ok}
use Rattle.tcl_meaning.specs.declared.code.Code.{Code}
use Rattle.tcl_meaning.specs.declared.code.Code.TheVariants as code
use Rattle.tcl_meaning.specs.Tasks.{Done}

pub test_ends : (asks : Asks) (t : Condition) (go stay : Asks) (c : Completion) → asks ≡ by_test t go stay → t ≡ condition.Ends c → at_once asks ≡ Some (Done c)
test_ends asks t go stay c e f = ap at_once (e ∙ ap (λ t. by_test t go stay) f)

pub test_holds : (asks : Asks) (t : Condition) (go stay : Asks) → asks ≡ by_test t go stay → t ≡ condition.Holds true → asks ≡ go
test_holds asks t go stay e f = e ∙ ap (λ t. by_test t go stay) f

pub test_fails : (asks : Asks) (t : Condition) (go stay : Asks) → asks ≡ by_test t go stay → t ≡ condition.Holds false → asks ≡ stay
test_fails asks t go stay e f = e ∙ ap (λ t. by_test t go stay) f

pub not_ok : (k : Code) (c : Completion) (go : Asks) → k ≢ code.Ok → at_once (if_ok k c go) ≡ Some (Done c)
not_ok code.Ok c go h = absurd (h refl)
not_ok code.Error c go h = refl
not_ok code.Return c go h = refl
not_ok code.Break c go h = refl
not_ok code.Continue c go h = refl
not_ok (code.Other z) c go h = refl
