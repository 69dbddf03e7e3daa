-- What is caught goes on as the definition of the machine says.
use Rattle.std.proofs.Common.{◌≡◌, refl, sym, ap, ◌∙◌, List, [], ◌∷◌}
use Rattle.std.specs.Prelude.{Bool, true, false, if◌then◌else◌}
use Rattle.tcl_chars.specs.declared.numbers.Dialect.{Dialect}
use Rattle.tcl_meaning.specs.declared.code.Code.{Code}
use Rattle.tcl_meaning.specs.declared.code.Code.TheVariants as code
use Rattle.tcl_meaning.specs.Completions.{Completion, code_now}
use Rattle.tcl_meaning.specs.Effects.{Gives}
use Rattle.tcl_meaning.specs.State.{State}
use Rattle.tcl_code.specs.Caught.{caught, caught_by}
use Rattle.tcl_code.specs.Machine.{Loop, Move, To, Fails, Ends, Calls, Wrong, Outcome, Spot, Next, follow, landed, landed_by, on_code, thrown_by}

module _ (dialect : Dialect) (next : Next) where
  same_if : (b : Bool) (within : List Loop) (m : Move) (p : Spot) (s : State) {r : Outcome} → follow dialect next within m ≡ r → follow dialect next within (if b then m else To p s) ≡ (if b then r else next p s)
  same_if true within m p s e = e
  same_if false within m p s e = refl

  -- whatever loops the move is followed in
  thrown_caught : (within os : List Loop) (k : Code) (c : Completion) (s : State) → follow dialect next within (caught_by k os c s) ≡ thrown_by next os k c s
  thrown_caught within [] code.Ok c s = refl
  thrown_caught within [] code.Error c s = refl
  thrown_caught within [] code.Return c s = refl
  thrown_caught within [] code.Break c s = refl
  thrown_caught within [] code.Continue c s = refl
  thrown_caught within [] (code.Other n) c s = refl
  thrown_caught within (o ∷ os) code.Ok c s = refl
  thrown_caught within (o ∷ os) code.Error c s = refl
  thrown_caught within (o ∷ os) code.Return c s = refl
  thrown_caught within (o ∷ os) code.Break c s = refl
  thrown_caught within (o ∷ os) code.Continue c s = same_if o.passes within _ _ s (thrown_caught within os code.Continue c s)
  thrown_caught within (o ∷ os) (code.Other n) c s = refl

  -- a move that is caught leads to the same as the move
  pub follow_caught : (os : List Loop) (m : Move) → follow dialect next os (caught os m) ≡ follow dialect next os m
  follow_caught os (To p s) = refl
  follow_caught os (Fails c s) = thrown_caught os os (code_now c) c s
  follow_caught os (Ends got) = refl
  follow_caught os (Calls words p s) = refl
  follow_caught os Wrong = refl

  by_code : (os : List Loop) (k : Code) (c : Completion) (s : State) → code_now c ≡ k → follow dialect next os (caught os (Fails c s)) ≡ thrown_by next os k c s
  by_code os k c s is = ap (λ x. follow dialect next os (caught_by x os c s)) is ∙ thrown_caught os os k c s

  landed_by_caught : (os : List Loop) (to : Completion → Spot) (k : Code) (c : Completion) (s : State) → code_now c ≡ k → follow dialect next os (caught os (on_code k c to s)) ≡ landed_by next os to k c s
  landed_by_caught os to code.Ok c s is = refl
  landed_by_caught os to code.Error c s is = by_code os code.Error c s is
  landed_by_caught os to code.Return c s is = by_code os code.Return c s is
  landed_by_caught os to code.Break c s is = by_code os code.Break c s is
  landed_by_caught os to code.Continue c s is = by_code os code.Continue c s is
  landed_by_caught os to (code.Other n) c s is = by_code os (code.Other n) c s is

  -- a completion that comes to a spot is followed to where it lands
  pub landed_caught : (os : List Loop) (to : Completion → Spot) (c : Completion) (s : State) → landed next os to (Gives c s) ≡ follow dialect next os (caught os (on_code (code_now c) c to s))
  landed_caught os to c s = sym (landed_by_caught os to (code_now c) c s refl)
