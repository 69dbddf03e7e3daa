-- One run has one end.
use Rattle.std.proofs.Common.{◌≡◌, ℕ, zero, suc, ◌≤◌, List, [], ◌∷◌, sym, ◌∙◌, arith, ⊎_elim, refl}
use Rattle.std.specs.Prelude.{Bool, true, false, slice_get, if◌then◌else◌, ◌⊎◌}
use mathlib.Core.Logic.{inl, inr}
use Rattle.std.proofs.lemmas.Bool.{cases_lt}
use Rattle.tcl_chars.specs.declared.numbers.Dialect.{Dialect}
use Rattle.tcl_meaning.specs.declared.code.Code.{Code}
use Rattle.tcl_meaning.specs.declared.code.Code.TheVariants as code
use Rattle.tcl_meaning.specs.Completions.{Completion, code_now}
use Rattle.tcl_meaning.specs.State.{State}
use Rattle.tcl_meaning.specs.Effects.{Got, Gives, Broke, Exits, Untold, exec}
use Rattle.tcl_meaning.specs.Pages.{invoked}
use Rattle.tcl_meaning.specs.Script.{Run, page_in}
use Rattle.tcl_code.specs.Instructions.{Instruction}
use Rattle.tcl_code.specs.Machine.{Loop, result_at, Spot, Move, To, Fails, Ends, Calls, Wrong, Outcome, Ended, Unfinished, Next, thrown_by, landed_by, landed, follow, move, exec_code}

-- the first is not yet at its end, or the second has the same one
abbrev IsLonger : Outcome → Outcome → Type 0
IsLonger r s = (r ≡ Unfinished) ⊎ (r ≡ s)

abbrev Extends : Next → Next → Type 0
Extends f g = (p : Spot) (s : State) → IsLonger (f p s) (g p s)

longer_if : (b : Bool) {r s r' s' : Outcome} → IsLonger r s → IsLonger r' s' → IsLonger (if b then r else r') (if b then s else s')
longer_if true h k = h
longer_if false h k = k

thrown_extends : (f g : Next) → Extends f g → (os : List Loop) (k : Code) (c : Completion) (s : State) → IsLonger (thrown_by f os k c s) (thrown_by g os k c s)
thrown_extends f g h [] k c s = inr refl
thrown_extends f g h (o ∷ os) code.Break c s = h _ s
thrown_extends f g h (o ∷ os) code.Continue c s = longer_if o.passes (thrown_extends f g h os code.Continue c s) (h _ s)
thrown_extends f g h (o ∷ os) code.Ok c s = inr refl
thrown_extends f g h (o ∷ os) code.Error c s = inr refl
thrown_extends f g h (o ∷ os) code.Return c s = inr refl
thrown_extends f g h (o ∷ os) (code.Other z) c s = inr refl

landed_by_extends : (f g : Next) → Extends f g → (os : List Loop) (to : Completion → Spot) (k : Code) (c : Completion) (s : State) → IsLonger (landed_by f os to k c s) (landed_by g os to k c s)
landed_by_extends f g h os to code.Ok c s = h _ s
landed_by_extends f g h os to code.Error c s = thrown_extends f g h os code.Error c s
landed_by_extends f g h os to code.Return c s = thrown_extends f g h os code.Return c s
landed_by_extends f g h os to code.Break c s = thrown_extends f g h os code.Break c s
landed_by_extends f g h os to code.Continue c s = thrown_extends f g h os code.Continue c s
landed_by_extends f g h os to (code.Other z) c s = thrown_extends f g h os (code.Other z) c s

landed_extends : (f g : Next) → Extends f g → (os : List Loop) (to : Completion → Spot) (o : Got Completion) → IsLonger (landed f os to o) (landed g os to o)
landed_extends f g h os to (Gives c s) = landed_by_extends f g h os to (code_now c) c s
landed_extends f g h os to (Broke r) = inr refl
landed_extends f g h os to (Exits n r) = inr refl
landed_extends f g h os to (Untold c) = inr refl

module _ (dialect : Dialect) where
  follow_extends : (f g : Next) → Extends f g → (os : List Loop) (m : Move) → IsLonger (follow dialect f os m) (follow dialect g os m)
  follow_extends f g h os (To p s) = h p s
  follow_extends f g h os (Fails c s) = thrown_extends f g h os (code_now c) c s
  follow_extends f g h os (Ends o) = inr refl
  follow_extends f g h os (Calls words p s) = landed_extends f g h os (result_at p.at p.stack p.depth) (exec (Run dialect) (page_in dialect p.depth (invoked dialect words)) s)
  follow_extends f g h os Wrong = inr refl

  longer : (code : List Instruction) (m n : ℕ) → m ≤ n → Extends (exec_code dialect code m) (exec_code dialect code n)
  longer code zero n le p s = inl refl
  longer code (suc m) zero le p s = absurd (omega arith)
  longer code (suc m) (suc n) le p s = follow_extends (exec_code dialect code m) (exec_code dialect code n) (longer code m n (omega arith)) p.stack.loops (move dialect (slice_get code p.at) p.at p.stack.texts p.stack.lists p.stack.results p.stack.loops p.depth s)

  -- two ends of one run are the same
  pub one_end : (code : List Instruction) (m n : ℕ) (p : Spot) (s : State) (r : Outcome) (o : Got Completion) → (r ≡ Unfinished → ⊥) → exec_code dialect code m p s ≡ r → exec_code dialect code n p s ≡ Ended o → r ≡ Ended o
  one_end code m n p s r o ne e f =
      ⊎_elim
      (λ lt. ⊎_elim (λ un. absurd (ne (sym e ∙ un))) (λ same. sym e ∙ same ∙ f) (longer code m n (omega arith) p s))
      (λ le. ⊎_elim (λ un. absurd (un_ended (sym un ∙ f))) (λ same. sym e ∙ sym same ∙ f) (longer code n m le p s))
      (cases_lt m n)
    where
      un_ended : Unfinished ≡ Ended o → ⊥
      un_ended q = cc
