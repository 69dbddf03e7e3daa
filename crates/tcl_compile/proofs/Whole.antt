-- A code that follows a script means it.
use Rattle.std.proofs.Common.{◌≡◌, ℕ, ◌+◌, ◌≤◌, Bool, true, List, [], ◌∷◌, ◌++◌, length, None, refl, sym, ap, ◌∙◌, subst, arith}
use Rattle.std.specs.Prelude.{slice_get}
use Rattle.std.proofs.lemmas.Option.{slice_get_past}
use Rattle.tcl_chars.specs.declared.numbers.Dialect.{Dialect}
use Rattle.tcl_pages.specs.Texts.{Text}
use Rattle.tcl_meaning.specs.declared.code.Code.{Code}
use Rattle.tcl_meaning.specs.declared.code.Code.TheVariants as ending
use Rattle.tcl_meaning.specs.Completions.{Completion, nothing, code_now}
use Rattle.tcl_meaning.specs.State.{State}
use Rattle.tcl_meaning.specs.Effects.{Got, Gives, Broke, Exits, Untold}
use Rattle.tcl_meaning.specs.Script.{Run, most_depth}
use Rattle.tcl_meaning.specs.Tasks.{Script}
use Rattle.tcl_code.specs.Instructions.{Instruction}
use Rattle.tcl_code.specs.Machine.{stack_of, result_at, spot, first_spot, Ended, Unfinished, Stuck, landed_by, act, exec_code}
use Rattle.tcl_code.specs.Means.{EndsAs, Means}
use Rattle.tcl_code.specs.Parts.{Fits, Lands}
use Rattle.tcl_code.specs.Valid.{Valid, bare}
use Rattle.tcl_code.proofs.Shapes.{valid}
use Rattle.tcl_code.proofs.Place.{has_all}
use Rattle.tcl_code.proofs.Ends.{one_end}
use Rattle.tcl_compile.specs.Fragments.{Follows, Grown}
use Rattle.tcl_compile.specs.Emitted.{ScriptCode}
use Rattle.tcl_compile.specs.Whiles.{HasTurns, ScriptMade}
use Rattle.tcl_compile.proofs.Failing.{landed_stops}

module _ (dialect : Dialect) (code : List Instruction) where
  abbrev Comes : ℕ → State → Got Completion → Type 0
  Comes d s o = (k : ℕ) × (exec_code dialect code k (first_spot d) s ≡ Ended o)

  -- what lands at the end of the code ends it
  comes : (d : ℕ) (s : State) (g : Got Completion) → Lands dialect code [] (first_spot d) s (result_at (0 + length code) (stack_of [] [] [] []) d) g → Comes d s g
  comes d s (Gives c u) l = by_code (code_now c) refl
    where
      end : slice_get code (0 + length code) ≡ None
      end = slice_get_past code (0 + length code) (omega arith)

      stop : (code_now c ≡ ending.Ok → ⊥) → Comes d s (Gives c u)
      stop h = let a = l.by 0 in (a.0, a.2 ∙ landed_stops (exec_code dialect code 0) [] (result_at (0 + length code) (stack_of [] [] [] []) d) (code_now c) c u h)

      by_code : (k : Code) → code_now c ≡ k → Comes d s (Gives c u)
      by_code ending.Ok e =
          let a = l.by 1 in (
            a.0,
            a.2 ∙ ap (λ m. landed_by (exec_code dialect code 1) [] (result_at (0 + length code) (stack_of [] [] [] []) d) m c u) e ∙ ap (λ i. act dialect i (exec_code dialect code 0) (spot (0 + length code) (stack_of [] [] (c ∷ []) []) d) u) end,
          )
      by_code ending.Error e = stop (λ q. cc)
      by_code ending.Return e = stop (λ q. cc)
      by_code ending.Break e = stop (λ q. cc)
      by_code ending.Continue e = stop (λ q. cc)
      by_code (ending.Other z) e = stop (λ q. cc)
  comes d s (Broke u) l = let a = l.by 0 in (a.0, a.2)
  comes d s (Exits n u) l = let a = l.by 0 in (a.0, a.2)
  comes d s (Untold u) l = let a = l.by 0 in (a.0, a.2)

  -- a code that fits, and lands at its end as is meant, from every state
  pub ends_as : (meant : ℕ → State → Got Completion) → Fits code bare bare → ((d : ℕ) (s : State) → d ≤ most_depth → Lands dialect code [] (first_spot d) s (result_at (0 + length code) (stack_of [] [] [] []) d) (meant d s)) → EndsAs dialect code meant
  ends_as meant fits lands = record {
    ends = λ d s o le. (
      (λ e. let a = comes d s (meant d s) (lands d s le) in out_same _ _ (sym (one_end dialect code e.0 a.0 (first_spot d) s (Ended o) _ (λ q. ended_un o q) e.1 a.1))),
      (λ e. let a = comes d s (meant d s) (lands d s le) in (a.0, a.1 ∙ ap Ended e)),
    );
    never_stuck = λ d s k le e. let a = comes d s (meant d s) (lands d s le) in stuck_ended _ (one_end dialect code k a.0 (first_spot d) s Stuck _ (λ q. stuck_un q) e a.1);
    valid = valid code fits;
  }
    where
      ended_un : (o : Got Completion) → Ended o ≡ Unfinished → ⊥
      ended_un o q = cc

      stuck_un : Stuck ≡ Unfinished → ⊥
      stuck_un q = cc

      out_same : (o p : Got Completion) → Ended o ≡ Ended p → o ≡ p
      out_same o p q = cc

      stuck_ended : (o : Got Completion) → Stuck ≡ Ended o → ⊥
      stuck_ended o q = cc

  -- a code that follows a script means it
  pub means : (t : Text) → Follows dialect code t → Means dialect code t
  means t f = ends_as (λ d s. Run dialect (Script d nothing t) s) (f.keeps 0 0 0 0 0) (λ d s le. f.from code 0 nothing (stack_of [] [] [] []) d s refl le (has_all code []))

-- what was emitted for a script, from nothing, is valid, and means it
pub emitted_valid : (dialect : Dialect) (c0 c1 : List Instruction) (t : Text) → c0 ≡ [] → Grown (ScriptCode dialect t) c0 c1 → Valid c1
emitted_valid dialect c0 c1 t e0 g = valid c1 (subst (λ c. Fits c bare bare) (sym (g.1 ∙ ap (λ x. x ++ g.0) e0)) (g.2.keeps 0 0 0 0 0))

pub emitted_means : (dialect : Dialect) (c0 c1 : List Instruction) (t : Text) → c0 ≡ [] → Grown (ScriptCode dialect t) c0 c1 → Means dialect c1 t
emitted_means dialect c0 c1 t e0 g = subst (λ c. Means dialect c t) (sym (g.1 ∙ ap (λ x. x ++ g.0) e0)) (means dialect g.0 t g.2)

-- and has a turn for each loop, if the script is the whole
pub emitted_turns : (dialect : Dialect) (outermost : Bool) (c0 c1 : List Instruction) (t : Text) → outermost ≡ true → c0 ≡ [] → Grown (ScriptMade dialect outermost t) c0 c1 → HasTurns t c1
emitted_turns dialect outermost c0 c1 t o e0 g = subst (HasTurns t) (sym (g.1 ∙ ap (λ x. x ++ g.0) e0)) (g.2.1 o)
