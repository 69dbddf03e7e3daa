-- Conditions, inlined.
use Rattle.std.proofs.Common.{◌≡◌, ℕ, suc, ◌+◌, ◌<◌, ◌≤◌, Bool, true, false, List, [], ◌∷◌, ◌++◌, length, Option, Some, Result, Ok, Err, refl, sym, ap, ◌∙◌, subst, arith, length-append, cond, ⊎_elim}
use Rattle.std.specs.Prelude.{slice_get}
use Rattle.std.proofs.lemmas.Bool.{cases_lt, lt-ltb, le-ltb}
use Rattle.tcl_chars.specs.declared.numbers.Dialect.{Dialect}
use Rattle.tcl_chars.specs.Messages.{truth_value}
use Rattle.tcl_pages.specs.Answers.{Answer}
use Rattle.tcl_pages.specs.Texts.{Text}
use Rattle.tcl_meaning.specs.declared.code.Code.{Code}
use Rattle.tcl_meaning.specs.declared.code.Code.TheVariants as ending
use Rattle.tcl_meaning.specs.Asking.{Asks, answered, done, ask}
use Rattle.tcl_meaning.specs.Completions.{Completion, normal, nothing, failure, too_deep, code_now}
use Rattle.tcl_meaning.specs.Control.{if_true, if_ok, ask_if, next_clause}
use Rattle.tcl_meaning.specs.State.{State}
use Rattle.tcl_meaning.specs.Effects.{Here, Got, Gives, Broke, Exits, Untold, on_got, exec}
use Rattle.tcl_meaning.specs.Expressions.{expression, is_same, tree_text, parsed_text}
use Rattle.tcl_meaning.specs.Pages.{owed}
use Rattle.tcl_meaning.specs.Script.{Run, most_depth}
use Rattle.tcl_meaning.specs.Substitution.{inside}
use Rattle.tcl_meaning.specs.Tasks.{Script, Run as Runs_script, Evaluate, Owes, Nothing, IfTest}
use Rattle.tcl_meaning.specs.Value.{Value, Has, Fails, completed, judged, ◌>>=◌}
use Rattle.tcl_meaning.proofs.Runs.{exec_bind}
use Rattle.tcl_meaning.proofs.Reaching.{on_got_give, on_got_same}
use Rattle.tcl_meaning.proofs.ScriptRules.{script_deep}
use Rattle.tcl_code.specs.Instructions.{Instruction, Push, Answer as AnswerTop, Enter, Become, Skip, SkipWhen}
use Rattle.tcl_code.specs.Machine as M
use Rattle.tcl_code.specs.Machine.{Loop, Next, Stack, stack_of, with_text, with_result, text_at, result_at, Spot, spot, To, on_answer, landed, landed_by, thrown_by, spend, follow, act, behind_loop, exec_code, Ended}
use Rattle.tcl_code.specs.Parts.{HasAt, Fits, LandsValue, Lands, Does}
use Rattle.tcl_code.proofs.Place.{has_front, has_back}
use Rattle.tcl_code.proofs.Steps.{one_done, final_done, here_done, moved_done, same_done}
use Rattle.tcl_compile.specs.Fragments.{Follows}
use Rattle.tcl_compile.proofs.Failing.{FailsBadly, NeverOk, both_fail, judged_fails, landed_stops}
use Rattle.tcl_compile.proofs.Operators.{tree_fails}
use Rattle.tcl_code.proofs.Shapes.{fits_one, fits_joined}
use Rattle.tcl_code.specs.Valid.{Ahead, shape}
use Rattle.tcl_expr.specs.Expr.{Expr}
use Rattle.tcl_expr.specs.ExprFault.{ExprFault}
use Rattle.tcl_expr.specs.Machine.{expression_of}
use Rattle.tcl_expr.specs.Texts.{fault_text}
use Rattle.tcl_meaning.specs.Operators.{final_answer}
use Rattle.tcl_compile.proofs.Guarded.{further, fork, on_fits}
use Rattle.tcl_compile.specs.Inlining.{Makes, asking}

-- the completion of a body as that of the command
abbrev pub body_code : List Instruction → List Instruction
body_code b = Enter ∷ (b ++ Become ∷ [])

-- a condition, and what follows where it holds and where it doesn't
abbrev pub clause_code : List Instruction → List Instruction → List Instruction → List Instruction
clause_code t e g = t ++ fork (SkipWhen false (length e + 1)) e g

module _ (dialect : Dialect) where
  -- ---- a condition

  abbrev judging : Answer Bool → Asks → Asks → Asks
  judging a go stay = judged a >>= λ b. ask_if b go stay

  pub ok_stops : (d n : ℕ) (go : Asks) (k : Code) (c : Completion) (u : State) → (k ≡ ending.Ok → ⊥) → exec (Run dialect) (asking dialect n (if_ok k c go) d) u ≡ Gives c u
  unfolding answered
  ok_stops d n go ending.Ok c u h = absurd (h refl)
  ok_stops d n go ending.Error c u h = refl
  ok_stops d n go ending.Return c u h = refl
  ok_stops d n go ending.Break c u h = refl
  ok_stops d n go ending.Continue c u h = refl
  ok_stops d n go (ending.Other z) c u h = refl

  pub test_stops : (d n : ℕ) (go stay : Asks) (c : Completion) (u : State) → (code_now c ≡ ending.Ok → ⊥) → exec (Run dialect) (asking dialect n (if_true dialect c go stay) d) u ≡ Gives c u
  test_stops d n go stay c u h = ok_stops d n (judging (truth_value dialect c.result) go stay) (code_now c) c u h

  -- the text of a condition is there: on where it is true, past so many where it isn't
  module _ (code : List Instruction) {r : Completion → Spot} (at n m d : ℕ) (stack : Stack) (go stay : Asks) (h : slice_get code at ≡ Some (SkipWhen false n)) where
    pub forks : (t : Text) (u : State) → Lands dialect code stack.loops (spot (at + 1) stack d) u r (exec (Run dialect) (asking dialect m go d) u) → Lands dialect code stack.loops (spot (at + 1 + n) stack d) u r (exec (Run dialect) (asking dialect m stay d) u)
        → Lands dialect code stack.loops (text_at at stack d t) u r (exec (Run dialect) (asking dialect m (if_true dialect (normal t) go stay) d) u)
    unfolding answered
    forks t u x y = by_truth (truth_value dialect t) refl
      where
        by_truth : (a : Answer Bool) → truth_value dialect t ≡ a → Lands dialect code stack.loops (text_at at stack d t) u r (exec (Run dialect) (asking dialect m (judging (truth_value dialect t) go stay) d) u)
        by_truth (Ok true) e =
            one_done dialect code (SkipWhen false n) h (ap (λ z. on_answer z (λ holds. spot (cond (is_same holds false) (at + 1 + n) (at + 1)) stack d) u) e)
            (same_done dialect code (sym (ap (λ z. exec (Run dialect) (asking dialect m (judging z go stay) d) u) e)) x)
        by_truth (Ok false) e =
            one_done dialect code (SkipWhen false n) h (ap (λ z. on_answer z (λ holds. spot (cond (is_same holds false) (at + 1 + n) (at + 1)) stack d) u) e)
            (same_done dialect code (sym (ap (λ z. exec (Run dialect) (asking dialect m (judging z go stay) d) u) e)) y)
        by_truth (Err message) e =
            final_done dialect code (SkipWhen false n) h
            (λ next. ap (λ z. follow dialect next stack.loops (on_answer z (λ holds. spot (cond (is_same holds false) (at + 1 + n) (at + 1)) stack d) u)) e
            ∙ ap (λ z. landed next stack.loops r (exec (Run dialect) (asking dialect m (judging z go stay) d) u)) (sym e))

  -- an expression's value, as a completion, and what follows it
  module _ (code : List Instruction) {os : List Loop} {r : Completion → Spot} (A : Completion → State → Got Completion) (bad : (c : Completion) (u : State) → (code_now c ≡ ending.Ok → ⊥) → A c u ≡ Gives c u) where
    pub tested : {p : Spot} {s : State} {q : Text → Spot} (g : Got (Value Text)) → FailsBadly g → LandsValue dialect code os p s q g → ((t : Text) (u : State) → g ≡ Gives (Has t) u → Lands dialect code os (q t) u r (A (normal t) u)) → Lands dialect code os p s r (on_got g (λ v u. A (completed v) u))
    tested (Gives (Has t) u) h l n = record { by = λ k. let b = (n t u refl).by k in let a = l.by b.0 in (a.0, omega (arith, a.1, b.1), a.2 ∙ b.2) }
    tested (Gives (Fails c) u) h l n = record {
      by = λ k.
          let a = l.by k in
          (a.0, a.1, a.2 ∙ sym (landed_stops (exec_code dialect code k) os r (code_now c) c u h) ∙ ap (landed (exec_code dialect code k) os r) (sym (bad c u h)));
    }
    tested (Broke u) h l n = record { by = l.by }
    tested (Exits m u) h l n = record { by = l.by }
    tested (Untold c) h l n = record { by = l.by }

  pub expression_fails : (d : ℕ) (t : Text) → NeverOk dialect (expression dialect d t)
  unfolding expression
  expression_fails d t = parsed_fails (expression_of dialect t)
    where
      parsed_fails : (x : Result Expr ExprFault) → NeverOk dialect (parsed_text dialect d x)
      parsed_fails (Ok e) = both_fail dialect (tree_text dialect d e) _ (tree_fails dialect d e) (λ v. judged_fails dialect (final_answer dialect v))
      parsed_fails (Err f) = record { fails = λ s z. fails_by (fault_text f) z }
        where
          fails_by : (m : Text) → code_now (failure m) ≡ ending.Ok → ⊥
          fails_by m z = cc

  pub evaluated_is : (n d : ℕ) (test : Text) (owes : Owes) (s : State) → exec (Run dialect) (answered dialect (owed dialect) d (suc n) (Evaluate test owes)) s ≡ on_got (exec (Run dialect) (expression dialect d test) s) (λ v u. exec (Run dialect) (asking dialect n (owed dialect owes (completed v)) d) u)
  unfolding answered
  evaluated_is n d test owes s = exec_bind (Run dialect) (expression dialect d test) (λ v. asking dialect n (owed dialect owes (completed v)) d) s

  pub condition_is : (n : ℕ) (test : Text) (owes : Owes) (go stay : Asks) → ((c : Completion) → owed dialect owes c ≡ if_true dialect c go stay) → (d : ℕ) (s : State)
      → exec (Run dialect) (asking dialect (suc n) (ask (Evaluate test owes)) d) s ≡ on_got (exec (Run dialect) (expression dialect d test) s) (λ v u. exec (Run dialect) (asking dialect n (if_true dialect (completed v) go stay) d) u)
  condition_is n test owes go stay owe d s =
      evaluated_is n d test owes s
      ∙ on_got_same (exec (Run dialect) (expression dialect d test) s) (λ v u. exec (Run dialect) (asking dialect n (owed dialect owes (completed v)) d) u) (λ v u. exec (Run dialect) (asking dialect n (if_true dialect (completed v) go stay) d) u) (λ v u. ap (λ pg. exec (Run dialect) (asking dialect n pg d) u) (owe (completed v)))

  -- ---- a body, one deeper

  pub ran_is : (n d : ℕ) (body : Text) (owes : Owes) (s : State) → exec (Run dialect) (answered dialect (owed dialect) d (suc n) (Runs_script Here body owes)) s ≡ on_got (Run dialect (inside d body) s) (λ c u. exec (Run dialect) (asking dialect n (owed dialect owes c) d) u)
  unfolding answered
  ran_is n d body owes s = refl

  pub ran_deeper : (n d : ℕ) (body : Text) (owes : Owes) (s : State) → exec (Run dialect) (answered dialect (owed dialect) d (suc n) (Runs_script Here body owes)) s ≡ on_got (Run dialect (Script (suc d) nothing body) s) (λ c u. exec (Run dialect) (asking dialect n (owed dialect owes c) d) u)
  ran_deeper n d body owes s =
      let e : d + 1 ≡ suc d = omega arith in
      ran_is n d body owes s ∙ ap (λ m. on_got (Run dialect (Script m nothing body) s) (λ c u. exec (Run dialect) (asking dialect n (owed dialect owes c) d) u)) e

  pub body_is : (n d : ℕ) (body : Text) (s : State) → exec (Run dialect) (asking dialect (suc n) (ask (Runs_script Here body Nothing)) d) s ≡ Run dialect (Script (suc d) nothing body) s
  unfolding answered owed
  body_is n d body s = ran_deeper n d body Nothing s ∙ on_got_give (Run dialect (Script (suc d) nothing body) s)

  pub body_makes : (n : ℕ) (body : Text) (b : List Instruction) → Follows dialect b body → Makes dialect (body_code b) (asking dialect (suc n) (ask (Runs_script Here body Nothing)))
  body_makes n body b f = record { from = λ code at last stack d s has. same_done dialect code (sym (body_is n d body s)) (⊎_elim (deep code at last stack d s has) (shallow code at last stack d s has) (cases_lt most_depth (suc d))); keeps = fits }
    where
      fits : (h l d p o : ℕ) → Fits (body_code b) (shape h l d p o) (shape h l d p o)
      fits h l d p o =
          fits_joined (Enter ∷ []) (b ++ Become ∷ []) (shape h l d p o) (shape h l (d + 1) p o) (shape h l d p o)
          (fits_one Enter (shape h l d p o) (shape h l (d + 1) p o) _ tt refl refl)
          (fits_joined b (Become ∷ []) (shape h l (d + 1) p o) (shape h l (d + 1) p o) (shape h l d p o) (f.keeps h l (d + 1) p o)
          (fits_one Become (shape h l (d + 1) p o) (shape h l d p o) _ (omega arith) refl (ap (λ n. shape h l n p o) (omega arith))))

      deep : (code : List Instruction) (at : ℕ) (last : Completion) (stack : Stack) (d : ℕ) (s : State) → HasAt code at (body_code b) → most_depth < suc d → Lands dialect code stack.loops (spot at (with_result last stack) d) s (result_at (at + length (body_code b)) stack d) (Run dialect (Script (suc d) nothing body) s)
      deep code at last stack d s has lt =
          let e = script_deep dialect (suc d) nothing body s lt in
          final_done dialect code Enter has.0 (λ next. ap (λ z. follow dialect next stack.loops (cond z (M.Fails too_deep s) (To (spot (at + 1) (with_result nothing (with_result last stack)) (suc d)) s))) (lt-ltb most_depth (suc d) lt)
          ∙ ap (landed next stack.loops (result_at (at + length (body_code b)) stack d)) (sym e))

      shallow : (code : List Instruction) (at : ℕ) (last : Completion) (stack : Stack) (d : ℕ) (s : State) → HasAt code at (body_code b) → suc d ≤ most_depth → Lands dialect code stack.loops (spot at (with_result last stack) d) s (result_at (at + length (body_code b)) stack d) (Run dialect (Script (suc d) nothing body) s)
      shallow code at last stack d s has le =
          let back = has_back code (at + 1) b (Become ∷ []) has.1 in
          one_done dialect code Enter has.0 (ap (λ z. cond z (M.Fails too_deep s) (To (spot (at + 1) (with_result nothing (with_result last stack)) (suc d)) s)) (le-ltb most_depth (suc d) le))
          (further dialect code (Run dialect (Script (suc d) nothing body) s) (f.from code (at + 1) nothing (with_result last stack) (suc d) s refl le (has_front code (at + 1) b (Become ∷ []) has.1))
          (λ c u fine. one_done dialect code Become back.0 refl (here_done dialect code (omega (arith, length-append b (Become ∷ []))) fine)))

  -- ---- if

  pub clause_makes : (n : ℕ) (test : Text) (owes : Owes) (go stay : Asks) (t e g : List Instruction) → ((c : Completion) → owed dialect owes c ≡ if_true dialect c go stay) → Does dialect t (λ d. expression dialect d test) → Makes dialect e (asking dialect n go) → Makes dialect g (asking dialect n stay) → Makes dialect (clause_code t e g) (asking dialect (suc n) (ask (Evaluate test owes)))
  clause_makes n test owes go stay t e g owe x y z = record {
    from = λ code at last stack d s has.
        let back = has_back code at t (fork (SkipWhen false (length e + 1)) e g) has in
        let rest = has_back code (at + length t + 1) e (Skip (length g) ∷ g) back.1 in
        let m : at + length t + 1 + length e + 1 ≡ at + length t + 1 + (length e + 1) = omega arith in
        let whole = length-append t (fork (SkipWhen false (length e + 1)) e g) in
        let inner = length-append e (Skip (length g) ∷ g) in
        same_done dialect code (sym (condition_is n test owes go stay owe d s))
        (tested code (λ c u. exec (Run dialect) (asking dialect n (if_true dialect c go stay) d) u) (λ c u h. test_stops d n go stay c u h) (exec (Run dialect) (expression dialect d test) s) ((expression_fails d test).fails s)
        (x.from code at (with_result last stack) d s (has_front code at t (fork (SkipWhen false (length e + 1)) e g) has))
        (λ v u k. forks code (at + length t) (length e + 1) n d (with_result last stack) go stay back.0 v u
        (further dialect code (exec (Run dialect) (asking dialect n go d) u) (y.from code (at + length t + 1) last stack d u (has_front code (at + length t + 1) e (Skip (length g) ∷ g) back.1))
        (λ c w fine. one_done dialect code (Skip (length g)) rest.0 refl (here_done dialect code (omega (arith, whole, inner)) fine)))
        (moved_done dialect code (omega (arith, whole, inner)) (z.from code (at + length t + 1 + (length e + 1)) last stack d u (subst (λ j. HasAt code j g) m rest.1)))));
    keeps = λ h l d p o.
        fits_joined t (fork (SkipWhen false (length e + 1)) e g) (shape h l d p o) (shape (h + 1) l d p o) (shape h l d p o) (x.adds h l d p o)
        (on_fits (SkipWhen false (length e + 1)) e g (shape (h + 1) l d p o) (shape h l d p o) (shape h l d p o) (shape h l d p o) (y.keeps h l d p o) (z.keeps h l d p o) (omega arith)
        (ap (λ i. (Ahead 0, shape i l d p o) ∷ (Ahead (length e + 1), shape i l d p o) ∷ []) (omega arith)));
  }

  pub if_owes : (body : Text) (cs : List (Text × Text)) (o : Option Text) (c : Completion) → owed dialect (IfTest body (record { clauses = cs; otherwise = o })) c ≡ if_true dialect c (ask (Runs_script Here body Nothing)) (next_clause cs o)
  unfolding owed
  if_owes body cs o c = refl

  -- no body is run
  pub none_makes : (n : ℕ) → Makes dialect (Push [] ∷ AnswerTop ∷ []) (asking dialect n (done nothing))
  unfolding answered
  none_makes n = record {
    from = λ code at last stack d s has. one_done dialect code (Push []) has.0 refl (one_done dialect code AnswerTop has.1.0 refl (here_done dialect code (omega arith) refl));
    keeps = λ h l d p o. fits_joined (Push [] ∷ []) (AnswerTop ∷ []) (shape h l d p o) (shape (h + 1) l d p o) (shape h l d p o) (fits_one (Push []) (shape h l d p o) (shape (h + 1) l d p o) _ tt refl (ap (λ n. shape n l d p o) (omega arith))) (fits_one AnswerTop (shape (h + 1) l d p o) (shape h l d p o) _ (omega arith) refl (ap (λ n. shape n l d p o) (omega arith)));
  }
