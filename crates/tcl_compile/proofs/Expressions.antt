-- A code that ends as an expression does.
use Rattle.std.proofs.Common.{◌≡◌, ℕ, ◌+◌, ◌<◌, ◌≤◌, List, [], ◌∷◌, ◌++◌, length, Ok, Err, refl, sym, ap, ◌∙◌, subst, arith, length-append}
use Rattle.tcl_chars.specs.declared.numbers.Dialect.{Dialect}
use Rattle.tcl_expr.specs.Expr.{Expr, operand, group, call, unary, power, chain, choice}
use Rattle.tcl_expr.specs.ExprFault.{ExprFault}
use Rattle.tcl_expr.specs.Grammar.{spelled, IsTree}
use Rattle.tcl_expr.specs.Machine.{expression_of}
use Rattle.tcl_expr.specs.Texts.{fault_text}
use Rattle.tcl_expr.specs.Token.{Token}
use Rattle.tcl_expr.specs.Tokens.{tokens, tokens_at, tokens_from, next_token, operand_token}
use Rattle.tcl_pages.specs.Texts.{Text}
use Rattle.tcl_meaning.specs.Completions.{Completion, nothing, normal, failure}
use Rattle.tcl_meaning.specs.State.{State}
use Rattle.tcl_meaning.specs.Effects.{Gives, Prog, Give, exec, ◌>>=◌ as andthen}
use Rattle.tcl_meaning.specs.Expressions.{tree_text, parsed_text, expression}
use Rattle.tcl_meaning.specs.Script.{Run, most_depth}
use Rattle.tcl_meaning.specs.Tasks.{Task}
use Rattle.tcl_meaning.specs.Value.{Value, Has, Fails, completed, fail}
use Rattle.tcl_meaning.proofs.Runs.{exec_bind}
use Rattle.tcl_meaning.proofs.Reaching.{on_got_same}
use Rattle.tcl_code.specs.Instructions.{Instruction, Raise, Final, Answer}
use Rattle.tcl_code.specs.Machine as M
use Rattle.tcl_code.specs.Machine.{Loop, Next, Spot, follow, stack_of, with_result, text_at, result_at, spot, first_spot}
use Rattle.tcl_code.specs.Means.{MeansExpr, evaluated}
use Rattle.tcl_code.specs.Parts.{Fits, Lands, Does, value_landed}
use Rattle.tcl_code.specs.Valid.{shape, bare}
use Rattle.tcl_code.proofs.Shapes.{fits_one, fits_stop, fits_joined}
use Rattle.tcl_code.proofs.Place.{has_front, has_back, has_all}
use Rattle.tcl_code.proofs.Steps.{final, one_done, here_done, same_done}
use Rattle.tcl_compile.specs.Fragments.{Grown}
use Rattle.tcl_compile.specs.Trees.{TreeCode, ExpressionCode}
use Rattle.tcl_compile.proofs.Emits.{ext, join}
use Rattle.tcl_compile.proofs.Failing.{finishing, then_done}
use Rattle.tcl_compile.proofs.Conditions.{expression_fails}
use Rattle.tcl_compile.proofs.Operators.{final_does}
use Rattle.tcl_compile.proofs.Whole.{ends_as}

module _ (dialect : Dialect) where
  completed_is : (m : Prog Task (Value Text)) (s : State) → exec (Run dialect) (andthen m (finishing (λ t. Give (normal t)))) s ≡ exec (Run dialect) (andthen m (λ v. Give (completed v))) s
  completed_is m s =
      exec_bind (Run dialect) m (finishing (λ t. Give (normal t))) s
      ∙ on_got_same (exec (Run dialect) m s) (λ v u. exec (Run dialect) (finishing (λ t. Give (normal t)) v) u) (λ v u. exec (Run dialect) (Give (completed v)) u) go
      ∙ sym (exec_bind (Run dialect) m (λ v. Give (completed v)) s)
    where
      go : (v : Value Text) (u : State) → exec (Run dialect) (finishing (λ t. Give (normal t)) v) u ≡ exec (Run dialect) (Give (completed v)) u
      go (Has t) u = refl
      go (Fails c) u = refl

  -- the value's code, and then the answer
  value_ends : (t : Text) (c : List Instruction) → ExpressionCode dialect t c → MeansExpr dialect (c ++ Answer ∷ []) t
  value_ends t c x = ends_as dialect (c ++ Answer ∷ []) (λ d s. exec (Run dialect) (evaluated dialect t d) s) fits lands
    where
      fits : Fits (c ++ Answer ∷ []) bare bare
      fits = fits_joined c (Answer ∷ []) bare (shape (0 + 1) 0 0 0 0) bare (x.adds 0 0 0 0 0) (fits_one Answer (shape (0 + 1) 0 0 0 0) bare _ (omega arith) refl (ap (λ n. shape n 0 0 0 0) (omega arith)))

      lands : (d : ℕ) (s : State) → d ≤ most_depth → Lands dialect (c ++ Answer ∷ []) [] (first_spot d) s (result_at (0 + length (c ++ Answer ∷ [])) (stack_of [] [] [] []) d) (exec (Run dialect) (evaluated dialect t d) s)
      lands d s le =
          let all = has_all (c ++ Answer ∷ []) [] in
          let back = has_back (c ++ Answer ∷ []) 0 c (Answer ∷ []) all in
          same_done dialect (c ++ Answer ∷ []) (completed_is (expression dialect d t) s)
          (then_done dialect (c ++ Answer ∷ []) (expression dialect d t) (λ v. Give (normal v)) (expression_fails dialect d t)
          (x.from (c ++ Answer ∷ []) 0 (with_result nothing (stack_of [] [] [] [])) d s (has_front (c ++ Answer ∷ []) 0 c (Answer ∷ []) all))
          (λ v u. one_done dialect (c ++ Answer ∷ []) Answer back.0 refl (here_done dialect (c ++ Answer ∷ []) (omega (arith, length-append c (Answer ∷ []))) refl)))

  -- what was emitted from nothing
  pub emitted_expression : (c0 c1 c2 : List Instruction) (t : Text) → c0 ≡ [] → Grown (ExpressionCode dialect t) c0 c1 → c2 ≡ c1 ++ Answer ∷ [] → MeansExpr dialect c2 t
  emitted_expression c0 c1 c2 t z g a = subst (λ c. MeansExpr dialect c t) (sym (a ∙ ap (λ x. x ++ Answer ∷ []) (g.1 ∙ ap (λ x. x ++ g.0) z))) (value_ends t g.0 g.2)

  -- ---- an expression's tree, and its fault

  pub grown_value : (m0 m1 m2 : List Instruction) (t : Text) (e : Expr) → Ok e ≡ expression_of dialect t → Grown (TreeCode dialect e) m0 m1 → m2 ≡ m1 ++ Final ∷ [] → Grown (ExpressionCode dialect t) m0 m2
  unfolding expression
  grown_value m0 m1 m2 t e is g f = (
    g.0 ++ Final ∷ [],
    (join (ext {m0 = m0} {c = g.0} g.1) (ext {m0 = m1} {c = Final ∷ []} f)).is,
    subst (λ r. Does dialect (g.0 ++ Final ∷ []) (λ d. parsed_text dialect d r)) is (final_does dialect g.0 (λ d. tree_text dialect d e) g.2),
  )

  thrown_value : (next : Next) (os : List Loop) (to : Text → Spot) (c : Completion) (s : State) → follow dialect next os (M.Fails c s) ≡ value_landed next os to (Gives (Fails c) s)
  thrown_value next os to c s = refl

  raises : (m : Text) → Does dialect (Raise m ∷ []) (λ d. fail (failure m))
  raises m = record {
    from = λ code at stack d s has. final dialect code {os = stack.loops} {p = spot at stack d} {s = s} {r = text_at (at + 1) stack d} {g = Gives (Fails (failure m)) s} (Raise m) has.0 (λ next. thrown_value next stack.loops (text_at (at + 1) stack d) (failure m) s);
    adds = λ h l d p o. fits_stop (Raise m) (shape h l d p o) (shape (h + 1) l d p o) tt refl;
  }

  pub grown_fault : (m0 m1 : List Instruction) (t : Text) (f : ExprFault) → Err f ≡ expression_of dialect t → m1 ≡ m0 ++ Raise (fault_text f) ∷ [] → Grown (ExpressionCode dialect t) m0 m1
  unfolding expression
  grown_fault m0 m1 t f is h = (Raise (fault_text f) ∷ [], h, subst (λ r. Does dialect (Raise (fault_text f) ∷ []) (λ d. parsed_text dialect d r)) is (raises (fault_text f)))

-- ---- a text without characters is no expression

spelled_some : (e : Expr) (k : List Token) → spelled e k ≡ [] → ⊥
unfolding spelled
spelled_some (operand x) k h = cc
spelled_some (group e) k h = cc
spelled_some (call f s es) k h = cc
spelled_some (unary u e) k h = cc
spelled_some (power e f) k h = spelled_some e _ h
spelled_some (chain q e r) k h = spelled_some e _ h
spelled_some (choice c e f) k h = spelled_some c _ h

pub tree_some : (dialect : Dialect) (t : Text) (e : Expr) → IsTree (tokens dialect t) e → 0 < length t
unfolding tokens tokens_at tokens_from next_token operand_token
tree_some dialect [] e h = absurd (spelled_some e [] h.written)
tree_some dialect (c ∷ t) e h = omega arith
