-- Parts of an expression that are emitted one after another.
use Rattle.std.proofs.Common.{◌≡◌, ℕ, zero, suc, ◌+◌, ◌<◌, ◌≤◌, Bool, false, List, [], ◌∷◌, ◌++◌, length, get_or, drop, Some, None, refl, sym, ap, ◌∙◌, subst, arith, append_assoc, append-nil, length-append}
use Rattle.tcl_chars.specs.declared.numbers.Dialect.{Dialect}
use Rattle.tcl_expr.specs.Expr.{Leaf, literal, word, Expr, operand, group, call, unary, power, chain, choice, Rest, argument_count}
use Rattle.tcl_expr.specs.Machine.{Step, rest_of, args_of}
use Rattle.tcl_expr.specs.declared.token.UnaryOp.{UnaryOp}
use Rattle.tcl_expr.specs.declared.token.BinaryOp.{BinaryOp}
use Rattle.tcl_expr.specs.declared.token.Function.{Function}
use Rattle.tcl_words.specs.Parts.{Stretch, Shape}
use Rattle.tcl_meaning.specs.Operators.{operator}
use Rattle.tcl_pages.specs.Results.{truth_text}
use Rattle.tcl_meaning.specs.Expressions.{applied, tree_text, rest_text}
use Rattle.tcl_code.specs.Instructions.{Push, Unary, Binary, Power, Apply, Truth, Skip, SkipWhen}
use Rattle.tcl_compile.specs.Emitted.{WordCode}
use Rattle.tcl_compile.specs.Fragments.{Grown, Leads}
use Rattle.tcl_compile.specs.Trees.{decided_by, Applies, TreeCode, StepCode, RestCode, ArgsLeft, TreeIsRead, RestIsRead, ArgsAreRead}
use Rattle.tcl_compile.proofs.Changing.{does_change, change_change, change_none, change_choice, chosen, lazy_code, choice_code}
use Rattle.tcl_compile.proofs.Emits.{Code, ext, join, drop_end, leads_on, leads_end}
use Rattle.tcl_compile.proofs.Forks.{Behind, behind, more_behind, LedHere, forked}
use Rattle.tcl_compile.proofs.Operators.{unary_does, power_does, eager_step, lazy_step, applies_end, applies_next, call_does}
use Rattle.tcl_compile.proofs.Pieces.{push_does}
use Rattle.tcl_meaning.proofs.ScriptRules.{drop_here}

count_args : (es : List Expr) → argument_count (args_of es) ≡ length es
count_args [] = refl
count_args (e ∷ es) = ap suc (count_args es)

module _ (dialect : Dialect) where
  -- ---- trees

  pub grown_literal : (old new : Code) (x : Leaf) (s : Stretch) → x ≡ literal s → new ≡ old ++ Push s.text ∷ [] → Grown (TreeCode dialect (operand x)) old new
  grown_literal old new x s e h = (Push s.text ∷ [], h, subst (λ y. TreeCode dialect (operand y) (Push s.text ∷ [])) (sym e) (push_does dialect s.text))

  pub grown_operand : (old new : Code) (x : Leaf) (w : Shape) → x ≡ word w → Grown (WordCode dialect w.pieces) old new → Grown (TreeCode dialect (operand x)) old new
  grown_operand old new x w e g = (g.0, g.1, subst (λ y. TreeCode dialect (operand y) g.0) (sym e) g.2)

  pub grown_group : (old new : Code) (t e : Expr) → t ≡ group e → Grown (TreeCode dialect e) old new → Grown (TreeCode dialect t) old new
  grown_group old new t e f g = (g.0, g.1, subst (λ x. TreeCode dialect x g.0) (sym f) g.2)

  pub grown_unary : (old mid new : Code) (t e : Expr) (u : UnaryOp) → t ≡ unary u e → Grown (TreeCode dialect e) old mid → new ≡ mid ++ Unary u ∷ [] → Grown (TreeCode dialect t) old new
  grown_unary old mid new t e u f g h = (
    g.0 ++ Unary u ∷ [],
    (join (ext {m0 = old} {c = g.0} g.1) (ext {m0 = mid} {c = Unary u ∷ []} h)).is,
    subst (λ x. TreeCode dialect x (g.0 ++ Unary u ∷ [])) (sym f) (unary_does dialect u g.0 (λ d. tree_text dialect d e) g.2),
  )

  pub grown_power : (m0 m1 m2 m3 : Code) (t a b : Expr) → t ≡ power a b → Grown (TreeCode dialect a) m0 m1 → Grown (TreeCode dialect b) m1 m2 → m3 ≡ m2 ++ Power ∷ [] → Grown (TreeCode dialect t) m0 m3
  grown_power m0 m1 m2 m3 t a b f g h k = (
    g.0 ++ (h.0 ++ Power ∷ []),
    (join (ext {m0 = m0} {c = g.0} g.1) (join (ext {m0 = m1} {c = h.0} h.1) (ext {m0 = m2} {c = Power ∷ []} k))).is,
    subst (λ x. TreeCode dialect x (g.0 ++ (h.0 ++ Power ∷ []))) (sym f) (power_does dialect g.0 h.0 (λ d. tree_text dialect d a) (λ d. tree_text dialect d b) g.2 h.2),
  )

  pub grown_chain : (m0 m1 m2 : Code) (t e : Expr) (q : ℕ) (r : Rest) → t ≡ chain q e r → Grown (TreeCode dialect e) m0 m1 → Grown (RestCode dialect r) m1 m2 → Grown (TreeCode dialect t) m0 m2
  grown_chain m0 m1 m2 t e q r f g h = (
    g.0 ++ h.0,
    (join (ext {m0 = m0} {c = g.0} g.1) (ext {m0 = m1} {c = h.0} h.1)).is,
    subst (λ x. TreeCode dialect x (g.0 ++ h.0)) (sym f) (does_change dialect g.0 h.0 (λ d. tree_text dialect d e) (λ d a. rest_text dialect d a r) g.2 h.2),
  )

  pub grown_lazy : (m0 m1 m2 m3 m4 m5 m6 : Code) (o : BinaryOp) (b : Bool) (e : Expr) → decided_by o ≡ Some b → m1 ≡ m0 ++ SkipWhen b 0 ∷ [] → Grown (TreeCode dialect e) m1 m2 → m3 ≡ m2 ++ Truth ∷ [] → m4 ≡ m3 ++ Skip 1 ∷ [] → LedHere (length m0) m4 m5 → m6 ≡ m5 ++ Push (truth_text b) ∷ []
      → Grown (StepCode dialect o e) m0 m6
  grown_lazy m0 m1 m2 m3 m4 m5 m6 o b e d f g h k l n =
      let back = g.0 ++ Truth ∷ Skip 1 ∷ [] in
      let there : m4 ≡ m2 ++ Truth ∷ Skip 1 ∷ [] = (join (ext {m0 = m2} {c = Truth ∷ []} h) (ext {m0 = m3} {c = Skip 1 ∷ []} k)).is in
      let whole : Behind (SkipWhen b 0) m0 back m4 = more_behind (Truth ∷ Skip 1 ∷ []) (behind g.0 {i = SkipWhen b 0} {m0 = m0} f g.1) there in
      let count : length back ≡ length g.0 + 2 = omega (arith, length-append g.0 (Truth ∷ Skip 1 ∷ [])) in
      let patched : m5 ≡ m0 ++ SkipWhen b (length g.0 + 2) ∷ back = l m0 back (SkipWhen b 0) whole.is refl ∙ ap (λ j. m0 ++ SkipWhen b j ∷ back) count in
      let patched_is : Behind (SkipWhen b (length g.0 + 2)) m0 back m5 = record { is = patched } in
      let code : m6 ≡ m0 ++ lazy_code b g.0 = (more_behind (Push (truth_text b) ∷ []) (patched_is) n).is ∙ ap (λ x. m0 ++ SkipWhen b (length g.0 + 2) ∷ x) (append_assoc g.0 (Truth ∷ Skip 1 ∷ []) (Push (truth_text b) ∷ [])) in
      (lazy_code b g.0, code, lazy_step dialect o b g.0 (λ d. tree_text dialect d e) d g.2)

  pub grown_eager : (m0 m1 m2 : Code) (o : BinaryOp) (e : Expr) → decided_by o ≡ None → Grown (TreeCode dialect e) m0 m1 → m2 ≡ m1 ++ Binary o ∷ [] → Grown (StepCode dialect o e) m0 m2
  grown_eager m0 m1 m2 o e d g h = (
    g.0 ++ Binary o ∷ [],
    (join (ext {m0 = m0} {c = g.0} g.1) (ext {m0 = m1} {c = Binary o ∷ []} h)).is,
    eager_step dialect o g.0 (λ d. tree_text dialect d e) d g.2,
  )

  pub grown_choice : (m0 m1 m2 m3 m4 m5 m6 m7 : Code) (t c e f : Expr) → t ≡ choice c e f → Grown (TreeCode dialect c) m0 m1 → m2 ≡ m1 ++ SkipWhen false 0 ∷ [] → Grown (TreeCode dialect e) m2 m3 → m4 ≡ m3 ++ Skip 0 ∷ [] → LedHere (length m1) m4 m5 → Grown (TreeCode dialect f) m5 m6 → LedHere (length m3) m6 m7
      → Grown (TreeCode dialect t) m0 m7
  grown_choice m0 m1 m2 m3 m4 m5 m6 m7 t c e f is g h x k l y n = (
    g.0 ++ choice_code x.0 y.0,
    (join (ext {m0 = m0} {c = g.0} g.1) (ext {m0 = m1} {c = choice_code x.0 y.0} (forked (SkipWhen false 0) x.0 y.0 m1 m2 m3 m4 m5 m6 m7 h x.1 k l y.1 n))).is,
    subst (λ z. TreeCode dialect z (g.0 ++ choice_code x.0 y.0)) (sym is)
        (does_change dialect g.0 (choice_code x.0 y.0) (λ d. tree_text dialect d c) (chosen dialect (λ d. tree_text dialect d e) (λ d. tree_text dialect d f)) g.2
        (change_choice dialect x.0 y.0 (λ d. tree_text dialect d e) (λ d. tree_text dialect d f) x.2 y.2)),
  )

  -- ---- a chain's parts

  pub step_leads : (xs : List Step) (i : ℕ) (x : Step) (old mid new : Code) → i < length xs → x ≡ get_or xs i x → Leads (RestCode dialect (rest_of (drop i xs))) (RestCode dialect (rest_of xs)) old mid → Grown (StepCode dialect x.0 x.1) mid new → Leads (RestCode dialect (rest_of (drop (i + 1) xs))) (RestCode dialect (rest_of xs)) old new
  step_leads xs i x old mid new lt e l g =
      leads_on (RestCode dialect (rest_of (drop i xs))) (RestCode dialect (rest_of (drop (i + 1) xs))) (StepCode dialect x.0 x.1) (RestCode dialect (rest_of xs)) old mid new
      (λ c more h k. subst (λ ys. RestCode dialect (rest_of ys) (c ++ more)) (sym (drop_here xs i x lt e))
      (change_change dialect c more (λ d a. applied dialect (operator dialect x.0) a (tree_text dialect d x.1)) (λ d a. rest_text dialect d a (rest_of (drop (i + 1) xs))) h k)) l g

  pub grown_rest : (xs : List Step) (i : ℕ) (old new : Code) → length xs ≤ i → Leads (RestCode dialect (rest_of (drop i xs))) (RestCode dialect (rest_of xs)) old new → Grown (RestCode dialect (rest_of xs)) old new
  grown_rest xs i old new le l =
      leads_end (RestCode dialect (rest_of (drop i xs))) (RestCode dialect (rest_of xs)) old new new l ([], sym (append-nil new), subst (λ ys. RestCode dialect (rest_of ys) []) (sym (drop_end xs i le)) (change_none dialect))

  -- ---- arguments

  pub argument_leads : (f : Function) (n : ℕ) (es : List Expr) (i : ℕ) (e : Expr) (old mid new : Code) → i < length es → e ≡ get_or es i e → Leads (ArgsLeft dialect f n (args_of (drop i es))) (ArgsLeft dialect f n (args_of es)) old mid → Grown (TreeCode dialect e) mid new
      → Leads (ArgsLeft dialect f n (args_of (drop (i + 1) es))) (ArgsLeft dialect f n (args_of es)) old new
  argument_leads f n es i e old mid new lt k l g =
      leads_on (ArgsLeft dialect f n (args_of (drop i es))) (ArgsLeft dialect f n (args_of (drop (i + 1) es))) (TreeCode dialect e) (ArgsLeft dialect f n (args_of es)) old mid new
      (λ c more h m. subst (λ ys. ArgsLeft dialect f n (args_of ys) (c ++ more)) (sym (drop_here es i e lt k)) (applies_next dialect f n e (args_of (drop (i + 1) es)) c more h m)) l g

  pub grown_arguments : (f : Function) (n : ℕ) (es : List Expr) (i : ℕ) (old mid new : Code) → length es ≤ i → Leads (ArgsLeft dialect f n (args_of (drop i es))) (ArgsLeft dialect f n (args_of es)) old mid → new ≡ mid ++ Apply f n ∷ [] → Grown (ArgsLeft dialect f n (args_of es)) old new
  grown_arguments f n es i old mid new le l h =
      leads_end (ArgsLeft dialect f n (args_of (drop i es))) (ArgsLeft dialect f n (args_of es)) old mid new l (Apply f n ∷ [], h, subst (λ ys. ArgsLeft dialect f n (args_of ys) (Apply f n ∷ [])) (sym (drop_end es i le)) (applies_end dialect f n))

  pub grown_call : (f : Function) (s : Stretch) (t : Expr) (es : List Expr) (n : ℕ) (old new : Code) → t ≡ call f s (args_of es) → n ≡ length es → Grown (ArgsLeft dialect f n (args_of es)) old new → Grown (TreeCode dialect t) old new
  grown_call f s t es n old new is e g = (g.0, g.1, subst (λ x. TreeCode dialect x g.0) (sym is) (call_does dialect f s (args_of es) g.0 (subst (λ m. Applies dialect f m g.0 (args_of es)) (e ∙ sym (count_args es)) g.2)))

-- ---- one of the operands

pub argument_read : (n : ℕ) (es : List Expr) (i : ℕ) (e : Expr) → ArgsAreRead n (args_of es) → i < length es → e ≡ get_or es i e → TreeIsRead n e
argument_read n [] i e h lt k = absurd (omega arith)
argument_read n (x ∷ es) zero e h lt k = subst (TreeIsRead n) (sym k) h.0
argument_read n (x ∷ es) (suc i) e h lt k = argument_read n es i e h.1 (omega arith) k

pub step_read : (n : ℕ) (xs : List Step) (i : ℕ) (x : Step) → RestIsRead n (rest_of xs) → i < length xs → x ≡ get_or xs i x → TreeIsRead n x.1
step_read n [] i x h lt k = absurd (omega arith)
step_read n (y ∷ xs) zero x h lt k = subst (λ (z : Step). TreeIsRead n z.1) (sym k) h.0
step_read n (y ∷ xs) (suc i) x h lt k = step_read n xs i x h.1 (omega arith) k
