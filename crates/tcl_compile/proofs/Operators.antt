-- What the code of an expression's tree does, wherever it stands.
use Rattle.std.proofs.Common.{◌≡◌, ℕ, ◌+◌, Bool, true, false, List, [], ◌∷◌, ◌++◌, length, Some, None, refl, sym, ap, ◌∙◌, subst, arith, append_assoc, append-nil, length-append}
use Rattle.tcl_chars.specs.declared.numbers.Dialect.{Dialect}
use Rattle.tcl_expr.specs.Expr.{Leaf, literal, word, Expr, operand, group, call, unary, power, chain, choice, Rest, last, next, Args, no_args, arg, argument_count}
use Rattle.tcl_expr.specs.declared.token.UnaryOp.{UnaryOp}
use Rattle.tcl_expr.specs.declared.token.BinaryOp.{BinaryOp}
use Rattle.tcl_expr.specs.declared.token.BinaryOp.TheVariants as binary
use Rattle.tcl_expr.specs.declared.token.Function.{Function}
use Rattle.tcl_words.specs.Parts.{Stretch}
use Rattle.tcl_pages.specs.Answers.{Answer}
use Rattle.tcl_meaning.specs.Operators.{Operator, lazy, eager, operator, truth_answer, unary_answer, power_answer, function_answer, final_answer}
use Rattle.tcl_pages.specs.Results.{truth_text}
use Rattle.tcl_pages.specs.Texts.{Text}
use Rattle.tcl_meaning.specs.State.{State}
use Rattle.tcl_meaning.specs.Effects.{Prog, exec}
use Rattle.tcl_meaning.specs.Expressions.{either, is_same, leaf_text, truth, applied, tree_text, rest_text, args_text}
use Rattle.tcl_meaning.specs.Script.{Run}
use Rattle.tcl_meaning.specs.Tasks.{Task}
use Rattle.tcl_meaning.specs.Value.{Value, ◌>>=◌, give, judged}
use Rattle.tcl_meaning.proofs.Reaching.{bind_bind, bind_same}
use Rattle.tcl_code.specs.Instructions.{Instruction, Unary, Binary, Power, Apply, Final}
use Rattle.tcl_code.specs.Machine.{Texts, text_at, spot, on_taken, on_answer, on_operator, follow, stack_of}
use Rattle.tcl_code.specs.Parts.{value_landed, LandsValue, Does}
use Rattle.tcl_code.specs.Valid.{shape, IsEager}
use Rattle.tcl_code.proofs.Shapes.{fits_one, fits_same, fits_joined}
use Rattle.tcl_code.proofs.Place.{has_front, has_back}
use Rattle.tcl_code.proofs.Steps.{final, moved, then, same, on_answer_is}
use Rattle.tcl_compile.specs.Fragments.{stacked}
use Rattle.tcl_compile.specs.Trees.{decided_by, args_value, Changes, Applies}
use Rattle.tcl_compile.proofs.Changing.{does_change, change_one, change_two, change_lazy, lazy_code}
use Rattle.tcl_compile.proofs.Failing.{NeverOk, both_fail, give_fails, judged_fails, pieces_fail}
use Rattle.tcl_compile.proofs.Pieces.{taken_all, stacked_more}

-- an operator that takes both texts
record IsEagerly (dialect : Dialect) (o : BinaryOp) : Type 0 where
  answer : Text → Text → Answer Text
  is : operator dialect o ≡ eager answer
  fine : IsEager o

module _ (dialect : Dialect) where
  eagerly : (o : BinaryOp) → decided_by o ≡ None → IsEagerly dialect o
  eagerly binary.And e = absurd cc
  eagerly binary.Or e = absurd cc
  eagerly binary.Times e = record { answer = _; is = refl; fine = tt }
  eagerly binary.Divide e = record { answer = _; is = refl; fine = tt }
  eagerly binary.Remainder e = record { answer = _; is = refl; fine = tt }
  eagerly binary.Add e = record { answer = _; is = refl; fine = tt }
  eagerly binary.Subtract e = record { answer = _; is = refl; fine = tt }
  eagerly binary.ShiftLeft e = record { answer = _; is = refl; fine = tt }
  eagerly binary.ShiftRight e = record { answer = _; is = refl; fine = tt }
  eagerly binary.Less e = record { answer = _; is = refl; fine = tt }
  eagerly binary.Greater e = record { answer = _; is = refl; fine = tt }
  eagerly binary.LessEqual e = record { answer = _; is = refl; fine = tt }
  eagerly binary.GreaterEqual e = record { answer = _; is = refl; fine = tt }
  eagerly binary.Equal e = record { answer = _; is = refl; fine = tt }
  eagerly binary.NotEqual e = record { answer = _; is = refl; fine = tt }
  eagerly binary.TextEqual e = record { answer = _; is = refl; fine = tt }
  eagerly binary.TextNotEqual e = record { answer = _; is = refl; fine = tt }
  eagerly binary.In e = record { answer = _; is = refl; fine = tt }
  eagerly binary.NotIn e = record { answer = _; is = refl; fine = tt }
  eagerly binary.BitAnd e = record { answer = _; is = refl; fine = tt }
  eagerly binary.BitXor e = record { answer = _; is = refl; fine = tt }
  eagerly binary.BitOr e = record { answer = _; is = refl; fine = tt }

  lazily : (o : BinaryOp) (b : Bool) → decided_by o ≡ Some b → operator dialect o ≡ lazy b
  lazily binary.And b e = ap lazy cc
  lazily binary.Or b e = ap lazy cc
  lazily binary.Times b e = absurd cc
  lazily binary.Divide b e = absurd cc
  lazily binary.Remainder b e = absurd cc
  lazily binary.Add b e = absurd cc
  lazily binary.Subtract b e = absurd cc
  lazily binary.ShiftLeft b e = absurd cc
  lazily binary.ShiftRight b e = absurd cc
  lazily binary.Less b e = absurd cc
  lazily binary.Greater b e = absurd cc
  lazily binary.LessEqual b e = absurd cc
  lazily binary.GreaterEqual b e = absurd cc
  lazily binary.Equal b e = absurd cc
  lazily binary.NotEqual b e = absurd cc
  lazily binary.TextEqual b e = absurd cc
  lazily binary.TextNotEqual b e = absurd cc
  lazily binary.In b e = absurd cc
  lazily binary.NotIn b e = absurd cc
  lazily binary.BitAnd b e = absurd cc
  lazily binary.BitXor b e = absurd cc
  lazily binary.BitOr b e = absurd cc

  -- ---- operators

  pub unary_does : (u : UnaryOp) (c : List Instruction) (m : ℕ → Prog Task (Value Text)) → Does dialect c m → Does dialect (c ++ Unary u ∷ []) (λ d. m d >>= λ a. judged (unary_answer dialect u a))
  unary_does u c m x = does_change dialect c (Unary u ∷ []) m (λ d a. judged (unary_answer dialect u a)) x (change_one dialect (Unary u) (unary_answer dialect u) (λ at t stack d s. refl) (λ h l d p o. omega arith) (λ h l d p o. refl))

  pub final_does : (c : List Instruction) (m : ℕ → Prog Task (Value Text)) → Does dialect c m → Does dialect (c ++ Final ∷ []) (λ d. m d >>= λ t. judged (final_answer dialect t))
  final_does c m x = does_change dialect c (Final ∷ []) m (λ d t. judged (final_answer dialect t)) x (change_one dialect Final (final_answer dialect) (λ at t stack d s. refl) (λ h l d p o. omega arith) (λ h l d p o. refl))

  pub power_does : (a b : List Instruction) (m n : ℕ → Prog Task (Value Text)) → Does dialect a m → Does dialect b n → Does dialect (a ++ (b ++ Power ∷ [])) (λ d. m d >>= λ x. n d >>= λ y. judged (power_answer dialect x y))
  power_does a b m n x y = does_change dialect a (b ++ Power ∷ []) m (λ d t. n d >>= λ v. judged (power_answer dialect t v)) x (change_two dialect b n Power (power_answer dialect) y (λ at v w stack d s. refl) (λ h l d p o. omega arith) (λ h l d p o. refl))

  pub eager_step : (o : BinaryOp) (c : List Instruction) (m : ℕ → Prog Task (Value Text)) → decided_by o ≡ None → Does dialect c m → Changes dialect (c ++ Binary o ∷ []) (λ d a. applied dialect (operator dialect o) a (m d))
  eager_step o c m e x =
      let g = eagerly o e in
      subst (λ (k : Operator). Changes dialect (c ++ Binary o ∷ []) (λ d a. applied dialect k a (m d))) (sym g.is)
      (change_two dialect c m (Binary o) g.answer x (λ at a b stack d s. ap (λ (k : Operator). on_operator k a b (text_at (at + 1) stack d) s) g.is) (λ h l d p o. (omega arith, g.fine)) (λ h l d p o. refl))

  pub lazy_step : (o : BinaryOp) (b : Bool) (c : List Instruction) (m : ℕ → Prog Task (Value Text)) → decided_by o ≡ Some b → Does dialect c m → Changes dialect (lazy_code b c) (λ d a. applied dialect (operator dialect o) a (m d))
  lazy_step o b c m e x = subst (λ (k : Operator). Changes dialect (lazy_code b c) (λ d a. applied dialect k a (m d))) (sym (lazily o b e)) (change_lazy dialect b c m x)

  -- ---- functions

  pub applies_end : (f : Function) (n : ℕ) → Applies dialect f n (Apply f n ∷ []) no_args
  applies_end f n = record {
    from = λ code at ts stack d s e has.
        final dialect code (Apply f n) has.0
        (λ next. ap (λ x. follow dialect next stack.loops (on_taken x (λ us below. on_answer (function_answer dialect f us) (λ v. spot (at + 1) (stack_of (v ∷ below) stack.lists stack.results stack.loops) d) s))) (taken_all n ts stack.texts e)
        ∙ on_answer_is dialect next stack.loops (function_answer dialect f ts) (text_at (at + 1) stack d) s
        ∙ ap (λ us. value_landed next stack.loops (text_at (at + 1) stack d) (exec (Run dialect) (judged (function_answer dialect f us)) s)) (sym (append-nil ts)));
    adds = λ h k l d p o e. fits_one (Apply f n) (shape (h + k) l d p o) (shape (h + 1) l d p o) _ (omega arith) refl (ap (λ m. shape m l d p o) (omega arith));
  }

  args_step : (f : Function) (d : ℕ) (ts : Texts) (e : Expr) (es : Args) (s : State) → exec (Run dialect) (args_value dialect f d ts (arg e es)) s ≡ exec (Run dialect) (tree_text dialect d e >>= λ t. args_value dialect f d (ts ++ t ∷ []) es) s
  args_step f d ts e es s =
      bind_bind (Run dialect) (tree_text dialect d e) (λ t. args_text dialect d es >>= (λ us. give (t ∷ us))) (λ more. judged (function_answer dialect f (ts ++ more))) s
      ∙ bind_same (Run dialect) (tree_text dialect d e) (λ t. (args_text dialect d es >>= (λ us. give (t ∷ us))) >>= (λ more. judged (function_answer dialect f (ts ++ more)))) (λ t. args_value dialect f d (ts ++ t ∷ []) es)
      (λ t u. bind_bind (Run dialect) (args_text dialect d es) (λ us. give (t ∷ us)) (λ more. judged (function_answer dialect f (ts ++ more))) u
      ∙ bind_same (Run dialect) (args_text dialect d es) (λ us. judged (function_answer dialect f (ts ++ t ∷ us))) (λ us. judged (function_answer dialect f ((ts ++ t ∷ []) ++ us)))
      (λ us v. ap (λ vs. exec (Run dialect) (judged (function_answer dialect f vs)) v) (sym (append_assoc ts (t ∷ []) us))) u) s

  pub applies_next : (f : Function) (n : ℕ) (e : Expr) (es : Args) (c more : List Instruction) → Does dialect c (λ d. tree_text dialect d e) → Applies dialect f n more es → Applies dialect f n (c ++ more) (arg e es)
  applies_next f n e es c more x g = record {
    from = λ code at ts stack d s k has.
        let back = has_back code at c more has in
        same dialect code (sym (args_step f d ts e es s))
        (then dialect code (tree_text dialect d e) (λ t. args_value dialect f d (ts ++ t ∷ []) es) (x.from code at (stacked ts stack) d s (has_front code at c more has))
        (λ t u. moved dialect code (omega (arith, length-append c more))
        (subst (λ st. LandsValue dialect code stack.loops (spot (at + length c) st d) u (text_at (at + length c + length more) stack d) (exec (Run dialect) (args_value dialect f d (ts ++ t ∷ []) es) u)) (stacked_more ts t stack)
        (g.from code (at + length c) (ts ++ t ∷ []) stack d u (omega (arith, k, length-append ts (t ∷ []))) back))));
    adds = λ h k l d p o e2. fits_joined c more (shape (h + k) l d p o) (shape (h + k + 1) l d p o) (shape (h + 1) l d p o) (x.adds (h + k) l d p o) (fits_same (ap (λ m. shape m l d p o) (omega arith)) refl (g.adds h (k + 1) l d p o (omega arith)));
  }

  pub call_does : (f : Function) (name : Stretch) (es : Args) (c : List Instruction) → Applies dialect f (argument_count es) c es → Does dialect c (λ d. tree_text dialect d (call f name es))
  call_does f name es c x = record { from = λ code at stack d s has. x.from code at [] stack d s (omega arith) has; adds = λ h l d p o. fits_same (ap (λ m. shape m l d p o) (omega arith)) refl (x.adds h 0 l d p o (omega arith)) }

  -- ---- what stands in place of a value

  either_fails : (b : Bool) (m n : Prog Task (Value Text)) → NeverOk dialect m → NeverOk dialect n → NeverOk dialect (either b m n)
  either_fails true m n x y = x
  either_fails false m n x y = y

  applied_fails : (o : Operator) (a : Text) (m : Prog Task (Value Text)) → NeverOk dialect m → NeverOk dialect (applied dialect o a m)
  applied_fails (lazy b) a m x =
      both_fail dialect (truth dialect a) (λ holds. either (is_same holds b) (give (truth_text b)) (m >>= λ t. judged (truth_answer dialect t))) (judged_fails dialect _)
      (λ holds. either_fails (is_same holds b) (give (truth_text b)) (m >>= λ t. judged (truth_answer dialect t)) (give_fails dialect _) (both_fail dialect m (λ t. judged (truth_answer dialect t)) x (λ t. judged_fails dialect _)))
  applied_fails (eager answer) a m x = both_fail dialect m (λ b. judged (answer a b)) x (λ b. judged_fails dialect _)

  leaf_fails : (d : ℕ) (x : Leaf) → NeverOk dialect (leaf_text d x)
  leaf_fails d (literal s) = give_fails dialect s.text
  leaf_fails d (word w) = pieces_fail dialect d w.pieces

  mutual
    pub tree_fails : (d : ℕ) (e : Expr) → NeverOk dialect (tree_text dialect d e)
    tree_fails d (operand x) = leaf_fails d x
    tree_fails d (group e) = tree_fails d e
    tree_fails d (call f name es) = both_fail dialect (args_text dialect d es) _ (args_fail d es) (λ ts. judged_fails dialect _)
    tree_fails d (unary u e) = both_fail dialect (tree_text dialect d e) _ (tree_fails d e) (λ a. judged_fails dialect _)
    tree_fails d (power e f) = both_fail dialect (tree_text dialect d e) _ (tree_fails d e) (λ a. both_fail dialect (tree_text dialect d f) _ (tree_fails d f) (λ b. judged_fails dialect _))
    tree_fails d (chain level e r) = both_fail dialect (tree_text dialect d e) _ (tree_fails d e) (λ a. rest_fails d a r)
    tree_fails d (choice c e f) = both_fail dialect (tree_text dialect d c) _ (tree_fails d c) (λ t. both_fail dialect (truth dialect t) _ (judged_fails dialect _) (λ holds. either_fails holds (tree_text dialect d e) (tree_text dialect d f) (tree_fails d e) (tree_fails d f)))

    rest_fails : (d : ℕ) (a : Text) (r : Rest) → NeverOk dialect (rest_text dialect d a r)
    rest_fails d a last = give_fails dialect a
    rest_fails d a (next o e r) = both_fail dialect (applied dialect (operator dialect o) a (tree_text dialect d e)) _ (applied_fails (operator dialect o) a (tree_text dialect d e) (tree_fails d e)) (λ b. rest_fails d b r)

    args_fail : (d : ℕ) (es : Args) → NeverOk dialect (args_text dialect d es)
    args_fail d no_args = give_fails dialect []
    args_fail d (arg e es) = both_fail dialect (tree_text dialect d e) _ (tree_fails d e) (λ t. both_fail dialect (args_text dialect d es) _ (args_fail d es) (λ ts. give_fails dialect _))
