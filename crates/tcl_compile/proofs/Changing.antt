-- What the code of an expression's parts does, wherever it stands.
use Rattle.std.proofs.Common.{◌≡◌, ℕ, suc, ◌+◌, ◌-◌, Bool, true, false, List, [], ◌∷◌, ◌++◌, length, Some, Ok, Err, cond, refl, ap, ◌∙◌, subst, arith, length-append}
use Rattle.std.specs.Prelude.{slice_get}
use Rattle.tcl_chars.specs.declared.numbers.Dialect.{Dialect}
use Rattle.tcl_chars.specs.Messages.{truth_value}
use Rattle.tcl_pages.specs.Answers.{Answer}
use Rattle.tcl_meaning.specs.Operators.{lazy, truth_answer}
use Rattle.tcl_pages.specs.Results.{truth_text}
use Rattle.tcl_pages.specs.Texts.{Text}
use Rattle.tcl_meaning.specs.State.{State}
use Rattle.tcl_meaning.specs.Effects.{Got, Gives, Broke, Exits, Untold, Prog, exec}
use Rattle.tcl_meaning.specs.Expressions.{either, is_same, truth, applied}
use Rattle.tcl_meaning.specs.Script.{Run}
use Rattle.tcl_meaning.specs.Tasks.{Task}
use Rattle.tcl_meaning.specs.Value.{Value, Has, Fails, ◌>>=◌, give, judged}
use Rattle.tcl_code.specs.Instructions.{Instruction, Push, Skip, SkipWhen, Truth}
use Rattle.tcl_code.specs.Machine.{Stack, with_text, text_at, Spot, spot, on_answer, follow, move, act, exec_code}
use Rattle.tcl_code.specs.Parts.{HasAt, Fits, Adds, LandsValue, Does}
use Rattle.tcl_code.specs.Valid.{Ahead, shape, IsFine, ways_of}
use Rattle.tcl_code.proofs.Shapes.{fits_one, fits_none, fits_joined, joined_back, fits_before, before_at}
use Rattle.tcl_code.proofs.Place.{has_front, has_back}
use Rattle.tcl_code.proofs.Steps.{one, final, here, moved, then, on_answer_is}
use Rattle.tcl_compile.specs.Trees.{Changes}

module _ (dialect : Dialect) where
  -- ---- one after another

  -- a text, and what is made of it
  pub does_change : (c c' : List Instruction) (m : ℕ → Prog Task (Value Text)) (g : ℕ → Text → Prog Task (Value Text)) → Does dialect c m → Changes dialect c' g → Does dialect (c ++ c') (λ d. m d >>= g d)
  does_change c c' m g f x = record {
    from = λ code at stack d s has.
        then dialect code (m d) (g d) (f.from code at stack d s (has_front code at c c' has))
        (λ t u. moved dialect code (omega (arith, length-append c c')) (x.from code (at + length c) t stack d u (has_back code at c c' has)));
    adds = λ h l d p o. fits_joined c c' (shape h l d p o) (shape (h + 1) l d p o) (shape (h + 1) l d p o) (f.adds h l d p o) (x.fits h l d p o);
  }

  pub change_change : (c c' : List Instruction) (g k : ℕ → Text → Prog Task (Value Text)) → Changes dialect c g → Changes dialect c' k → Changes dialect (c ++ c') (λ d t. g d t >>= k d)
  change_change c c' g k f x = record {
    from = λ code at t stack d s has.
        then dialect code (g d t) (k d) (f.from code at t stack d s (has_front code at c c' has))
        (λ v u. moved dialect code (omega (arith, length-append c c')) (x.from code (at + length c) v stack d u (has_back code at c c' has)));
    fits = λ h l d p o. fits_joined c c' (shape (h + 1) l d p o) (shape (h + 1) l d p o) (shape (h + 1) l d p o) (f.fits h l d p o) (x.fits h l d p o);
  }

  pub change_none : Changes dialect [] (λ d t. give t)
  change_none = record { from = λ code at t stack d s has. here dialect code (omega arith); fits = λ h l d p o. fits_none (shape (h + 1) l d p o) }

  -- ---- one instruction

  -- it answers of the text on top
  abbrev pub AnswersOne : Instruction → (Text → Answer Text) → Type 0
  AnswersOne i f = (at : ℕ) (t : Text) (stack : Stack) (d : ℕ) (s : State) → move dialect (Some i) at (t ∷ stack.texts) stack.lists stack.results stack.loops d s ≡ on_answer (f t) (text_at (at + 1) stack d) s

  pub change_one : (i : Instruction) (f : Text → Answer Text) → AnswersOne i f → ((h l d p o : ℕ) → IsFine i (shape (h + 1) l d p o)) → ((h l d p o : ℕ) → ways_of i (shape (h + 1) l d p o) ≡ (Ahead 0, shape (h + 1 - 1 + 1) l d p o) ∷ []) → Changes dialect (i ∷ []) (λ d t. judged (f t))
  change_one i f a fine ways = record {
    from = λ code at t stack d s has. final dialect code i has.0 (λ next. ap (follow dialect next stack.loops) (a at t stack d s) ∙ on_answer_is dialect next stack.loops (f t) (text_at (at + 1) stack d) s);
    fits = λ h l d p o. fits_one i (shape (h + 1) l d p o) (shape (h + 1) l d p o) _ (fine h l d p o) (ways h l d p o) (ap (λ n. shape n l d p o) (omega arith));
  }

  -- it answers of the two texts on top
  abbrev pub AnswersTwo : Instruction → (Text → Text → Answer Text) → Type 0
  AnswersTwo i f = (at : ℕ) (a b : Text) (stack : Stack) (d : ℕ) (s : State) → move dialect (Some i) at (b ∷ a ∷ stack.texts) stack.lists stack.results stack.loops d s ≡ on_answer (f a b) (text_at (at + 1) stack d) s

  pub change_two : (c : List Instruction) (m : ℕ → Prog Task (Value Text)) (i : Instruction) (f : Text → Text → Answer Text) → Does dialect c m → AnswersTwo i f → ((h l d p o : ℕ) → IsFine i (shape (h + 1 + 1) l d p o))
      → ((h l d p o : ℕ) → ways_of i (shape (h + 1 + 1) l d p o) ≡ (Ahead 0, shape (h + 1 + 1 - 2 + 1) l d p o) ∷ []) → Changes dialect (c ++ i ∷ []) (λ d a. m d >>= λ b. judged (f a b))
  change_two c m i f x answers fine ways = record {
    from = λ code at t stack d s has.
        let back = has_back code at c (i ∷ []) has in
        then dialect code (m d) (λ b. judged (f t b)) (x.from code at (with_text t stack) d s (has_front code at c (i ∷ []) has))
        (λ b u. moved dialect code (omega (arith, length-append c (i ∷ [])))
        (final dialect code i back.0 (λ next. ap (follow dialect next stack.loops) (answers (at + length c) t b stack d u) ∙ on_answer_is dialect next stack.loops (f t b) (text_at (at + length c + 1) stack d) u)));
    fits = λ h l d p o. fits_joined c (i ∷ []) (shape (h + 1) l d p o) (shape (h + 1 + 1) l d p o) (shape (h + 1) l d p o) (x.adds (h + 1) l d p o) (fits_one i (shape (h + 1 + 1) l d p o) (shape (h + 1) l d p o) _ (fine h l d p o) (ways h l d p o) (ap (λ n. shape n l d p o) (omega arith)));
  }

  -- ---- ways by a truth value

  -- the spot behind a skip where the text on top has a truth value
  abbrev pub skipped : Bool → ℕ → ℕ → Stack → ℕ → Bool → Spot
  skipped b n at stack d holds = spot (cond (is_same holds b) (at + 1 + n) (at + 1)) stack d

  pub skips : (code : List Instruction) (at : ℕ) (b : Bool) (n : ℕ) (t : Text) (stack : Stack) (d : ℕ) (s : State) → slice_get code at ≡ Some (SkipWhen b n) → LandsValue dialect code stack.loops (spot at (with_text t stack) d) s (skipped b n at stack d) (exec (Run dialect) (truth dialect t) s)
  skips code at b n t stack d s h = final dialect code (SkipWhen b n) h (λ next. on_answer_is dialect next stack.loops (truth_value dialect t) (skipped b n at stack d) s)

popped : (h l d p o : ℕ) → shape h l d p o ≡ shape (h + 1 - 1 + 0) l d p o
popped h l d p o = ap (λ n. shape n l d p o) (omega arith)

pushed : (t : Text) (h l d p o : ℕ) → Fits (Push t ∷ []) (shape h l d p o) (shape (h + 1) l d p o)
pushed t h l d p o = fits_one (Push t) (shape h l d p o) (shape (h + 1) l d p o) _ tt refl (ap (λ n. shape n l d p o) (omega arith))

-- ---- `&&` and `||`

abbrev pub ending : Bool → List Instruction
ending b = Truth ∷ Skip 1 ∷ Push (truth_text b) ∷ []

abbrev pub lazy_code : Bool → List Instruction → List Instruction
lazy_code b c = SkipWhen b (length c + 2) ∷ (c ++ ending b)

module _ (b : Bool) (h l d p o : ℕ) where
  skip : Fits (Skip 1 ∷ Push (truth_text b) ∷ []) (shape (h + 1) l d p o) (shape (h + 1) l d p o)
  skip = fits_before (Skip 1) (Push (truth_text b) ∷ []) (shape (h + 1) l d p o) (shape h l d p o) (shape (h + 1) l d p o) (pushed (truth_text b) h l d p o) tt ((omega arith, (pushed (truth_text b) h l d p o).ends), tt)

  skip_push : skip.at 1 ≡ shape h l d p o
  unfolding skip
  skip_push = before_at (Skip 1) (Push (truth_text b) ∷ []) (shape (h + 1) l d p o) (shape h l d p o) (shape (h + 1) l d p o) (pushed (truth_text b) h l d p o) tt ((omega arith, (pushed (truth_text b) h l d p o).ends), tt) 0 ∙ (pushed (truth_text b) h l d p o).starts

  again : shape (h + 1) l d p o ≡ shape (h + 1 - 1 + 1) l d p o
  again = ap (λ n. shape n l d p o) (omega arith)

  end_fits : Fits (ending b) (shape (h + 1) l d p o) (shape (h + 1) l d p o)
  end_fits = fits_before Truth (Skip 1 ∷ Push (truth_text b) ∷ []) (shape (h + 1) l d p o) (shape (h + 1) l d p o) (shape (h + 1) l d p o) skip (omega arith) ((omega arith, skip.starts ∙ again), tt)

  end_push : end_fits.at 2 ≡ shape h l d p o
  unfolding end_fits
  end_push = before_at Truth (Skip 1 ∷ Push (truth_text b) ∷ []) (shape (h + 1) l d p o) (shape (h + 1) l d p o) (shape (h + 1) l d p o) skip (omega arith) ((omega arith, skip.starts ∙ again), tt) 1 ∙ skip_push

  module _ (c : List Instruction) (x : Adds c) where
    rest : Fits (c ++ ending b) (shape h l d p o) (shape (h + 1) l d p o)
    rest = fits_joined c (ending b) (shape h l d p o) (shape (h + 1) l d p o) (shape (h + 1) l d p o) (x h l d p o) end_fits

    rest_push : rest.at (length c + 2) ≡ shape h l d p o
    unfolding rest
    rest_push = joined_back c (ending b) (shape h l d p o) (shape (h + 1) l d p o) (shape (h + 1) l d p o) (x h l d p o) end_fits 2 (length c + 2) refl ∙ end_push

    lazy_fits : Fits (lazy_code b c) (shape (h + 1) l d p o) (shape (h + 1) l d p o)
    lazy_fits =
        fits_before (SkipWhen b (length c + 2)) (c ++ ending b) (shape (h + 1) l d p o) (shape h l d p o) (shape (h + 1) l d p o) rest (omega arith)
        ((omega arith, rest.starts ∙ popped h l d p o), ((omega (arith, length-append c (ending b)), rest_push ∙ popped h l d p o), tt))

module _ (dialect : Dialect) where
  -- a truth value past the decided one
  then_skip : (b : Bool) (code : List Instruction) (at end : ℕ) (t : Text) (stack : Stack) (d : ℕ) (s : State) → HasAt code at (ending b) → at + 3 ≡ end → (r : Answer Text) → truth_answer dialect t ≡ r → LandsValue dialect code stack.loops (spot at (with_text t stack) d) s (text_at end stack d) (exec (Run dialect) (judged r) s)
  then_skip b code at end t stack d s has e (Ok v) f = one dialect code Truth has.0 (ap (λ x. on_answer x (text_at (at + 1) stack d) s) f) (one dialect code (Skip 1) has.1.0 refl (here dialect code (omega arith)))
  then_skip b code at end t stack d s has e (Err m) f = final dialect code Truth has.0 (λ next. ap (λ x. follow dialect next stack.loops (on_answer x (text_at (at + 1) stack d) s)) f)

  pub change_lazy : (b : Bool) (c : List Instruction) (m : ℕ → Prog Task (Value Text)) → Does dialect c m → Changes dialect (lazy_code b c) (λ d a. applied dialect (lazy b) a (m d))
  change_lazy b c m x = record {
    from = λ code at a stack d s has.
        then dialect code (truth dialect a) (λ holds. either (is_same holds b) (give (truth_text b)) (m d >>= λ t. judged (truth_answer dialect t))) (skips dialect code at b (length c + 2) a stack d s has.0)
        (λ holds u. go code at stack d u has (is_same holds b));
    fits = λ h l d p o. lazy_fits b h l d p o c x.adds;
  }
    where
      go : (code : List Instruction) (at : ℕ) (stack : Stack) (d : ℕ) (u : State) → HasAt code at (lazy_code b c) → (skip : Bool)
          → LandsValue dialect code stack.loops (spot (cond skip (at + 1 + (length c + 2)) (at + 1)) stack d) u (text_at (at + length (lazy_code b c)) stack d) (exec (Run dialect) (either skip (give (truth_text b)) (m d >>= λ t. judged (truth_answer dialect t))) u)
      go code at stack d u has true =
          let back = has_back code (at + 1) c (ending b) has.1 in
          let e : at + 1 + length c + 1 + 1 ≡ at + 1 + (length c + 2) = omega arith in
          one dialect code (Push (truth_text b)) (subst (λ n. slice_get code n ≡ Some (Push (truth_text b))) e back.1.1.0) refl (here dialect code (omega (arith, length-append c (ending b))))
      go code at stack d u has false =
          let back = has_back code (at + 1) c (ending b) has.1 in
          then dialect code (m d) (λ t. judged (truth_answer dialect t)) (x.from code (at + 1) stack d u (has_front code (at + 1) c (ending b) has.1))
          (λ t v. then_skip b code (at + 1 + length c) (at + length (lazy_code b c)) t stack d v back (omega (arith, length-append c (ending b))) (truth_answer dialect t) refl)

-- ---- `?:`

abbrev pub choice_code : List Instruction → List Instruction → List Instruction
choice_code e f = SkipWhen false (length e + 1) ∷ (e ++ Skip (length f) ∷ f)

module _ (h l d p o : ℕ) (e f : List Instruction) (x : Adds e) (y : Adds f) where
  past : Fits (Skip (length f) ∷ f) (shape (h + 1) l d p o) (shape (h + 1) l d p o)
  past = fits_before (Skip (length f)) f (shape (h + 1) l d p o) (shape h l d p o) (shape (h + 1) l d p o) (y h l d p o) tt ((omega arith, (y h l d p o).ends), tt)

  past_one : past.at 1 ≡ shape h l d p o
  unfolding past
  past_one = before_at (Skip (length f)) f (shape (h + 1) l d p o) (shape h l d p o) (shape (h + 1) l d p o) (y h l d p o) tt ((omega arith, (y h l d p o).ends), tt) 0 ∙ (y h l d p o).starts

  both : Fits (e ++ Skip (length f) ∷ f) (shape h l d p o) (shape (h + 1) l d p o)
  both = fits_joined e (Skip (length f) ∷ f) (shape h l d p o) (shape (h + 1) l d p o) (shape (h + 1) l d p o) (x h l d p o) past

  both_past : both.at (length e + 1) ≡ shape h l d p o
  unfolding both
  both_past = joined_back e (Skip (length f) ∷ f) (shape h l d p o) (shape (h + 1) l d p o) (shape (h + 1) l d p o) (x h l d p o) past 1 (length e + 1) refl ∙ past_one

  choice_fits : Fits (choice_code e f) (shape (h + 1) l d p o) (shape (h + 1) l d p o)
  choice_fits =
      fits_before (SkipWhen false (length e + 1)) (e ++ Skip (length f) ∷ f) (shape (h + 1) l d p o) (shape h l d p o) (shape (h + 1) l d p o) both (omega arith)
      ((omega arith, both.starts ∙ popped h l d p o), ((omega (arith, length-append e (Skip (length f) ∷ f)), both_past ∙ popped h l d p o), tt))

module _ (dialect : Dialect) where
  abbrev pub chosen : (ℕ → Prog Task (Value Text)) → (ℕ → Prog Task (Value Text)) → ℕ → Text → Prog Task (Value Text)
  chosen m n d t = truth dialect t >>= λ holds. either holds (m d) (n d)

  -- a program that comes to a place, and a skip from there
  and_skip : {p : Spot} {s : State} (code : List Instruction) (at end n : ℕ) (stack : Stack) (d : ℕ) (g : Got (Value Text)) → slice_get code at ≡ Some (Skip n) → at + 1 + n ≡ end → LandsValue dialect code stack.loops p s (text_at at stack d) g → LandsValue dialect code stack.loops p s (text_at end stack d) g
  and_skip code at end n stack d (Gives (Has t) u) h e x = record {
    by = λ k.
        let a = x.by (suc k) in (
          a.0,
          omega (arith, a.1),
          a.2 ∙ ap (λ i. act dialect i (exec_code dialect code k) (spot at (with_text t stack) d) u) h ∙ ap (λ m. exec_code dialect code k (spot m (with_text t stack) d) u) e,
        );
  }
  and_skip code at end n stack d (Gives (Fails c) u) h e x = record { by = x.by }
  and_skip code at end n stack d (Broke u) h e x = record { by = x.by }
  and_skip code at end n stack d (Exits m u) h e x = record { by = x.by }
  and_skip code at end n stack d (Untold c) h e x = record { by = x.by }

  pub change_choice : (e f : List Instruction) (m n : ℕ → Prog Task (Value Text)) → Does dialect e m → Does dialect f n → Changes dialect (choice_code e f) (chosen m n)
  change_choice e f m n x y = record {
    from = λ code at t stack d s has. then dialect code (truth dialect t) (λ holds. either holds (m d) (n d)) (skips dialect code at false (length e + 1) t stack d s has.0) (λ holds u. go code at stack d u has holds);
    fits = λ h l d p o. choice_fits h l d p o e f x.adds y.adds;
  }
    where
      go : (code : List Instruction) (at : ℕ) (stack : Stack) (d : ℕ) (u : State) → HasAt code at (choice_code e f) → (holds : Bool)
          → LandsValue dialect code stack.loops (skipped dialect false (length e + 1) at stack d holds) u (text_at (at + length (choice_code e f)) stack d) (exec (Run dialect) (either holds (m d) (n d)) u)
      go code at stack d u has true =
          let back = has_back code (at + 1) e (Skip (length f) ∷ f) has.1 in
          and_skip code (at + 1 + length e) (at + length (choice_code e f)) (length f) stack d (exec (Run dialect) (m d) u) back.0 (omega (arith, length-append e (Skip (length f) ∷ f)))
          (x.from code (at + 1) stack d u (has_front code (at + 1) e (Skip (length f) ∷ f) has.1))
      go code at stack d u has false =
          let back = has_back code (at + 1) e (Skip (length f) ∷ f) has.1 in
          let k : at + 1 + length e + 1 ≡ at + 1 + (length e + 1) = omega arith in
          moved dialect code (omega (arith, length-append e (Skip (length f) ∷ f))) (y.from code (at + 1 + (length e + 1)) stack d u (subst (λ j. HasAt code j f) k back.1))
