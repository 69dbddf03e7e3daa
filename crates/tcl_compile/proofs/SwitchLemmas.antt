-- `switch`, inlined.
use Rattle.std.proofs.Common.{◌≡◌, ℕ, suc, ◌+◌, ◌-◌, ◌<◌, ◌≤◌, Bool, true, false, ◌||◌, ◌&&◌, List, [], ◌∷◌, ◌++◌, length, get_or, drop, map, Some, None, Ok, Err, cond, refl, sym, ap, ◌∙◌, subst, arith, length-append, length-drop}
use Rattle.std.specs.Prelude.{codes, if◌then◌else◌}
use Rattle.std.proofs.lemmas.Bool.{false≢true}
use Rattle.tcl_chars.specs.Characters.{close_brace, quote}
use Rattle.tcl_chars.specs.Escape.{escape}
use Rattle.tcl_chars.specs.Messages.{truth_value}
use Rattle.tcl_chars.specs.Texts.{literal}
use Rattle.tcl_chars.specs.Whole.{whole_of, magnitude}
use Rattle.tcl_chars.specs.declared.numbers.Dialect.{Dialect}
use Rattle.tcl_chars.specs.declared.numbers.Dialect.TheVariants as dialects
use Rattle.tcl_chars.proofs.EscapesLemmas.{escape_takes}
use Rattle.tcl_chars.proofs.Literals.{literal_chars}
use Rattle.tcl_chars.proofs.Same.{same_symm}
use Rattle.tcl_expr.specs.declared.token.BinaryOp.TheVariants as binary
use Rattle.tcl_list.specs.Elements.{elements_of}
use Rattle.tcl_list.specs.Spelling.{Letters, Spells, Reads}
use Rattle.tcl_list.specs.Texts as texts
use Rattle.tcl_list.proofs.OneList.{reading_is_spelling}
use Rattle.tcl_names.proofs.Apart.{alike}
use Rattle.tcl_words.specs.Parts.{Shape}
use Rattle.tcl_pages.specs.Dictionaries.{pairs}
use Rattle.tcl_pages.specs.Results.{truth_text}
use Rattle.tcl_pages.specs.Texts.{Text, same_text}
use Rattle.tcl_meaning.specs.Asking.{ask}
use Rattle.tcl_meaning.specs.Completions.{Completion, normal}
use Rattle.tcl_meaning.specs.Control.{body_asks, switch_page, switch_of, switch_among}
use Rattle.tcl_meaning.specs.Effects.{Here, Prog, exec, ◌>>=◌ as andthen}
use Rattle.tcl_meaning.specs.Expressions.{is_same}
use Rattle.tcl_meaning.specs.Pages.{invoked, page_asks}
use Rattle.tcl_meaning.specs.Script.{Run, run_command, page_in}
use Rattle.tcl_meaning.specs.Shapes.{chosen, is_dash, is_default, last_checked, no_body, paired, with_pattern, body_from}
use Rattle.tcl_meaning.specs.State.{State}
use Rattle.tcl_meaning.specs.Substitution.{pieces_text}
use Rattle.tcl_meaning.specs.Tasks.{Task, Run as Runs_script, Nothing}
use Rattle.tcl_meaning.specs.Value.{Value, Has, Fails, judged, ◌>>=◌}
use Rattle.tcl_meaning.proofs.Reaching.{on_got_same}
use Rattle.tcl_meaning.proofs.Runs.{exec_bind}
use Rattle.tcl_code.specs.Guards.{name_of}
use Rattle.tcl_code.specs.Instructions.{Instruction, Push, Duplicate, Under, Call, Binary, Guard, Skip, SkipWhen, Answer as AnswerTop}
use Rattle.tcl_code.specs.Machine.{Stack, with_text, with_result, result_at, spot, on_answer}
use Rattle.tcl_code.specs.Parts.{Fits, HasAt, Lands}
use Rattle.tcl_code.specs.Valid.{Ahead, shape}
use Rattle.tcl_code.specs.declared.inlined.Inlined.TheVariants as inlined
use Rattle.tcl_code.proofs.Place.{has_front, has_back}
use Rattle.tcl_code.proofs.Shapes.{fits_one, fits_same, fits_joined}
use Rattle.tcl_code.proofs.Steps.{one_done, final_done, here_done, moved_done, same_done}
use Rattle.tcl_compile.specs.Emitted.{CommandCode, WordCode}
use Rattle.tcl_compile.specs.Forms.{BodyCode, page_does}
use Rattle.tcl_compile.specs.Fragments.{Grown, words_value}
use Rattle.tcl_compile.specs.Inlining.{Makes, Says, Uses, asking}
use Rattle.tcl_compile.specs.Literals.{IsLiteral, spelled, text_of}
use Rattle.tcl_compile.specs.Switches.{AreArms, IsMarked, EndsIn, IsSwitch, ArmCode, ArmsCode, called_by, is_last_default, testing}
use Rattle.tcl_compile.specs.Within.{WordsAreShort, ArgumentsAreShort, TextsAreShort}
use Rattle.tcl_compile.specs.declared.switching.SwitchForm.{SwitchForm}
use Rattle.tcl_compile.proofs.Commands.{words_one, command_is}
use Rattle.tcl_compile.proofs.Conditions.{none_makes}
use Rattle.tcl_compile.proofs.Emits.{Code, ext, join}
use Rattle.tcl_compile.proofs.Failing.{finishing}
use Rattle.tcl_compile.proofs.Forks.{LedHere, forked}
use Rattle.tcl_compile.proofs.Guarded.{all_said, fork, further, on_fits, said_next, word_runs}
use Rattle.tcl_compile.proofs.Inlined.{clauses_are}
use Rattle.tcl_compile.proofs.LiteralWords.{of_some, says}

-- ---- elements are no longer than their list

letters_fill : (end : _) (cs said rest : List ℕ) → Letters end cs said rest → length said + length rest ≤ length cs
letters_fill end _ _ _ (Letters.none rest) = omega arith
letters_fill end _ _ _ (Letters.plain c cs said rest e n l) = omega (arith, letters_fill end cs said rest l)
letters_fill end _ _ _ (Letters.escaped c cs said rest e l) = omega (arith, letters_fill end _ said rest l, escape_takes c cs, length-drop (escape (c ∷ cs)).1 (c ∷ cs))

spelling_fills : (cs e rest : List ℕ) → Spells cs e rest → length e + length rest ≤ length cs
spelling_fills _ _ _ (Spells.bare c cs e rest s b q l k) = letters_fill _ (c ∷ cs) e rest l
spelling_fills _ _ _ (Spells.quoted c cs e rest q l k) = omega (arith, letters_fill _ cs e (quote ∷ rest) l)
spelling_fills _ _ _ (Spells.braced c cs e rest q b j k) = omega (arith, ap length j, length-append e (close_brace ∷ rest))

reads_short : (n : ℕ) (cs : List ℕ) (es : List (List ℕ)) → length cs ≤ n → Reads cs es → TextsAreShort n es
reads_short n _ _ le Reads.nothing = tt
reads_short n _ _ le (Reads.space c cs es s r) = reads_short n cs es (omega (arith, le)) r
reads_short n _ _ le (Reads.element cs e rest es s r) = let fill = spelling_fills cs e rest s in (omega (arith, le, fill), reads_short n rest es (omega (arith, le, fill)) r)

-- ---- truth values and texts

truth_is : (dialect : Dialect) (b : Bool) → truth_value dialect (truth_text b) ≡ Ok b
unfolding whole_of magnitude
truth_is dialects.Tcl86 true = ap (truth_value dialects.Tcl86) (literal_chars (codes "1") refl)
truth_is dialects.Tcl86 false = ap (truth_value dialects.Tcl86) (literal_chars (codes "0") refl)
truth_is dialects.Tcl9 true = ap (truth_value dialects.Tcl9) (literal_chars (codes "1") refl)
truth_is dialects.Tcl9 false = ap (truth_value dialects.Tcl9) (literal_chars (codes "0") refl)

or_true : (x y : Bool) → y ≡ true → (x || y) ≡ true
or_true true y e = refl
or_true false y e = e

or_false : (x y : Bool) → y ≡ false → (x || y) ≡ x
or_false true y e = refl
or_false false y e = e

-- ---- the arms of a list

paired_is : (ts : List Text) → AreArms ts → paired ts ≡ Ok (pairs ts)
paired_is [] h = refl
paired_is (p ∷ []) h = absurd h
paired_is (p ∷ b ∷ ts) h = ap (with_pattern p b) (paired_is ts h.1)

checked_is : (ts : List Text) → AreArms ts → last_checked (pairs ts) ≡ Ok tt
checked_is [] h = refl
checked_is (p ∷ []) h = absurd h
checked_is (p ∷ b ∷ []) h = ap (λ x. if x then Err (no_body p) else Ok tt) h.0
checked_is (p ∷ b ∷ q ∷ []) h = absurd h.1
checked_is (p ∷ b ∷ q ∷ c ∷ ts) h = checked_is (q ∷ c ∷ ts) h.1

-- where a pattern is the last, it is no `default`
not_default : (p b : Text) (ts : List Text) → AreArms ts → is_last_default (p ∷ b ∷ ts) ≡ false → is_default p (pairs ts) ≡ false
not_default p b [] h e = e
not_default p b (q ∷ []) h e = absurd h
not_default p b (q ∷ c ∷ ts) h e = refl

-- the body of the first pattern, or of one behind it
first_is : (p b : Text) (ts : List Text) (t : Text) (x : Bool) → is_dash b ≡ false → (same_text p t || is_default p (pairs ts)) ≡ x → chosen false t (pairs (p ∷ b ∷ ts)) ≡ (if x then Some b else chosen false t (pairs ts))
first_is p b ts t x body e =
    ap (λ y. if y then body_from ((p, b) ∷ pairs ts) else chosen false t (pairs ts)) e
    ∙ ap (λ z. if x then (if z then body_from (pairs ts) else Some b) else chosen false t (pairs ts)) body

pub arms_behind : {A : Type 0} (f : A → Text) (xs : List A) → 2 ≤ length xs → AreArms (map f xs) → AreArms (map f (drop 2 xs))
arms_behind f [] le h = absurd (omega (arith, le))
arms_behind f (x ∷ []) le h = absurd h
arms_behind f (x ∷ y ∷ xs) le h = h.1

-- these arms are some, or none, of a list where the rest of it is
pub arms_from : {A : Type 0} (f : A → Text) (xs ys : List A) (b : A) → 2 ≤ length ys → b ≡ get_or ys 1 b → is_dash (f b) ≡ false → (AreArms (map f ys) → AreArms (map f xs)) → AreArms (map f (drop 2 ys)) → AreArms (map f xs)
arms_from f xs [] b le e body h k = absurd (omega (arith, le))
arms_from f xs (x ∷ []) b le e body h k = absurd (omega (arith, le))
arms_from f xs (x ∷ y ∷ ys) b le e body h k = h (subst (λ z. is_dash (f z) ≡ false) e body, k)

pub short_behind : {A : Type 0} (f : A → Text) (n : ℕ) (xs : List A) → TextsAreShort n (map f xs) → TextsAreShort n (map f (drop 2 xs))
short_behind f n [] h = tt
short_behind f n (x ∷ []) h = tt
short_behind f n (x ∷ y ∷ xs) h = h.1.1

pub short_at : {A : Type 0} (f : A → Text) (n : ℕ) (xs : List A) (b : A) → 2 ≤ length xs → b ≡ get_or xs 1 b → TextsAreShort n (map f xs) → length (f b) ≤ n
short_at f n [] b le e h = absurd (omega (arith, le))
short_at f n (x ∷ []) b le e h = absurd (omega (arith, le))
short_at f n (x ∷ y ∷ xs) b le e h = subst (λ z. length (f z) ≤ n) (sym e) h.1.0

-- ---- the words

abbrev pub switch_texts : Bool → Text → Text → List Text
switch_texts false list t = t ∷ list ∷ []
switch_texts true list t = literal "--" ∷ t ∷ list ∷ []

last_short : (n : ℕ) (list : Text) (ws : List Shape) → EndsIn list ws → WordsAreShort n ws → length list ≤ n
last_short n list [] h k = absurd h
last_short n list (w ∷ []) h k = of_some (λ t. length t ≤ n) (spelled w.pieces) list h.1 k.0
last_short n list (w ∷ x ∷ ws) h k = last_short n list (x ∷ ws) h k.1

list_short : (n : ℕ) (marked : Bool) (list : Text) (ws : List Shape) → IsMarked marked ws → EndsIn list ws → ArgumentsAreShort n ws → length list ≤ n
list_short n marked list [] m h k = absurd h
list_short n false list (w0 ∷ []) m h k = absurd m
list_short n true list (w0 ∷ []) m h k = absurd m
list_short n marked list (w0 ∷ w ∷ ws) m h k = last_short n list (w ∷ ws) h k

pub switch_short : (n : ℕ) (f : SwitchForm) (ws : List Shape) → IsSwitch f ws → ArgumentsAreShort n ws → TextsAreShort n (map texts.text_of f.arms.items)
switch_short n f ws is k = reads_short n (text_of f.list) (map texts.text_of f.arms.items) (list_short n f.marked (text_of f.list) ws is.0 is.1 k) ((reading_is_spelling (text_of f.list) (map texts.text_of f.arms.items)).0 is.2.0)

pub switch_long : (f : SwitchForm) (ws : List Shape) → IsSwitch f ws → 3 ≤ length ws
switch_long f ws is = go f.marked ws is.0
  where
    go : (marked : Bool) (ws : List Shape) → IsMarked marked ws → 3 ≤ length ws
    go false [] h = absurd h
    go false (w0 ∷ []) h = absurd h
    go false (w0 ∷ w ∷ []) h = absurd h
    go false (w0 ∷ w ∷ w1 ∷ []) h = omega arith
    go false (w0 ∷ w ∷ w1 ∷ x ∷ ws) h = absurd h
    go true [] h = absurd h
    go true (w0 ∷ []) h = absurd h
    go true (w0 ∷ m ∷ []) h = absurd h
    go true (w0 ∷ m ∷ w ∷ []) h = absurd h
    go true (w0 ∷ m ∷ w ∷ w1 ∷ []) h = omega arith
    go true (w0 ∷ m ∷ w ∷ w1 ∷ x ∷ ws) h = absurd h

-- the last word is the list
pub ends_in : {A : Type 0} (f : A → Shape) (list : Text) (xs : List A) (x : A) → 0 < length xs → x ≡ get_or xs (length xs - 1) x → IsLiteral (f x) list → EndsIn list (map f xs)
ends_in f list [] x lt e h = absurd (omega (arith, lt))
ends_in f list (y ∷ []) x lt e h = subst (λ z. IsLiteral (f z) list) e h
ends_in f list (y ∷ z ∷ xs) x lt e h =
    let n : suc (suc (length xs)) - 1 ≡ suc (suc (length xs) - 1) = omega arith in
    ends_in f list (z ∷ xs) x (omega arith) (e ∙ ap (λ m. get_or (y ∷ z ∷ xs) m x) n) h

module _ (dialect : Dialect) where
  -- ---- the page

  of_list : (list t : Text) (ts : List Text) → elements_of list ≡ Ok ts → AreArms ts → switch_of false (t ∷ list ∷ []) ≡ body_asks (chosen false t (pairs ts))
  of_list list t ts e h =
      ap (λ r. judged r >>= λ words. switch_among false t words) e
      ∙ ap (λ r. judged r >>= λ ps. judged (last_checked ps) >>= λ z. body_asks (chosen false t ps)) (paired_is ts h)
      ∙ ap (λ r. judged r >>= λ z. body_asks (chosen false t (pairs ts))) (checked_is ts h)

  page_is : (marked : Bool) (list t : Text) (ts : List Text) → elements_of list ≡ Ok ts → AreArms ts → switch_page (switch_texts marked list t) ≡ body_asks (chosen false t (pairs ts))
  unfolding switch_page
  page_is false list t ts e h = of_list list t ts e h
  page_is true list t ts e h = rw (alike (literal "--")) (of_list list t ts e h)

  does_is : (marked : Bool) (list t : Text) (ts : List Text) (d : ℕ) (s : State) → elements_of list ≡ Ok ts → AreArms ts → exec (Run dialect) (page_does dialect inlined.Switch (switch_texts marked list t) d) s ≡ exec (Run dialect) (asking dialect 1 (body_asks (chosen false t (pairs ts))) d) s
  unfolding page_asks
  does_is marked list t ts d s e h = ap (λ page. exec (Run dialect) (page_in dialect d page) s) (page_is marked list t ts e h) ∙ clauses_are dialect [] (chosen false t (pairs ts)) d s

  -- ---- what is done with the text on top

  uses_same : {q r : ℕ} {c : List Instruction} {f g : ℕ → Text → Prog Task Completion} → ((d : ℕ) (t : Text) (s : State) → exec (Run dialect) (f d t) s ≡ exec (Run dialect) (g d t) s) → Uses dialect q r c f → Uses dialect q r c g
  uses_same same x = record { from = λ code at t last stack d s has. same_done dialect code (same d t s) (x.from code at t last stack d s has); fits = x.fits }

  dropped : (c : List Instruction) (f : ℕ → Prog Task Completion) → Makes dialect c f → Uses dialect 0 0 (AnswerTop ∷ c) (λ d t. f d)
  dropped c f x = record {
    from = λ code at t last stack d s has. one_done dialect code AnswerTop has.0 refl (moved_done dialect code (omega arith) (x.from code (at + 1) (normal t) stack d s has.1));
    fits = λ h l d p o.
        fits_joined (AnswerTop ∷ []) c (shape (h + 1) l d (p + 0) o) (shape h l d (p + 0) o) (shape h l d (p + 0) o)
        (fits_one AnswerTop (shape (h + 1) l d (p + 0) o) (shape h l d (p + 0) o) _ (omega arith) refl (ap (λ n. shape n l d (p + 0) o) (omega arith)))
        (x.keeps h l d (p + 0) o);
  }

  -- a test, what follows where the text is the pattern, and what does where it isn't
  abbrev test_code : Text → List Instruction → List Instruction → List Instruction
  test_code p a g = testing p ++ fork (SkipWhen false (length a + 1)) a g

  test_fits : (p : Text) (a g : List Instruction) (h l d q o : ℕ) → Fits a (shape (h + 1) l d q o) (shape h l d q o) → Fits g (shape (h + 1) l d q o) (shape h l d q o) → Fits (test_code p a g) (shape (h + 1) l d q o) (shape h l d q o)
  test_fits p a g h l d q o x y =
      fits_joined (Duplicate ∷ []) (Push p ∷ Binary binary.TextEqual ∷ fork (SkipWhen false (length a + 1)) a g) (shape (h + 1) l d q o) (shape (h + 1 + 1) l d q o) (shape h l d q o)
      (fits_one Duplicate (shape (h + 1) l d q o) (shape (h + 1 + 1) l d q o) _ (omega arith) refl (ap (λ n. shape n l d q o) (omega arith)))
      (fits_joined (Push p ∷ []) (Binary binary.TextEqual ∷ fork (SkipWhen false (length a + 1)) a g) (shape (h + 1 + 1) l d q o) (shape (h + 1 + 1 + 1) l d q o) (shape h l d q o)
      (fits_one (Push p) (shape (h + 1 + 1) l d q o) (shape (h + 1 + 1 + 1) l d q o) _ tt refl (ap (λ n. shape n l d q o) (omega arith)))
      (fits_joined (Binary binary.TextEqual ∷ []) (fork (SkipWhen false (length a + 1)) a g) (shape (h + 1 + 1 + 1) l d q o) (shape (h + 1 + 1) l d q o) (shape h l d q o)
      (fits_one (Binary binary.TextEqual) (shape (h + 1 + 1 + 1) l d q o) (shape (h + 1 + 1) l d q o) _ (omega arith, tt) refl (ap (λ n. shape n l d q o) (omega arith)))
      (on_fits (SkipWhen false (length a + 1)) a g (shape (h + 1 + 1) l d q o) (shape (h + 1) l d q o) (shape (h + 1) l d q o) (shape h l d q o) x y (omega arith)
      (ap (λ i. (Ahead 0, shape i l d q o) ∷ (Ahead (length a + 1), shape i l d q o) ∷ []) (omega arith)))))

  module _ (p : Text) (a g : List Instruction) (yes no whole : ℕ → Text → Prog Task Completion)
      (holds : (d : ℕ) (t : Text) (s : State) → same_text t p ≡ true → exec (Run dialect) (yes d t) s ≡ exec (Run dialect) (whole d t) s)
      (fails : (d : ℕ) (t : Text) (s : State) → same_text t p ≡ false → exec (Run dialect) (no d t) s ≡ exec (Run dialect) (whole d t) s)
      (x : Uses dialect 0 0 a yes) (y : Uses dialect 0 0 g no) where
    forks : (code : List Instruction) (at : ℕ) (t : Text) (last : Completion) (stack : Stack) (d : ℕ) (s : State) → HasAt code at (fork (SkipWhen false (length a + 1)) a g) → (b : Bool) → same_text t p ≡ b
        → Lands dialect code stack.loops (spot at (with_text (truth_text (same_text t p)) (with_text t (with_result last stack))) d) s (result_at (at + length (fork (SkipWhen false (length a + 1)) a g)) stack d) (exec (Run dialect) (whole d t) s)
    forks code at t last stack d s has true e =
        let back = has_back code (at + 1) a (Skip (length g) ∷ g) has.1 in
        let here = with_text t (with_result last stack) in
        let long = length-append a (Skip (length g) ∷ g) in
        one_done dialect code (SkipWhen false (length a + 1)) has.0 (ap (λ z. on_answer z (λ holds. spot (cond (is_same holds false) (at + 1 + (length a + 1)) (at + 1)) here d) s) (truth_is dialect (same_text t p) ∙ ap Ok e))
        (same_done dialect code (holds d t s e)
        (further dialect code (exec (Run dialect) (yes d t) s) (x.from code (at + 1) t last stack d s (has_front code (at + 1) a (Skip (length g) ∷ g) has.1))
        (λ c u fine. one_done dialect code (Skip (length g)) back.0 refl (here_done dialect code (omega (arith, long)) fine))))
    forks code at t last stack d s has false e =
        let back = has_back code (at + 1) a (Skip (length g) ∷ g) has.1 in
        let here = with_text t (with_result last stack) in
        let long = length-append a (Skip (length g) ∷ g) in
        let n : at + 1 + length a + 1 ≡ at + 1 + (length a + 1) = omega arith in
        one_done dialect code (SkipWhen false (length a + 1)) has.0 (ap (λ z. on_answer z (λ holds. spot (cond (is_same holds false) (at + 1 + (length a + 1)) (at + 1)) here d) s) (truth_is dialect (same_text t p) ∙ ap Ok e))
        (same_done dialect code (fails d t s e)
        (moved_done dialect code (omega (arith, long)) (y.from code (at + 1 + (length a + 1)) t last stack d s (subst (λ m. HasAt code m g) n back.1))))

    tested : Uses dialect 0 0 (test_code p a g) whole
    tested = record {
      from = λ code at t last stack d s has.
          one_done dialect code Duplicate has.0 refl (one_done dialect code (Push p) has.1.0 refl (one_done dialect code (Binary binary.TextEqual) has.1.1.0 refl
          (moved_done dialect code (omega arith) (forks code (at + 1 + 1 + 1) t last stack d s has.1.1.1 (same_text t p) refl))));
      fits = λ h l d q o. test_fits p a g h l d (q + 0) o (x.fits h l d q o) (y.fits h l d q o);
    }

  -- ---- the words, and the general call

  -- a word whose text is known stands behind one
  known_last : (d : ℕ) (w w1 : Shape) (ts : Text → List Text) (list : Text) (s : State) → Says w1 list
      → exec (Run dialect) (andthen (pieces_text d w.pieces) (finishing (λ t. words_value dialect d (ts t) (w1 ∷ [])))) s ≡ exec (Run dialect) (andthen (pieces_text d w.pieces) (finishing (λ t. page_in dialect d (invoked dialect (ts t ++ list ∷ []))))) s
  known_last d w w1 ts list s said =
      exec_bind (Run dialect) (pieces_text d w.pieces) (finishing (λ t. words_value dialect d (ts t) (w1 ∷ []))) s
      ∙ on_got_same (exec (Run dialect) (pieces_text d w.pieces) s) (λ v u. exec (Run dialect) (finishing (λ t. words_value dialect d (ts t) (w1 ∷ [])) v) u) (λ v u. exec (Run dialect) (finishing (λ t. page_in dialect d (invoked dialect (ts t ++ list ∷ []))) v) u) go
      ∙ sym (exec_bind (Run dialect) (pieces_text d w.pieces) (finishing (λ t. page_in dialect d (invoked dialect (ts t ++ list ∷ [])))) s)
    where
      go : (v : Value Text) (u : State) → exec (Run dialect) (finishing (λ t. words_value dialect d (ts t) (w1 ∷ [])) v) u ≡ exec (Run dialect) (finishing (λ t. page_in dialect d (invoked dialect (ts t ++ list ∷ []))) v) u
      go (Has t) u = all_said dialect d (ts t) (w1 ∷ []) (list ∷ []) u (said, tt)
      go (Fails c) u = refl

  -- what the command does, where the text of the word is there
  abbrev calling : Bool → Text → ℕ → Text → Prog Task Completion
  calling marked list d t = page_in dialect d (invoked dialect (name_of inlined.Switch ∷ switch_texts marked list t))

  switch_is : (marked : Bool) (list : Text) (ws : List Shape) (w : Shape) (d : ℕ) (s : State) → IsMarked marked ws → EndsIn list ws → w ≡ get_or ws (length ws - 2) w → exec (Run dialect) (run_command dialect d ws) s ≡ exec (Run dialect) (andthen (pieces_text d w.pieces) (finishing (calling marked list d))) s
  switch_is false list [] w d s m h e = absurd m
  switch_is false list (w0 ∷ []) w d s m h e = absurd m
  switch_is false list (w0 ∷ v ∷ []) w d s m h e = absurd m
  switch_is false list (w0 ∷ v ∷ w1 ∷ x ∷ ws) w d s m h e = absurd m
  switch_is false list (w0 ∷ v ∷ w1 ∷ []) w d s m h e =
      let name = name_of inlined.Switch in
      sym (command_is dialect d (w0 ∷ v ∷ w1 ∷ []) s)
      ∙ said_next dialect d [] w0 (v ∷ w1 ∷ []) name s (says w0 name m.0)
      ∙ words_one dialect d (name ∷ []) v (w1 ∷ []) s m.1
      ∙ known_last d v w1 (λ t. name ∷ t ∷ []) list s (says w1 list h)
      ∙ ap (λ (z : Shape). exec (Run dialect) (andthen (pieces_text d z.pieces) (finishing (calling false list d))) s) (sym e)
  switch_is true list [] w d s m h e = absurd m
  switch_is true list (w0 ∷ []) w d s m h e = absurd m
  switch_is true list (w0 ∷ k ∷ []) w d s m h e = absurd m
  switch_is true list (w0 ∷ k ∷ v ∷ []) w d s m h e = absurd m
  switch_is true list (w0 ∷ k ∷ v ∷ w1 ∷ x ∷ ws) w d s m h e = absurd m
  switch_is true list (w0 ∷ k ∷ v ∷ w1 ∷ []) w d s m h e =
      let name = name_of inlined.Switch in
      sym (command_is dialect d (w0 ∷ k ∷ v ∷ w1 ∷ []) s)
      ∙ said_next dialect d [] w0 (k ∷ v ∷ w1 ∷ []) name s (says w0 name m.0)
      ∙ said_next dialect d (name ∷ []) k (v ∷ w1 ∷ []) (literal "--") s (says k (literal "--") m.1)
      ∙ words_one dialect d (name ∷ literal "--" ∷ []) v (w1 ∷ []) s m.2
      ∙ known_last d v w1 (λ t. name ∷ literal "--" ∷ t ∷ []) list s (says w1 list h)
      ∙ ap (λ (z : Shape). exec (Run dialect) (andthen (pieces_text d z.pieces) (finishing (calling true list d))) s) (sym e)

  under_fits : (t : Text) (h l d q o : ℕ) → Fits (Under t ∷ []) (shape (h + 1) l d q o) (shape (h + 1 + 1) l d q o)
  under_fits t h l d q o = fits_one (Under t) (shape (h + 1) l d q o) (shape (h + 1 + 1) l d q o) _ (omega arith) refl (ap (λ n. shape n l d q o) (omega arith))

  push_fits : (t : Text) (h l d q o : ℕ) → Fits (Push t ∷ []) (shape h l d q o) (shape (h + 1) l d q o)
  push_fits t h l d q o = fits_one (Push t) (shape h l d q o) (shape (h + 1) l d q o) _ tt refl (ap (λ n. shape n l d q o) (omega arith))

  call_fits : (n h l d q o : ℕ) → Fits (Call n ∷ []) (shape (h + n) l d (q + 1) o) (shape h l d (q + 0) o)
  call_fits n h l d q o = fits_one (Call n) (shape (h + n) l d (q + 1) o) (shape h l d (q + 0) o) _ (omega arith, omega arith) refl (ap (λ m. shape m l d (q + 1 - 1) o) (omega arith) ∙ ap (λ m. shape h l d m o) (omega arith))

  called_uses : (marked : Bool) (list : Text) → Uses dialect 1 0 (called_by marked list) (calling marked list)
  called_uses false list = record {
    from = λ code at t last stack d u has.
        let name = name_of inlined.Switch in
        one_done dialect code (Under name) has.0 refl (one_done dialect code (Push list) has.1.0 refl
        (moved_done dialect code (omega arith) (final_done dialect code {os = stack.loops} {p = spot (at + 1 + 1) (with_text list (with_text t (with_text name (with_result last stack)))) d} {s = u} {r = result_at (at + 1 + 1 + 1) stack d} (Call 3) has.1.1.0 (λ next. refl))));
    fits = λ h l d q o.
        fits_joined (Under (name_of inlined.Switch) ∷ []) (Push list ∷ Call 3 ∷ []) (shape (h + 1) l d (q + 1) o) (shape (h + 1 + 1) l d (q + 1) o) (shape h l d (q + 0) o) (under_fits (name_of inlined.Switch) h l d (q + 1) o)
        (fits_joined (Push list ∷ []) (Call 3 ∷ []) (shape (h + 1 + 1) l d (q + 1) o) (shape (h + 1 + 1 + 1) l d (q + 1) o) (shape h l d (q + 0) o) (push_fits list (h + 1 + 1) l d (q + 1) o)
        (fits_same (ap (λ m. shape m l d (q + 1) o) (omega arith)) refl (call_fits 3 h l d q o)));
  }
  called_uses true list = record {
    from = λ code at t last stack d u has.
        let name = name_of inlined.Switch in
        one_done dialect code (Under name) has.0 refl (one_done dialect code (Under (literal "--")) has.1.0 refl (one_done dialect code (Push list) has.1.1.0 refl
        (moved_done dialect code (omega arith) (final_done dialect code {os = stack.loops} {p = spot (at + 1 + 1 + 1) (with_text list (with_text t (with_text (literal "--") (with_text name (with_result last stack))))) d} {s = u} {r = result_at (at + 1 + 1 + 1 + 1) stack d} (Call 4) has.1.1.1.0 (λ next. refl)))));
    fits = λ h l d q o.
        fits_joined (Under (name_of inlined.Switch) ∷ []) (Under (literal "--") ∷ Push list ∷ Call 4 ∷ []) (shape (h + 1) l d (q + 1) o) (shape (h + 1 + 1) l d (q + 1) o) (shape h l d (q + 0) o) (under_fits (name_of inlined.Switch) h l d (q + 1) o)
        (fits_joined (Under (literal "--") ∷ []) (Push list ∷ Call 4 ∷ []) (shape (h + 1 + 1) l d (q + 1) o) (shape (h + 1 + 1 + 1) l d (q + 1) o) (shape h l d (q + 0) o) (under_fits (literal "--") (h + 1) l d (q + 1) o)
        (fits_joined (Push list ∷ []) (Call 4 ∷ []) (shape (h + 1 + 1 + 1) l d (q + 1) o) (shape (h + 1 + 1 + 1 + 1) l d (q + 1) o) (shape h l d (q + 0) o) (push_fits list (h + 1 + 1 + 1) l d (q + 1) o)
        (fits_same (ap (λ m. shape m l d (q + 1) o) (omega arith)) refl (call_fits 4 h l d q o))));
  }

  -- ---- what is emitted

  pub grown_no_arms : (m0 m1 m2 : Code) (ts : List Text) → length ts < 2 → AreArms ts → m1 ≡ m0 ++ AnswerTop ∷ [] → m2 ≡ m1 ++ Push [] ∷ AnswerTop ∷ [] → Grown (ArmsCode dialect ts) m0 m2
  grown_no_arms m0 m1 m2 [] lt h e f = (
    AnswerTop ∷ Push [] ∷ AnswerTop ∷ [],
    (join (ext {m0 = m0} {c = AnswerTop ∷ []} e) (ext {m0 = m1} {c = Push [] ∷ AnswerTop ∷ []} f)).is,
    dropped (Push [] ∷ AnswerTop ∷ []) (asking dialect 1 (body_asks None)) (none_makes dialect 1),
  )
  grown_no_arms m0 m1 m2 (p ∷ []) lt h e f = absurd h
  grown_no_arms m0 m1 m2 (p ∷ b ∷ ts) lt h e f = absurd (omega (arith, lt))

  pub grown_arm : (m0 m1 m2 : Code) (body : Text) → m1 ≡ m0 ++ AnswerTop ∷ [] → Grown (BodyCode dialect body) m1 m2 → Grown (ArmCode dialect body) m0 m2
  grown_arm m0 m1 m2 body e g = (
    AnswerTop ∷ g.0,
    (join (ext {m0 = m0} {c = AnswerTop ∷ []} e) (ext {m0 = m1} {c = g.0} g.1)).is,
    λ n. dropped g.0 (asking dialect (suc n) (ask (Runs_script Here body Nothing))) (g.2 n),
  )

  default_is : (p b : Text) (c : Code) → is_dash b ≡ false → is_last_default (p ∷ b ∷ []) ≡ true → ArmCode dialect b c → ArmsCode dialect (p ∷ b ∷ []) c
  default_is p b c body e x =
      uses_same (λ d t s. ap (λ o. exec (Run dialect) (asking dialect 1 (body_asks o) d) s) (sym (first_is p b [] t true body (or_true (same_text p t) (is_default p []) e)))) (x 0)

  pub grown_default : {A : Type 0} (f : A → Text) (xs : List A) (b : A) (m0 m1 : Code) → 2 ≤ length xs → b ≡ get_or xs 1 b → AreArms (map f xs) → is_last_default (map f xs) ≡ true → Grown (ArmCode dialect (f b)) m0 m1 → Grown (ArmsCode dialect (map f xs)) m0 m1
  grown_default f [] b m0 m1 le e h k g = absurd (omega (arith, le))
  grown_default f (x ∷ []) b m0 m1 le e h k g = absurd (omega (arith, le))
  grown_default f (x ∷ y ∷ []) b m0 m1 le e h k g = (g.0, g.1, default_is (f x) (f y) g.0 h.0 k (subst (λ z. ArmCode dialect (f z) g.0) e g.2))
  grown_default f (x ∷ y ∷ z ∷ xs) b m0 m1 le e h k g = absurd (false≢true k)

  tested_is : (p b : Text) (ts : List Text) (a g : Code) → AreArms (p ∷ b ∷ ts) → is_last_default (p ∷ b ∷ ts) ≡ false → ArmCode dialect b a → ArmsCode dialect ts g → ArmsCode dialect (p ∷ b ∷ ts) (test_code p a g)
  tested_is p b ts a g h k x y =
      let found : (t : Text) (z : Bool) → same_text t p ≡ z → chosen false t (pairs (p ∷ b ∷ ts)) ≡ (if z then Some b else chosen false t (pairs ts)) = λ t z e. first_is p b ts t z h.0 (or_false (same_text p t) (is_default p (pairs ts)) (not_default p b ts h.1 k) ∙ same_symm p t ∙ e) in
      tested p a g (λ d t. asking dialect 1 (body_asks (Some b)) d) (λ d t. asking dialect 1 (body_asks (chosen false t (pairs ts))) d) (λ d t. asking dialect 1 (body_asks (chosen false t (pairs (p ∷ b ∷ ts)))) d)
      (λ d t s e. ap (λ o. exec (Run dialect) (asking dialect 1 (body_asks o) d) s) (sym (found t true e)))
      (λ d t s e. ap (λ o. exec (Run dialect) (asking dialect 1 (body_asks o) d) s) (sym (found t false e))) (x 0) y

  pub grown_tested : {A : Type 0} (f : A → Text) (xs : List A) (p b : A) (m0 m1 m2 m3 m4 m5 m6 m7 : Code) → 2 ≤ length xs → p ≡ get_or xs 0 p → b ≡ get_or xs 1 b → AreArms (map f xs) → is_last_default (map f xs) ≡ false → m1 ≡ m0 ++ testing (f p) → m2 ≡ m1 ++ SkipWhen false 0 ∷ []
      → Grown (ArmCode dialect (f b)) m2 m3 → m4 ≡ m3 ++ Skip 0 ∷ [] → LedHere (length m1) m4 m5 → Grown (ArmsCode dialect (map f (drop 2 xs))) m5 m6 → LedHere (length m3) m6 m7 → Grown (ArmsCode dialect (map f xs)) m0 m7
  grown_tested f [] p b m0 m1 m2 m3 m4 m5 m6 m7 le i j h k e1 e2 x e4 l5 y l7 = absurd (omega (arith, le))
  grown_tested f (v ∷ []) p b m0 m1 m2 m3 m4 m5 m6 m7 le i j h k e1 e2 x e4 l5 y l7 = absurd (omega (arith, le))
  grown_tested f (v ∷ w ∷ xs) p b m0 m1 m2 m3 m4 m5 m6 m7 le i j h k e1 e2 x e4 l5 y l7 =
      let past : m7 ≡ m1 ++ fork (SkipWhen false (length x.0 + 1)) x.0 y.0 = forked (SkipWhen false 0) x.0 y.0 m1 m2 m3 m4 m5 m6 m7 e2 x.1 e4 l5 y.1 l7 in (
        test_code (f p) x.0 y.0,
        (join (ext {m0 = m0} {c = testing (f p)} e1) (ext {m0 = m1} {c = fork (SkipWhen false (length x.0 + 1)) x.0 y.0} past)).is,
        subst (λ z. ArmsCode dialect (f z ∷ f w ∷ map f xs) (test_code (f p) x.0 y.0)) i
            (tested_is (f p) (f w) (map f xs) x.0 y.0 h (subst (λ z. is_last_default (f z ∷ f w ∷ map f xs) ≡ false) (sym i) k) (subst (λ z. ArmCode dialect (f z) x.0) j x.2) y.2),
      )

  pub grown_switch : (f : SwitchForm) (ws : List Shape) (w : Shape) (m0 m1 m2 m3 m4 m5 m6 m7 : Code) → IsSwitch f ws → w ≡ get_or ws (length ws - 2) w → Grown (WordCode dialect w.pieces) m0 m1 → m2 ≡ m1 ++ Guard inlined.Switch 0 ∷ [] → Grown (ArmsCode dialect (map texts.text_of f.arms.items)) m2 m3
      → m4 ≡ m3 ++ Skip 0 ∷ [] → LedHere (length m1) m4 m5 → m6 ≡ m5 ++ called_by f.marked (text_of f.list) → LedHere (length m3) m6 m7 → Grown (CommandCode dialect ws) m0 m7
  grown_switch f ws w m0 m1 m2 m3 m4 m5 m6 m7 is e g e2 x e4 l5 e6 l7 =
      let list = text_of f.list in
      let ts = map texts.text_of f.arms.items in
      let call = called_by f.marked list in
      let past : m7 ≡ m1 ++ fork (Guard inlined.Switch (length x.0 + 1)) x.0 call = forked (Guard inlined.Switch 0) x.0 call m1 m2 m3 m4 m5 m6 m7 e2 x.1 e4 l5 e6 l7 in
      let arms : Uses dialect 0 0 x.0 (λ d t. page_does dialect inlined.Switch (switch_texts f.marked list t) d) = uses_same (λ d t s. sym (does_is f.marked list t ts d s is.2.0 is.2.1)) x.2 in (
        g.0 ++ fork (Guard inlined.Switch (length x.0 + 1)) x.0 call,
        (join (ext {m0 = m0} {c = g.0} g.1) (ext {m0 = m1} {c = fork (Guard inlined.Switch (length x.0 + 1)) x.0 call} past)).is,
        word_runs dialect inlined.Switch (switch_texts f.marked list) ws w g.0 x.0 call (λ d s. switch_is f.marked list ws w d s is.0 is.1 e) g.2 arms (called_uses f.marked list),
      )
