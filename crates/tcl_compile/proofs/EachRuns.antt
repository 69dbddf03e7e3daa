-- `foreach` or `lmap`, as a command of a script.
use Rattle.std.proofs.Common.{◌≡◌, ℕ, ◌+◌, Bool, true, false, List, [], ◌∷◌, ◌++◌, length, drop, refl, sym, ap, ◌∙◌, subst, arith, append_assoc, append-nil, length-append, cond}
use Rattle.tcl_chars.specs.declared.numbers.Dialect.{Dialect}
use Rattle.tcl_list.specs.Elements.{elements_of}
use Rattle.tcl_words.specs.Parts.{Shape}
use Rattle.tcl_pages.specs.Texts.{Text}
use Rattle.tcl_meaning.specs.Completions.{Completion}
use Rattle.tcl_meaning.specs.Effects.{Got, Gives, exec}
use Rattle.tcl_meaning.specs.Pages.{invoked}
use Rattle.tcl_meaning.specs.Script.{Run, page_in, run_command}
use Rattle.tcl_meaning.specs.State.{State}
use Rattle.tcl_meaning.specs.Substitution.{pieces_text}
use Rattle.tcl_meaning.specs.Value.{Value, Has}
use Rattle.tcl_code.specs.Guards.{name_of, stands}
use Rattle.tcl_code.specs.Instructions.{Instruction, Call, Guard, Skip}
use Rattle.tcl_code.specs.Machine.{Stack, To, spot, with_result, result_at}
use Rattle.tcl_code.specs.Parts.{Does, HasAt, Lands, Runs}
use Rattle.tcl_code.specs.Valid.{Ahead, shape}
use Rattle.tcl_code.proofs.Place.{has_front, has_back}
use Rattle.tcl_code.proofs.Shapes.{fits_joined, fits_same}
use Rattle.tcl_code.proofs.Steps.{one_done, here_done, moved_done, same_done}
use Rattle.tcl_compile.specs.Eaches.{AreEachTexts, AreEachWords, AreListTexts, AreListWords, AreTexts, EachCode, Tells, each_command, takes}
use Rattle.tcl_compile.specs.Forms.{bodied, page_does}
use Rattle.tcl_compile.specs.Fragments.{Follows, stacked, words_value}
use Rattle.tcl_compile.specs.Literals.{IsLiteral}
use Rattle.tcl_compile.proofs.Bodies.{bodied_opens}
use Rattle.tcl_compile.proofs.Commands.{calls_end, command_is, words_last, words_one}
use Rattle.tcl_compile.proofs.Eaching.{each_code, each_lands}
use Rattle.tcl_compile.proofs.EachShapes.{takes_fit, each_fits}
use Rattle.tcl_compile.proofs.Failing.{pieces_fail, then_known}
use Rattle.tcl_compile.proofs.Guarded.{fork, further, invoked_stands, past_fits}
use Rattle.tcl_compile.proofs.LiteralWords.{says}
use Rattle.tcl_compile.proofs.Pieces.{stacked_more}

-- ---- texts of words

texts_more : (front : List Shape) (ts : List Text) (w : Shape) (t : Text) → AreTexts front ts → ((u : Text) → IsLiteral w u → t ≡ u) → AreTexts (front ++ w ∷ []) (ts ++ t ∷ [])
texts_more [] [] w t h k = (k, tt)
texts_more [] (u ∷ ts) w t h k = absurd h
texts_more (v ∷ front) [] w t h k = absurd h
texts_more (v ∷ front) (u ∷ ts) w t h k = (h.0, texts_more front ts w t h.1 k)

list_texts : (names : List Text) (body : Text) (ws : List Shape) (ts : List Text) → AreListWords names body ws → AreTexts ws ts → AreListTexts names body ts
list_texts names body [] ts h k = absurd h
list_texts names body (w ∷ []) [] h k = absurd k
list_texts names body (w ∷ []) (t ∷ []) h k = (h.0, k.0 body h.1)
list_texts names body (w ∷ []) (t ∷ u ∷ ts) h k = absurd k.1
list_texts names body (w0 ∷ w1 ∷ ws) [] h k = absurd k
list_texts names body (w0 ∷ w1 ∷ ws) (t ∷ []) h k = absurd k.1
list_texts names body (w0 ∷ w1 ∷ ws) (t ∷ u ∷ ts) h k =
    let list = h.3 in
    let is : t ≡ list.0 = k.0 list.0 list.1 in
    (h.0, h.1, h.2, (ap elements_of is ∙ list.2.0, list.2.1), list_texts h.1 body ws ts h.4 k.1.1)

each_texts : (gathers : Bool) (names : List Text) (body : Text) (ws : List Shape) (ts : List Text) → AreEachWords gathers names body ws → AreTexts ws ts → AreEachTexts gathers names body ts
each_texts gathers names body [] ts h k = absurd h
each_texts gathers names body (w ∷ ws) [] h k = absurd k
each_texts gathers names body (w ∷ ws) (t ∷ ts) h k = (k.0 (name_of (each_command gathers)) h.0, h.1, list_texts names body ws ts h.2 k.1)

abbrev value_in : Got (Value Text) → Text
value_in (Gives (Has t) u) = t
value_in g = []

module _ (dialect : Dialect) where
  -- ---- words, and the command of them

  pub tells_next : (n : ℕ) (all : List Shape) (w : Shape) (ws : List Shape) (c more : List Instruction) → w.expands ≡ false → Does dialect c (λ d. pieces_text d w.pieces) → Tells dialect n all more ws → Tells dialect n all (c ++ more) (w ∷ ws)
  tells_next n all w ws c more plain f g = record {
    from = λ code at front ts r stack d s is are e has.
        let back = has_back code at c more has in
        same_done dialect code (sym (words_one dialect d ts w ws s plain))
        (then_known dialect code (pieces_text d w.pieces) (λ t. words_value dialect d (ts ++ t ∷ []) ws) (pieces_fail dialect d w.pieces) (f.from code at (stacked ts (with_result r stack)) d s (has_front code at c more has))
        (λ t u known. moved_done dialect code (omega (arith, length-append c more))
        (subst (λ st. Lands dialect code stack.loops (spot (at + length c) st d) u (result_at (at + length c + length more) stack d) (exec (Run dialect) (words_value dialect d (ts ++ t ∷ []) ws) u)) (stacked_more ts t (with_result r stack))
        (g.from code (at + length c) (front ++ w ∷ []) (ts ++ t ∷ []) r stack d u (is ∙ sym (append_assoc front (w ∷ []) ws)) (texts_more front ts w t are (λ v lit. ap value_in (sym known ∙ (says w v lit).text dialect d s))) (omega (arith, e, length-append ts (t ∷ []))) back))));
    pays = λ h k l d p o e. fits_joined c more (shape (h + k) l d (p + 1) o) (shape (h + k + 1) l d (p + 1) o) (shape h l d p o) (f.adds (h + k) l d (p + 1) o) (fits_same (ap (λ m. shape m l d (p + 1) o) (omega arith)) refl (g.pays h (k + 1) l d p o (omega arith)));
  }

  pub tells_all : (ws : List Shape) (c : List Instruction) → Tells dialect (length ws) ws c ws → Runs dialect c (λ d. run_command dialect d ws)
  tells_all ws c f = record {
    from = λ code at r stack d s has. same_done dialect code (command_is dialect d ws s) (f.from code at [] [] r stack d s refl tt (omega arith) has);
    pays = λ h l d p o. fits_same (ap (λ m. shape m l d (p + 1) o) (omega arith)) refl (f.pays h 0 l d p o (omega arith));
  }

  module _ (gathers : Bool) (names : List Text) (body : Text) (all : List Shape) (n : ℕ) (e : List Instruction) (words : AreEachWords gathers names body all) (x : EachCode dialect gathers n names body e) where
    abbrev i : Instruction
    i = Guard (each_command gathers) (length e + 1)

    abbrev whole : List Instruction
    whole = fork i e (Call n ∷ [])

    named : (ts : List Text) (d : ℕ) (s : State) → AreEachTexts gathers names body ts → exec (Run dialect) (words_value dialect d ts []) s ≡ exec (Run dialect) (page_in dialect d (invoked dialect (name_of (each_command gathers) ∷ drop 1 ts))) s
    named [] d s h = absurd h
    named (t ∷ ts) d s h = words_last dialect d (t ∷ ts) s ∙ ap (λ u. exec (Run dialect) (page_in dialect d (invoked dialect (u ∷ ts))) s) h.0

    go : (code : List Instruction) (at : ℕ) (ts : List Text) (r : Completion) (stack : Stack) (d : ℕ) (s : State) → AreEachTexts gathers names body ts → length ts ≡ n → HasAt code at whole → (b : Bool) → stands (each_command gathers) s.store ≡ b
        → Lands dialect code stack.loops (spot at (stacked ts (with_result r stack)) d) s (result_at (at + length whole) stack d) (exec (Run dialect) (words_value dialect d ts []) s)
    go code at ts r stack d s are long has true k =
        let back = has_back code (at + 1) e (Skip 1 ∷ Call n ∷ []) has.1 in
        one_done dialect code i has.0 (ap (λ b. To (spot (cond b (at + 1) (at + 1 + (length e + 1))) (stacked ts (with_result r stack)) d) s) k)
        (same_done dialect code (sym (named ts d s are ∙ invoked_stands dialect (each_command gathers) (drop 1 ts) d s k))
        (further dialect code (exec (Run dialect) (page_does dialect (each_command gathers) (drop 1 ts) d) s) (x.from code (at + 1) ts r stack d s are long (has_front code (at + 1) e (Skip 1 ∷ Call n ∷ []) has.1))
        (λ c u fine. one_done dialect code (Skip 1) back.0 refl (here_done dialect code (omega (arith, length-append e (Skip 1 ∷ Call n ∷ []))) fine))))
    go code at ts r stack d s are long has false k =
        let back = has_back code (at + 1) e (Skip 1 ∷ Call n ∷ []) has.1 in
        let place : at + 1 + length e + 1 ≡ at + 1 + (length e + 1) = omega arith in
        one_done dialect code i has.0 (ap (λ b. To (spot (cond b (at + 1) (at + 1 + (length e + 1))) (stacked ts (with_result r stack)) d) s) k)
        (moved_done dialect code (omega (arith, length-append e (Skip 1 ∷ Call n ∷ [])))
        ((calls_end dialect n).from code (at + 1 + (length e + 1)) ts r stack d s (omega (arith, long)) (subst (λ m. HasAt code m (Call n ∷ [])) place back.1)))

    pub tells_end : Tells dialect n all whole []
    tells_end = record {
      from = λ code at front ts r stack d s is are long has. go code at ts r stack d s (each_texts gathers names body all ts words (subst (λ ws. AreTexts ws ts) (sym (is ∙ append-nil front)) are)) (omega (arith, long)) has (stands (each_command gathers) s.store) refl;
      pays = λ h k l d p o same. past_fits i e (Call n ∷ []) (shape (h + k) l d (p + 1) o) (shape (h + k) l d p o) (shape (h + k) l d (p + 1) o) (shape h l d p o)
          (fits_same (ap (λ m. shape m l d p o) (omega (arith, same))) refl (x.fits h l d p o)) ((calls_end dialect n).pays h k l d p o same) (omega arith)
          (ap (λ m. (Ahead (length e + 1), shape (h + k) l d (p + 1) o) ∷ (Ahead 0, shape (h + k) l d m o) ∷ []) (omega arith));
    }

  pub each_uses : (gathers : Bool) (n : ℕ) (names : List Text) (body : Text) (b : List Instruction) → Follows dialect b body → EachCode dialect gathers n names body (each_code gathers n (takes names) (bodied false gathers b))
  each_uses gathers n names body b f = record {
    from = λ code at ts last stack d s are long has. each_lands dialect gathers names body b f n code at ts last stack d s are long has;
    fits = λ h l d p o. each_fits gathers n (takes names) (bodied false gathers b) h l d p o (λ k. takes_fit names h k d p o) (λ k. bodied_opens false gathers b h (k + 1) d p o (f.keeps 0 0 0 0 (o + 1)));
  }
