-- Open words can be filled up, if what nests can.
use Rattle.std.proofs.Common.{◌≡◌, ℕ, zero, suc, ◌+◌, ◌-◌, Bool, true, false, cond, ◌==◌, List, [], ◌∷◌, ◌++◌, Result, Ok, Err, refl, sym, ap, subst, ◌∙◌, arith, inl, inr, append_assoc}
use Rattle.std.proofs.lemmas.Bool.{cases_Bool, eqb-true, true≢false}
use Rattle.tcl_chars.specs.Characters.{backslash, quote, star, open_brace, close_brace}
use Rattle.tcl_chars.specs.Place.{tail, before, place}
use Rattle.tcl_chars.specs.Reading.{◌>>=◌}
use Rattle.tcl_words.specs.declared.fault.Syntax.{Syntax}
use Rattle.tcl_words.specs.declared.fault.Syntax.TheVariants.{AfterBrace, AfterQuote}
use Rattle.tcl_words.specs.declared.front.Mode.{Mode}
use Rattle.tcl_words.specs.declared.front.Mode.TheVariants as mode
use Rattle.tcl_words.specs.declared.word.Form.{Form}
use Rattle.tcl_words.specs.declared.word.Form.TheVariants as form
use Rattle.tcl_words.specs.Complete.{is_open}
use Rattle.tcl_words.specs.Parts.{Part, Shape}
use Rattle.tcl_words.specs.Words.{after_blanks, ends_word, at_brace, braced_at, form_of, closed, Inner, inner_at, pieces_at, quoted_at, word_of, word_at}
use Rattle.tcl_words.proofs.BeforeInert.{Inert, inert_semicolon, inert_bracket}
use Rattle.tcl_words.proofs.Fills.{Leaves, Fills, leaves_bind, Unmoved}
use Rattle.tcl_words.proofs.FillsPieces.{Ender, ends_quoted, ends_bare, ends_bracket, Filled, scan_before, scan_brace, pieces_fill, lone_fill, colon_fill}
use Rattle.tcl_words.proofs.Forward.{inner_inside}
use Rattle.tcl_words.proofs.Longer.{some, firm, brace_longer, ends_longer}
use Rattle.tcl_words.proofs.LongerPieces.{inside_fine, pieces_kept}
use Rattle.tcl_words.proofs.LongerTurns.{Kept, Open, Over, over_same}
use Rattle.tcl_words.proofs.LongerWords.{Mere, mere_colon, mere_backslash, mere, inner_nested}

-- ---- braces

nonzero : (k : ℕ) → (suc k == 0) ≡ false
nonzero k = elim (cases_Bool (suc k == 0)) [
  | inl here ↦ absurd (let e : suc k ≡ 0 = eqb-true (suc k) 0 here in omega (arith, e))
  | inr other ↦ other
]

closes : ℕ → List ℕ
closes zero = 125 ∷ []
closes (suc k) = 125 ∷ closes k

close_braces : (d : ℕ) (z : List ℕ) → at_brace false d (closes d ++ z) ≡ Ok (125 ∷ z)
unfolding at_brace closes
close_braces zero z = refl
close_braces (suc k) z = let less : suc k - 1 ≡ k = omega arith in rw (nonzero k, less) (close_braces k z)

abbrev BraceFill : Bool → ℕ → List ℕ → Type 0
BraceFill h d t = (more : List ℕ) × ((z : List ℕ) → at_brace h d (t ++ (more ++ z)) ≡ Ok (125 ∷ z))

fill_step : (h k : Bool) (d e c : ℕ) (t : List ℕ) → ((s : List ℕ) → at_brace h d (c ∷ s) ≡ at_brace k e s) → BraceFill k e t → BraceFill h d (c ∷ t)
fill_step h k d e c t same (more, fills) = (more, λ z. same (t ++ (more ++ z)) ∙ fills z)

brace_fill : (h : Bool) (d : ℕ) (t : List ℕ) (f : Syntax) → at_brace h d t ≡ Err f → BraceFill h d t
unfolding at_brace
brace_fill true d [] f e = (97 ∷ closes d, λ z. close_braces d z)
brace_fill false d [] f e = (closes d, λ z. close_braces d z)
brace_fill true d (c ∷ t) f e = fill_step true false d d c t (λ s. refl) (brace_fill false d t f e)
brace_fill false d (c ∷ t) f e = elim (cases_Bool (c == close_brace)) [
  | inl here ↦ elim (cases_Bool (d == 0)) [
    | inl none ↦ absurd (let wrong : Ok (c ∷ t) ≡ Err f = rw (here, none) at e in cc)
    | inr more ↦ fill_step false false d (d - 1) c t (λ s. rw (here, more) refl) (brace_fill false (d - 1) t f (rw (here, more) at e))
  ]
  | inr other ↦ elim (cases_Bool (c == open_brace)) [
    | inl here ↦ fill_step false false d (d + 1) c t (λ s. rw (other, here) refl) (brace_fill false (d + 1) t f (rw (other, here) at e))
    | inr plain ↦ fill_step false (c == backslash) d d c t (λ s. rw (other, plain) refl) (brace_fill (c == backslash) d t f (rw (other, plain) at e))
  ]
]

-- a braced word that ends is read so, whatever follows
braced_whole : (n big : ℕ) (w : List ℕ) (c : ℕ) (t : List ℕ) → Unmoved w (braced_at n (c ∷ t)) (braced_at big (c ∷ (t ++ w)))
unfolding braced_at
braced_whole n big w c t =
    scan_before w (at_brace false 0 t) (at_brace false 0 (t ++ w)) _ _ (scan_brace w _ _ (brace_longer false 0 t w)) (λ d s.
    let (x, e) = inside_fine (place n (d ∷ s)) (before t (d ∷ s)) in
    let (z, f) = inside_fine (place big (d ∷ (s ++ w))) (before (t ++ w) (d ∷ (s ++ w))) in
    rw (e, f) refl)

-- the brace that closes is read, whatever follows
at_close : (big : ℕ) (c : ℕ) (t z : List ℕ) → at_brace false 0 t ≡ Ok (125 ∷ z) → Leaves z (braced_at big (c ∷ t))
unfolding braced_at
at_close big c t z e = let (x, f) = inside_fine (place big (125 ∷ z)) (before t (125 ∷ z)) in rw (e, f) refl

open_braced : (n : ℕ) (c : ℕ) (t : List ℕ) (f : Syntax) (r : Result (List ℕ) Syntax) → at_brace false 0 t ≡ r → braced_at n (c ∷ t) ≡ Err f → BraceFill false 0 t
unfolding braced_at
open_braced n c t f (Err g) e h = brace_fill false 0 t g e
open_braced n c t f (Ok close) e h = absurd (
    let (x, g) = inside_fine (place n close) (before t close) in
    let wrong : Ok (x.0, tail close) ≡ Err f = rw (e, g) at h in cc)

leaves_before : {A : Type 0} (w : List ℕ) (r l : Result (A × List ℕ) Syntax) (p : A × List ℕ) → Unmoved w r l → r ≡ Ok p → p.1 ≡ [] → Leaves w l
leaves_before {A = A} w r l p h e none =
    let P : Result (A × List ℕ) Syntax → Type 0 = λ q. Unmoved w q l in
    let Q : List ℕ → Type 0 = λ t. Leaves (t ++ w) l in
    let there : P (Ok p) = subst P e h in
    subst Q none there

braced_fill : (n : ℕ) (c : ℕ) (t : List ℕ) (r : Result (List Part × List ℕ) Syntax) → braced_at n (c ∷ t) ≡ r → Over r → (let F : ℕ → List ℕ → Result (List Part × List ℕ) Syntax = λ big w. braced_at big (c ∷ (t ++ w)) in Fills F)
braced_fill n c t (Err f) e over = let (more, h) = open_braced n c t f (at_brace false 0 t) refl e in (more, λ big z. at_close big c (t ++ (more ++ z)) z (h z))
braced_fill n c t (Ok p) e over = ([], λ big z. leaves_before z (braced_at n (c ∷ t)) (braced_at big (c ∷ (t ++ z))) p (braced_whole n big z c t) e over)

-- ---- words

-- what ends a word, and a command
pub data Stop : Bool → ℕ → Type 0 where
  at_semicolon : (nested : Bool) → Stop nested 59
  at_bracket : Stop true 93

pub stop_ender : (nested : Bool) (d : ℕ) → Stop nested d → Ender (mode.Bare nested) d
stop_ender _ _ (at_semicolon nested) = ends_bare nested
stop_ender _ _ at_bracket = ends_bracket

pub stop_before : (nested : Bool) (d : ℕ) → Stop nested d → Inert d
stop_before _ _ (at_semicolon nested) = inert_semicolon
stop_before _ _ at_bracket = inert_bracket

pub stop_ends : (nested : Bool) (d : ℕ) (z : List ℕ) → Stop nested d → ends_word nested (d ∷ z) ≡ true
stop_ends _ _ z (at_semicolon nested) = refl
stop_ends _ _ z at_bracket = refl

pub stop_blanks : (nested : Bool) (d : ℕ) (z : List ℕ) → Stop nested d → after_blanks (d ∷ z) ≡ d ∷ z
unfolding after_blanks
stop_blanks _ _ [] (at_semicolon nested) = refl
stop_blanks _ _ (c ∷ z) (at_semicolon nested) = refl
stop_blanks _ _ [] at_bracket = refl
stop_blanks _ _ (c ∷ z) at_bracket = refl

pub backslash_blanks : (nested : Bool) (d : ℕ) (z : List ℕ) → Stop nested d → after_blanks (92 ∷ d ∷ z) ≡ 92 ∷ d ∷ z
unfolding after_blanks
backslash_blanks _ _ z (at_semicolon nested) = refl
backslash_blanks _ _ z at_bracket = refl

closed_leaves : (m : Syntax) (nested : Bool) (w : Shape) (d : ℕ) (z : List ℕ) → Stop nested d → Leaves (d ∷ z) (closed m nested w (d ∷ z))
closed_leaves m nested w d z s = rw (stop_ends nested d z s) refl

closed_over : (m : Syntax) (nested : Bool) (w : Shape) (rest : List ℕ) → is_open m ≡ false → Over (closed m nested w rest) → rest ≡ []
closed_over m nested w rest shut over = elim (cases_Bool (ends_word nested rest)) [
  | inl here ↦ let e : rest ≡ [] = rw here at over in e
  | inr other ↦ let e : is_open m ≡ true = rw other at over in absurd (true≢false (sym e ∙ shut))
]

-- a word that is over was so before it was closed
bind_over : (m : Syntax) (nested : Bool) (w : List Part → Shape) (r : Result (List Part × List ℕ) Syntax) → is_open m ≡ false → Over (r >>= λ found. closed m nested (w found.0) found.1) → Over r
bind_over m nested w (Err f) shut over = over
bind_over m nested w (Ok p) shut over = closed_over m nested (w p.0) p.1 shut over

-- `{*}` is a whole braced word
star_fine : (n : ℕ) (rest : List ℕ) → (x : List Part) × (braced_at n (123 ∷ 42 ∷ 125 ∷ rest) ≡ Ok (x, rest))
unfolding braced_at at_brace
star_fine n rest = let (x, e) = inside_fine (place n (125 ∷ rest)) (before (42 ∷ 125 ∷ rest) (125 ∷ rest)) in (x.0, rw e refl)

pub ends_colon : (nested : Bool) (y : List ℕ) → ends_word nested (58 ∷ y) ≡ false
ends_colon true y = refl
ends_colon false y = refl

pub ends_backslash : (nested : Bool) (d : ℕ) (z : List ℕ) → Stop nested d → ends_word nested (92 ∷ 92 ∷ d ∷ z) ≡ false
ends_backslash true d z s = refl
ends_backslash false d z s = refl

pub over_unbound : {A B : Type 0} (r : Result (A × List ℕ) Syntax) (h : A → B) → Over (r >>= λ x. Ok (h x.0, x.1)) → Over r
over_unbound (Err f) h over = over
over_unbound (Ok p) h over = over

module _ (n levels : ℕ) (below : Filled n levels) where
  abbrev inner : Inner
  inner = inner_at n levels

  abbrev long : ℕ → Inner
  long big = inner_at big levels

  -- ---- quotes

  at_quote : (big : ℕ) (c : ℕ) (t z : List ℕ) → Leaves (34 ∷ z) (pieces_at big (long big) mode.Quoted t) → Leaves z (quoted_at big (long big) (c ∷ t))
  unfolding quoted_at
  at_quote big c t z h = leaves_bind (34 ∷ z) z (pieces_at big (long big) mode.Quoted t) _ h (λ x. refl)

  pub kept_leaves : {A : Type 0} (R : Result (A × List ℕ) Syntax → Type 0) (y cs : List ℕ) (r l : Result (A × List ℕ) Syntax) (x : A) (rest : List ℕ) → Kept R some y cs r l → r ≡ Ok (x, rest) → some rest ≡ true → Leaves (rest ++ y) l
  kept_leaves {A = A} R y cs r l x rest h e s =
      let P : Result (A × List ℕ) Syntax → Type 0 = λ q. Kept R some y cs q l in
      let kept : P (Ok (x, rest)) = subst P e h in
      let (z, same) = kept s in
      let Q : Result (A × List ℕ) Syntax → Type 0 = λ q. Leaves (rest ++ y) q in
      subst Q (sym same) refl

  pub long_pieces : (big : ℕ) (y t : List ℕ) (m : Mode) → Kept Open some y t (pieces_at n inner m t) (pieces_at big (long big) m (t ++ y))
  long_pieces big y t m = pieces_kept n big y inner (long big) (inner_inside n levels) (inner_inside big levels) (inner_nested n big y levels) m t

  open_quoted : (c : ℕ) (t : List ℕ) → Over (pieces_at n inner mode.Quoted t) → (let F : ℕ → List ℕ → Result (List Part × List ℕ) Syntax = λ big w. quoted_at big (long big) (c ∷ (t ++ w)) in Fills F)
  open_quoted c t over =
      let (more, h) = pieces_fill n levels below mode.Quoted t over in (
        more ++ 34 ∷ [],
        λ big z.
            let e : t ++ (more ++ 34 ∷ z) ≡ t ++ ((more ++ 34 ∷ []) ++ z) = ap (λ (x : List ℕ). t ++ x) (sym (append_assoc more (34 ∷ []) z)) in
            subst (λ (x : List ℕ). Leaves z (quoted_at big (long big) (c ∷ x))) e (at_quote big c (t ++ (more ++ 34 ∷ z)) z (h big 34 z ends_quoted)),
      )

  quoted_of : (c : ℕ) (t : List ℕ) (r : Result (List Part × List ℕ) Syntax) → pieces_at n inner mode.Quoted t ≡ r → Over (r >>= λ found. Ok (found.0, tail found.1))
      → (let F : ℕ → List ℕ → Result (List Part × List ℕ) Syntax = λ big w. quoted_at big (long big) (c ∷ (t ++ w)) in Fills F)
  unfolding quoted_at
  quoted_of c t (Err f) e over = open_quoted c t (over_same (Err f) _ (sym e) over)
  quoted_of c t (Ok (ps, [])) e over = open_quoted c t (over_same (Ok (ps, [])) _ (sym e) refl)
  quoted_of c t (Ok (ps, a ∷ s)) e over = (
    [],
    λ big z.
        let at : Leaves (a ∷ (s ++ z)) (pieces_at big (long big) mode.Quoted (t ++ z)) = kept_leaves Open z t (pieces_at n inner mode.Quoted t) _ ps (a ∷ s) (long_pieces big z t mode.Quoted) e refl in
        leaves_bind (a ∷ (s ++ z)) z (pieces_at big (long big) mode.Quoted (t ++ z)) _ at (λ x. ap (λ (u : List ℕ). u ++ z) over),
  )

  quoted_fill : (c : ℕ) (t : List ℕ) → Over (quoted_at n inner (c ∷ t)) → (let F : ℕ → List ℕ → Result (List Part × List ℕ) Syntax = λ big w. quoted_at big (long big) (c ∷ (t ++ w)) in Fills F)
  unfolding quoted_at
  quoted_fill c t over = quoted_of c t (pieces_at n inner mode.Quoted t) refl over

  -- ---- words of a form

  abbrev FormFills : Bool → Bool → Form → List ℕ → Type 0
  FormFills nested expands f cs = (more : List ℕ) × ((big d : ℕ) (z : List ℕ) → Stop nested d → Leaves (d ∷ z) (word_of big (long big) nested expands f (cs ++ (more ++ d ∷ z))))

  form_fill : (nested expands : Bool) (f : Form) (c : ℕ) (t : List ℕ) → Over (word_of n inner nested expands f (c ∷ t)) → FormFills nested expands f (c ∷ t)
  form_fill nested expands form.Braced c t over =
      let w : List Part → Shape = λ ps. record { form = form.Braced; expands = expands; pieces = ps } in
      let (more, h) = braced_fill n c t (braced_at n (c ∷ t)) refl (bind_over AfterBrace nested w (braced_at n (c ∷ t)) refl over) in
      (more, λ big d z s. leaves_bind (d ∷ z) (d ∷ z) (braced_at big (c ∷ (t ++ (more ++ d ∷ z)))) _ (h big (d ∷ z)) (λ x. closed_leaves AfterBrace nested (w x) d z s))
  form_fill nested expands form.Quoted c t over =
      let w : List Part → Shape = λ ps. record { form = form.Quoted; expands = expands; pieces = ps } in
      let (more, h) = quoted_fill c t (bind_over AfterQuote nested w (quoted_at n inner (c ∷ t)) refl over) in
      (more, λ big d z s. leaves_bind (d ∷ z) (d ∷ z) (quoted_at big (long big) (c ∷ (t ++ (more ++ d ∷ z)))) _ (h big (d ∷ z)) (λ x. closed_leaves AfterQuote nested (w x) d z s))
  form_fill nested expands form.Bare c t over =
      let w : List Part → Shape = λ ps. record { form = form.Bare; expands = expands; pieces = ps } in
      let (more, h) = pieces_fill n levels below (mode.Bare nested) (c ∷ t) (over_unbound (pieces_at n inner (mode.Bare nested) (c ∷ t)) w over) in
      (more, λ big d z s. leaves_bind (d ∷ z) (d ∷ z) (pieces_at big (long big) (mode.Bare nested) (c ∷ (t ++ (more ++ d ∷ z)))) _ (h big d z (stop_ender nested d s)) (λ x. refl))

  pub colon_word : (nested expands : Bool) (big d : ℕ) (z : List ℕ) → Stop nested d → Leaves (d ∷ z) (word_of big (long big) nested expands form.Bare (58 ∷ d ∷ z))
  colon_word nested expands big d z s =
      leaves_bind (d ∷ z) (d ∷ z) (pieces_at big (long big) (mode.Bare nested) (58 ∷ d ∷ z)) _ (colon_fill n levels below (mode.Bare nested) big d z (stop_ender nested d s)) (λ x. refl)

  pub backslash_word : (nested expands : Bool) (big d : ℕ) (z : List ℕ) → Stop nested d → Leaves (d ∷ z) (word_of big (long big) nested expands form.Bare (92 ∷ 92 ∷ d ∷ z))
  backslash_word nested expands big d z s =
      leaves_bind (d ∷ z) (d ∷ z) (pieces_at big (long big) (mode.Bare nested) (92 ∷ 92 ∷ d ∷ z)) _ (lone_fill n levels below (mode.Bare nested) big d z (stop_ender nested d s)) (λ x. refl)

  -- ---- a word with its mark

  abbrev pub WordFills : Bool → List ℕ → Type 0
  WordFills nested cs = (more : List ℕ) × ((big d : ℕ) (z : List ℕ) → Stop nested d → Leaves (d ∷ z) (word_at big (long big) nested (cs ++ (more ++ d ∷ z))))

  braced_star : (nested : Bool) (big d : ℕ) (z : List ℕ) → Stop nested d → Leaves (d ∷ z) (word_at big (long big) nested (123 ∷ 42 ∷ 125 ∷ d ∷ z))
  unfolding word_at at_brace
  braced_star nested big d z s =
      rw (stop_ends nested d z s)
      (leaves_bind (d ∷ z) (d ∷ z) (braced_at big (123 ∷ 42 ∷ 125 ∷ d ∷ z)) _ (at_close big 123 (42 ∷ 125 ∷ d ∷ z) (d ∷ z) refl) (λ x. closed_leaves AfterBrace nested _ d z s))

  braced_nothing : (nested : Bool) (big d : ℕ) (z : List ℕ) → Stop nested d → Leaves (d ∷ z) (word_at big (long big) nested (123 ∷ 125 ∷ d ∷ z))
  unfolding word_at at_brace
  braced_nothing nested big d z s =
      leaves_bind (d ∷ z) (d ∷ z) (braced_at big (123 ∷ 125 ∷ d ∷ z)) _ (at_close big 123 (125 ∷ d ∷ z) (d ∷ z) refl) (λ x. closed_leaves AfterBrace nested _ d z s)

  star_not_over : (nested : Bool) (c : ℕ) (t : List ℕ) → ends_word nested (c ∷ t) ≡ true → Over (word_at n inner nested (123 ∷ 42 ∷ 125 ∷ c ∷ t)) → ⊥
  unfolding word_at
  star_not_over nested c t stops over =
      let w : List Part → Shape = λ ps. record { form = form.Braced; expands = false; pieces = ps } in
      let plain : Over (word_of n inner nested false form.Braced (123 ∷ 42 ∷ 125 ∷ c ∷ t)) = rw stops at over in
      let (x, e) = star_fine n (c ∷ t) in
      let none : c ∷ t ≡ [] = over_same (braced_at n (123 ∷ 42 ∷ 125 ∷ c ∷ t)) (Ok (x, c ∷ t)) e (bind_over AfterBrace nested w (braced_at n (123 ∷ 42 ∷ 125 ∷ c ∷ t)) refl plain) in
      cc

  -- behind `{*}` a word, or only the end of this one
  marked_firm : (nested : Bool) (c : ℕ) (t : List ℕ) → firm (c ∷ t) ≡ true → ends_word nested (c ∷ t) ≡ false → Over (word_at n inner nested (123 ∷ 42 ∷ 125 ∷ c ∷ t)) → WordFills nested (123 ∷ 42 ∷ 125 ∷ c ∷ t)
  unfolding word_at
  marked_firm nested c t h more over =
      let inside : Over (word_of n inner nested true (form_of (c ∷ t)) (c ∷ t)) = rw more at over in
      let (w, fills) = form_fill nested true (form_of (c ∷ t)) c t inside in
      (w, λ big d z s. rw (ends_longer nested (c ∷ t) (w ++ d ∷ z) h ∙ more) (fills big d z s))

  marked_mere : (nested : Bool) (t : List ℕ) → Mere t → WordFills nested (123 ∷ 42 ∷ 125 ∷ t)
  unfolding word_at
  marked_mere nested _ mere_colon = ([], λ big d z s. rw (ends_colon nested (d ∷ z)) (colon_word nested true big d z s))
  marked_mere nested _ mere_backslash = (92 ∷ [], λ big d z s. rw (ends_backslash nested d z s) (backslash_word nested true big d z s))

  mark_fill : (nested : Bool) (t : List ℕ) → Over (word_at n inner nested (123 ∷ 42 ∷ 125 ∷ t)) → WordFills nested (123 ∷ 42 ∷ 125 ∷ t)
  mark_fill nested [] over = ([], λ big d z s. braced_star nested big d z s)
  mark_fill nested (c ∷ t) over = elim (cases_Bool (ends_word nested (c ∷ t))) [
    | inl stops ↦ absurd (star_not_over nested c t stops over)
    | inr more ↦ elim (cases_Bool (firm (c ∷ t))) [
      | inl here ↦ marked_firm nested c t here more over
      | inr other ↦ marked_mere nested (c ∷ t) (mere (c ∷ t) other refl)
    ]
  ]

  star_fill : (nested : Bool) (t : List ℕ) → Over (word_at n inner nested (123 ∷ 42 ∷ t)) → WordFills nested (123 ∷ 42 ∷ t)
  unfolding word_at
  star_fill nested [] over = (125 ∷ [], λ big d z s. braced_star nested big d z s)
  star_fill nested (c ∷ t) over = elim (cases_Bool (c == close_brace)) [
    | inl here ↦
        let P : ℕ → Type 0 = λ x. Over (word_at n inner nested (123 ∷ 42 ∷ x ∷ t)) in
        subst (λ x. WordFills nested (123 ∷ 42 ∷ x ∷ t)) (sym (eqb-true c 125 here)) (mark_fill nested t (subst P (eqb-true c 125 here) over))
    | inr other ↦
        let plain : Over (word_of n inner nested false form.Braced (123 ∷ 42 ∷ c ∷ t)) = rw other at over in
        let (w, fills) = form_fill nested false form.Braced 123 (42 ∷ c ∷ t) plain in
        (w, λ big d z s. rw other (fills big d z s))
  ]

  brace_word_fill : (nested : Bool) (t : List ℕ) → Over (word_at n inner nested (123 ∷ t)) → WordFills nested (123 ∷ t)
  unfolding word_at
  brace_word_fill nested [] over = (125 ∷ [], λ big d z s. braced_nothing nested big d z s)
  brace_word_fill nested (c ∷ t) over = elim (cases_Bool (c == star)) [
    | inl here ↦
        let P : ℕ → Type 0 = λ x. Over (word_at n inner nested (123 ∷ x ∷ t)) in
        subst (λ x. WordFills nested (123 ∷ x ∷ t)) (sym (eqb-true c 42 here)) (star_fill nested t (subst P (eqb-true c 42 here) over))
    | inr other ↦
        let plain : Over (word_of n inner nested false form.Braced (123 ∷ c ∷ t)) = rw other at over in
        let (w, fills) = form_fill nested false form.Braced 123 (c ∷ t) plain in
        (w, λ big d z s. rw other (fills big d z s))
  ]

  pub word_fill : (nested : Bool) (c : ℕ) (t : List ℕ) → Over (word_at n inner nested (c ∷ t)) → WordFills nested (c ∷ t)
  unfolding word_at
  word_fill nested c t over = elim (cases_Bool (c == open_brace)) [
    | inl here ↦
        let P : ℕ → Type 0 = λ x. Over (word_at n inner nested (x ∷ t)) in
        subst (λ x. WordFills nested (x ∷ t)) (sym (eqb-true c 123 here)) (brace_word_fill nested t (subst P (eqb-true c 123 here) over))
    | inr other ↦
        let plain : Over (word_of n inner nested false (cond (c == quote) form.Quoted form.Bare) (c ∷ t)) = rw other at over in
        let (w, fills) = form_fill nested false (cond (c == quote) form.Quoted form.Bare) c t plain in
        (w, λ big d z s. rw other (fills big d z s))
  ]

  pub colon_at : (nested : Bool) (big d : ℕ) (z : List ℕ) → Stop nested d → Leaves (d ∷ z) (word_at big (long big) nested (58 ∷ d ∷ z))
  unfolding word_at
  colon_at nested big d z s = colon_word nested false big d z s

  pub backslash_at : (nested : Bool) (big d : ℕ) (z : List ℕ) → Stop nested d → Leaves (d ∷ z) (word_at big (long big) nested (92 ∷ 92 ∷ d ∷ z))
  unfolding word_at
  backslash_at nested big d z s = backslash_word nested false big d z s
