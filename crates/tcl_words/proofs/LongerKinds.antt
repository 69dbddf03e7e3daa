-- What begins at a character is the same where the text goes on, unless the text ends too near behind it.
use Rattle.std.proofs.Common.{◌≡◌, ℕ, Bool, true, false, not, ◌&&◌, ◌||◌, ◌==◌, List, [], ◌∷◌, ◌++◌, refl, sym, ap, subst, ◌∙◌, inl, inr, ◌⊎◌}
use Rattle.std.proofs.lemmas.Bool.{cases_Bool, eqb-true}
use Rattle.tcl_chars.specs.Characters.{backslash, dollar, colon}
use Rattle.tcl_words.specs.declared.front.Kind.TheVariants as kind
use Rattle.tcl_words.specs.declared.front.Mode.{Mode}
use Rattle.tcl_words.specs.declared.front.Mode.TheVariants as mode
pub use Rattle.tcl_words.specs.Waiting.{is_settled as settled}
use Rattle.tcl_words.specs.Words.{kind_of, is_plain, after_plain, begins_variable}
use Rattle.tcl_words.proofs.Longer.{same_cond, firm, Firm}

-- texts of which it does, or of which what is read before them does
pub data Short : List ℕ → Type 0 where
  nothing : Short []
  backslash_alone : Short (92 ∷ [])
  dollar_alone : Short (36 ∷ [])
  colon_alone : Short (58 ∷ [])
  dollar_colon : Short (36 ∷ 58 ∷ [])

neither : (a b : Bool) → not (a || b) ≡ true → (a ≡ false) × (b ≡ false)
neither true b e = absurd cc
neither false true e = absurd cc
neither false false e = (refl, refl)

either : (a b : Bool) → not (a || b) ≡ false → (a ≡ true) ⊎ (b ≡ true)
either true b e = inl refl
either false true e = inr refl
either false false e = absurd cc

both : (a b : Bool) → not (a && b) ≡ false → (a ≡ true) × (b ≡ true)
both true true e = (refl, refl)
both true false e = absurd cc
both false b e = absurd cc

pub unsettled : (c : ℕ) (t : List ℕ) → settled c t ≡ false → Short (c ∷ t)
unsettled c [] h = elim (either (c == backslash) (c == dollar) h) [
  | inl here ↦ subst (λ x. Short (x ∷ [])) (sym (eqb-true c 92 here)) backslash_alone
  | inr here ↦ subst (λ x. Short (x ∷ [])) (sym (eqb-true c 36 here)) dollar_alone
]
unsettled c (d ∷ []) h =
    let (first, second) = both (c == dollar) (d == colon) h in
    subst (λ x. Short (x ∷ d ∷ [])) (sym (eqb-true c 36 first)) (subst (λ x. Short (36 ∷ x ∷ [])) (sym (eqb-true d 58 second)) dollar_colon)
unsettled c (d ∷ e ∷ t) h = absurd cc

pub not_firm : (t : List ℕ) → firm t ≡ false → Short t
not_firm [] h = nothing
not_firm (c ∷ []) h = elim (either (c == colon) (c == backslash) h) [
  | inl here ↦ subst (λ x. Short (x ∷ [])) (sym (eqb-true c 58 here)) colon_alone
  | inr here ↦ subst (λ x. Short (x ∷ [])) (sym (eqb-true c 92 here)) backslash_alone
]
not_firm (c ∷ d ∷ t) h = absurd cc

one_dollar : (c d : ℕ) (y : List ℕ) (b : Bool) → not (b && d == colon) ≡ true → (b && begins_variable (d ∷ y)) ≡ (b && begins_variable (d ∷ []))
one_dollar c d y true h = let e : (d == colon) ≡ false = (elim (d == colon) as (λ z. not (true && z) ≡ true → z ≡ false) [ true ↦ λ k. absurd cc | false ↦ λ k. refl ]) h in rw e refl
one_dollar c d y false h = refl

pub kind_longer : (m : Mode) (c : ℕ) (t y : List ℕ) → settled c t ≡ true → kind_of m (c ∷ (t ++ y)) ≡ kind_of m (c ∷ t)
unfolding kind_of
kind_longer (mode.Bare nested) c [] y h = rw ((neither (c == backslash) (c == dollar) h).0, (neither (c == backslash) (c == dollar) h).1) refl
kind_longer mode.Quoted c [] y h = rw ((neither (c == backslash) (c == dollar) h).1) refl
kind_longer mode.Index c [] y h = rw ((neither (c == backslash) (c == dollar) h).1) refl
kind_longer (mode.Bare nested) c (d ∷ []) y h = rw (one_dollar c d y (c == dollar) h) refl
kind_longer mode.Quoted c (d ∷ []) y h = rw (one_dollar c d y (c == dollar) h) refl
kind_longer mode.Index c (d ∷ []) y h = rw (one_dollar c d y (c == dollar) h) refl
kind_longer (mode.Bare nested) c (d ∷ e ∷ t) y h = refl
kind_longer mode.Quoted c (d ∷ e ∷ t) y h = refl
kind_longer mode.Index c (d ∷ e ∷ t) y h = refl

pub colon_plain : (m : Mode) → kind_of m (58 ∷ []) ≡ kind.Plain
unfolding kind_of
colon_plain (mode.Bare true) = refl
colon_plain (mode.Bare false) = refl
colon_plain mode.Quoted = refl
colon_plain mode.Index = refl

pub dollar_plain : (m : Mode) → kind_of m (36 ∷ []) ≡ kind.Plain
unfolding kind_of
dollar_plain (mode.Bare true) = refl
dollar_plain (mode.Bare false) = refl
dollar_plain mode.Quoted = refl
dollar_plain mode.Index = refl

pub dollar_colon_plain : (m : Mode) → kind_of m (36 ∷ 58 ∷ []) ≡ kind.Plain
unfolding kind_of
dollar_colon_plain (mode.Bare true) = refl
dollar_colon_plain (mode.Bare false) = refl
dollar_colon_plain mode.Quoted = refl
dollar_colon_plain mode.Index = refl

pub backslash_kind : (m : Mode) → kind_of m (92 ∷ []) ≡ kind.Backslashed
unfolding kind_of
backslash_kind (mode.Bare true) = refl
backslash_kind (mode.Bare false) = refl
backslash_kind mode.Quoted = refl
backslash_kind mode.Index = refl

pub plain_colon : (m : Mode) → after_plain m (58 ∷ []) ≡ []
unfolding after_plain
plain_colon m = rw (colon_plain m) refl

pub plain_dollar : (m : Mode) → after_plain m (36 ∷ []) ≡ []
unfolding after_plain
plain_dollar m = rw (dollar_plain m) refl

pub plain_dollar_colon : (m : Mode) → after_plain m (36 ∷ 58 ∷ []) ≡ []
unfolding after_plain
plain_dollar_colon m = rw (dollar_colon_plain m, colon_plain m) refl

plain_short : (m : Mode) (t : List ℕ) → Short t → firm (after_plain m t) ≡ false
unfolding after_plain
plain_short m [] nothing = refl
plain_short m _ backslash_alone = rw (backslash_kind m) refl
plain_short m _ dollar_alone = ap firm (plain_dollar m)
plain_short m _ colon_alone = ap firm (plain_colon m)
plain_short m _ dollar_colon = ap firm (plain_dollar_colon m)

pub loose_firm : (y rest long : List ℕ) → firm rest ≡ false → Firm y rest long
loose_firm y rest long h = λ k. absurd (let e : true ≡ false = sym k ∙ h in cc)

pub plain_longer : (m : Mode) (t y : List ℕ) → Firm y (after_plain m t) (after_plain m (t ++ y))
unfolding after_plain
plain_longer m [] y = λ h. absurd cc
plain_longer m (c ∷ t) y = elim (cases_Bool (settled c t)) [
  | inl here ↦ rw (kind_longer m c t y here) (same_cond (λ r long. Firm y r long) (is_plain (kind_of m (c ∷ t))) _ _ _ _ (plain_longer m t y) (λ h. refl))
  | inr other ↦ loose_firm y _ _ (plain_short m (c ∷ t) (unsettled c t other))
]
