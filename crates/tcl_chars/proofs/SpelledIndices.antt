-- What spells a position is read as it, and what is read as a position spells it.
use Rattle.std.proofs.Common.{◌≡◌, ℕ, ◌<◌, ◌^◌, ◌-◌, Bool, true, false, ◌==◌, ◌||◌, cond, List, [], ◌∷◌, ◌++◌, length, Option, Some, None, ℤ, pos, sym, ◌∙◌, ap, subst, refl, arith, inl, inr}
use Rattle.std.specs.Prelude.{nat_lt, neg_ℤ}
use Rattle.std.specs.Str.{chars}
use Rattle.std.proofs.lemmas.Bool.{cases_Bool, cond-true, cond-false, ltb-true, lt-ltb, false_from_ne_true}
use Rattle.std.proofs.lemmas.List.{append-nil, length-append, take_at}
use Rattle.tcl_chars.proofs.Same.{text_is}
use Rattle.tcl_chars.specs.Index.{has_space, to_sign, of_whole, base_of, signed_offset, offset_of, moved, shifted, number_or_sum, index_of}
use Rattle.tcl_chars.specs.Laws.{IsBase, IsUnsigned, Spells, IndexIsSpelled}
use Rattle.tcl_chars.specs.Laws.IsBase.{last, number}
use Rattle.tcl_chars.specs.Laws.Spells.{alone, base, plus, minus}
use Rattle.tcl_chars.specs.Place.{EndsWith, before, tail}
use Rattle.tcl_chars.specs.Texts.{literal, same_text}
use Rattle.tcl_chars.specs.Whole.{magnitude, whole_of}
use Rattle.tcl_chars.specs.declared.indices.Index.{Index}
use Rattle.tcl_chars.specs.declared.indices.Index.TheVariants as index
use Rattle.tcl_chars.specs.declared.indices.Position.{Position}
use Rattle.tcl_chars.specs.declared.indices.Position.TheVariants.{Start, End}
use Rattle.tcl_chars.specs.declared.numbers.Dialect.{Dialect}
use Rattle.tcl_chars.specs.declared.numbers.Whole.{Whole}
use Rattle.tcl_chars.specs.declared.numbers.Whole.TheVariants as whole
use Rattle.tcl_chars.proofs.BeforeSigns.{IsSign, is_plus, is_minus, sign_is, no_number_before, sign_found}
use Rattle.tcl_chars.proofs.IndicesLemmas.{sum_ends}

-- ---- what is read is so spelled

pub first_sign : (cs : List ℕ) (s : ℕ) (o : List ℕ) → to_sign cs ≡ s ∷ o → IsSign s
first_sign [] s o h = absurd cc
first_sign (c ∷ cs) s o h = elim (cases_Bool ((c == 43) || (c == 45))) [
  | inl here ↦ let e : c ∷ cs ≡ s ∷ o = rw here at h in let f : c ≡ s = cc in subst IsSign f (sign_is c here)
  | inr other ↦ let e : to_sign cs ≡ s ∷ o = rw other at h in first_sign cs s o e
]

-- what stands before a rest is the front that was put there
pub before_front : (front rest : List ℕ) → before (front ++ rest) rest ≡ front
before_front front rest = take_at front rest (length (front ++ rest) - length rest) (omega (arith, length-append front rest))

-- a text is what stands before its end, and the end
pub cut_at : (cs rest : List ℕ) → EndsWith cs rest → cs ≡ before cs rest ++ rest
cut_at cs rest e = e.joined ∙ ap (λ t. t ++ rest) (sym (before_front e.front rest) ∙ ap (λ t. before t rest) (sym e.joined))

of_whole_at : (w : Whole) (p : Position) → of_whole w ≡ index.At p → (z : ℤ) × (w ≡ whole.Number z) × (p ≡ Start z (pos 0))
of_whole_at (whole.Number z) p h = (z, refl, cc)
of_whole_at whole.TooLarge p h = absurd cc
of_whole_at whole.Not p h = absurd cc

base_is : (dialect : Dialect) (b : List ℕ) (q : Position) → base_of dialect b ≡ index.At q → IsBase dialect b q
base_is dialect b q h = elim (cases_Bool (same_text b (literal "end"))) [
  | inl ends ↦
      let e : index.At (End (pos 0)) ≡ index.At q = sym (cond-true _ _ _ ends) ∙ h in
      let f : End (pos 0) ≡ q = cc in
      let g : b ≡ literal "end" = text_is b _ ends in
      subst (IsBase dialect b) f (subst (λ t. IsBase dialect t (End (pos 0))) (sym g) last)
  | inr other ↦ elim (cases_Bool (has_space b)) [
    | inl space ↦ absurd (let e : index.Not ≡ index.At q = sym (cond-false _ _ _ other ∙ cond-true _ _ _ space) ∙ h in cc)
    | inr plain ↦
        let e : of_whole (whole_of dialect b) ≡ index.At q = sym (cond-false _ _ _ other ∙ cond-false _ _ _ plain) ∙ h in
        let (z, w, f) = of_whole_at (whole_of dialect b) q e in
        subst (IsBase dialect b) (sym f) (number b z plain w)
  ]
]

shifted_at : (i : Index) (w : Whole) (p : Position) → shifted i w ≡ index.At p → (q : Position) × (z : ℤ) × (i ≡ index.At q) × (w ≡ whole.Number z) × (p ≡ moved q z)
shifted_at index.Not w p h = absurd cc
shifted_at index.TooLarge whole.Not p h = absurd cc
shifted_at index.TooLarge whole.TooLarge p h = absurd cc
shifted_at index.TooLarge (whole.Number n) p h = absurd cc
shifted_at (index.At q) whole.Not p h = absurd cc
shifted_at (index.At q) whole.TooLarge p h = absurd cc
shifted_at (index.At q) (whole.Number n) p h = (q, n, refl, refl, cc)

offset_at : (minus_here : Bool) (m : Option ℕ) (z : ℤ) → signed_offset minus_here m ≡ whole.Number z → (n : ℕ) × (m ≡ Some n) × (n < 2 ^ 63) × (z ≡ cond minus_here (neg_ℤ (pos n)) (pos n))
offset_at b None z h = absurd cc
offset_at b (Some n) z h = elim (cases_Bool (nat_lt n (2 ^ 63))) [
  | inl small ↦ let e : whole.Number (cond b (neg_ℤ (pos n)) (pos n)) ≡ whole.Number z = sym (cond-true _ _ _ small) ∙ h in (n, refl, ltb-true n (2 ^ 63) small, cc)
  | inr large ↦ absurd (let e : whole.TooLarge ≡ whole.Number z = sym (cond-false _ _ _ large) ∙ h in cc)
]

offset_is : (dialect : Dialect) (s : ℕ) (o : List ℕ) (z : ℤ) → offset_of dialect (s ∷ o) ≡ whole.Number z → (n : ℕ) × IsUnsigned dialect o n × (z ≡ cond (s == 45) (neg_ℤ (pos n)) (pos n))
offset_is dialect s o z h = elim (cases_Bool (has_space o)) [
  | inl space ↦ absurd (let e : whole.Not ≡ whole.Number z = sym (cond-true _ _ _ space) ∙ h in cc)
  | inr plain ↦
      let e : signed_offset (s == 45) (magnitude dialect o) ≡ whole.Number z = sym (cond-false _ _ _ plain) ∙ h in
      let (n, m, small, f) = offset_at (s == 45) (magnitude dialect o) z e in
      (n, record { plain = plain; says = m; small = small }, f)
]

IsBase-unmoved : (dialect : Dialect) (b : List ℕ) (q : Position) → IsBase dialect b q → moved q (pos 0) ≡ q
IsBase-unmoved dialect _ _ last = refl
IsBase-unmoved dialect _ _ (number b z p w) = refl

spells_sum : (dialect : Dialect) (b o : List ℕ) (s n : ℕ) (q : Position) → IsSign s → IsBase dialect b q → IsUnsigned dialect o n → Spells dialect (b ++ s ∷ o) (moved q (cond (s == 45) (neg_ℤ (pos n)) (pos n)))
spells_sum dialect b o _ n q is_plus h u = plus b o q n h u
spells_sum dialect b o _ n q is_minus h u = minus b o q n h u

sum_spelled : (dialect : Dialect) (b r : List ℕ) (p : Position) → ((s : ℕ) (o : List ℕ) → r ≡ s ∷ o → IsSign s) → shifted (base_of dialect b) (offset_of dialect r) ≡ index.At p → Spells dialect (b ++ r) p
sum_spelled dialect b [] p sign h =
    let (q, z, e, f, g) = shifted_at (base_of dialect b) (whole.Number (pos 0)) p h in
    let i = base_is dialect b q e in
    let k : pos 0 ≡ z = cc in
    let same : p ≡ q = g ∙ ap (moved q) (sym k) ∙ IsBase-unmoved dialect b q i in
    subst (λ t. Spells dialect t p) (sym (append-nil b)) (base b p (subst (IsBase dialect b) (sym same) i))
sum_spelled dialect b (s ∷ o) p sign h =
    let (q, z, e, f, g) = shifted_at (base_of dialect b) (offset_of dialect (s ∷ o)) p h in
    let (n, u, k) = offset_is dialect s o z f in
    subst (Spells dialect (b ++ s ∷ o)) (sym (g ∙ ap (moved q) k)) (spells_sum dialect b o s n q (sign s o refl) (base_is dialect b q e) u)

read_is_spelled : (dialect : Dialect) (cs : List ℕ) (w : Whole) (p : Position) → whole_of dialect cs ≡ w → number_or_sum dialect cs w ≡ index.At p → Spells dialect cs p
read_is_spelled dialect cs (whole.Number z) p e h = let f : Start z (pos 0) ≡ p = cc in subst (Spells dialect cs) f (alone cs z e)
read_is_spelled dialect cs whole.TooLarge p e h = absurd cc
read_is_spelled dialect cs whole.Not p e h =
    let r = to_sign (tail cs) in
    subst (λ t. Spells dialect t p) (sym (cut_at cs r (sum_ends cs))) (sum_spelled dialect (before cs r) r p (first_sign (tail cs)) h)

-- ---- what is so spelled is read

number_read : (dialect : Dialect) (cs : List ℕ) (z : ℤ) → whole_of dialect cs ≡ whole.Number z → index_of dialect cs ≡ index.At (Start z (pos 0))
unfolding index_of
number_read dialect cs z h = ap (number_or_sum dialect cs) h

pub end_is_no_number : (dialect : Dialect) → whole_of dialect (literal "end") ≡ whole.Not
unfolding whole_of magnitude chars
end_is_no_number dialect = refl

pub end_read : (dialect : Dialect) → index_of dialect (literal "end") ≡ index.At (End (pos 0))
unfolding index_of whole_of magnitude chars
end_read dialect = refl

-- where the sum's sign is found and the whole is no number, the sum is read
sum_read : (dialect : Dialect) (b o : List ℕ) (s n : ℕ) (q : Position) → IsSign s → base_of dialect b ≡ index.At q → IsUnsigned dialect o n → to_sign (tail (b ++ s ∷ o)) ≡ s ∷ o → whole_of dialect (b ++ s ∷ o) ≡ whole.Not
    → index_of dialect (b ++ s ∷ o) ≡ index.At (moved q (cond (s == 45) (neg_ℤ (pos n)) (pos n)))
unfolding index_of
sum_read dialect b o s n q i h u found none =
    let cs = b ++ s ∷ o in
    let left : before cs (to_sign (tail cs)) ≡ b = ap (before cs) found ∙ before_front b (s ∷ o) in
    let off : offset_of dialect (s ∷ o) ≡ whole.Number (cond (s == 45) (neg_ℤ (pos n)) (pos n)) =
    cond-false _ _ _ u.plain ∙ ap (signed_offset (s == 45)) u.says ∙ cond-true _ _ _ (lt-ltb n (2 ^ 63) u.small) in
    ap (number_or_sum dialect cs) none
    ∙ ap (λ t. shifted (base_of dialect t) (offset_of dialect (to_sign (tail cs)))) left
    ∙ ap (λ t. shifted (base_of dialect b) (offset_of dialect t)) found
    ∙ ap (λ t. shifted t (offset_of dialect (s ∷ o))) h ∙ ap (shifted (index.At q)) off

end_found : (s : ℕ) (o : List ℕ) → IsSign s → to_sign (tail (literal "end" ++ s ∷ o)) ≡ s ∷ o
unfolding chars
end_found _ o is_plus = refl
end_found _ o is_minus = refl

end_no_number : (dialect : Dialect) (s : ℕ) (o : List ℕ) → whole_of dialect (literal "end" ++ s ∷ o) ≡ whole.Not
unfolding whole_of magnitude chars
end_no_number dialect s o = refl

pub end_base : (dialect : Dialect) → base_of dialect (literal "end") ≡ index.At (End (pos 0))
unfolding chars
end_base dialect = refl

number_base : (dialect : Dialect) (b : List ℕ) (z : ℤ) → has_space b ≡ false → whole_of dialect b ≡ whole.Number z → base_of dialect b ≡ index.At (Start z (pos 0))
number_base dialect b z p h =
    let other : same_text b (literal "end") ≡ false = false_from_ne_true _ (λ e. let k : whole.Not ≡ whole.Number z = sym (end_is_no_number dialect) ∙ ap (whole_of dialect) (sym (text_is b _ e)) ∙ h in absurd cc) in
    cond-false _ _ _ other ∙ cond-false _ _ _ p ∙ ap of_whole h

signed_read : (dialect : Dialect) (b o : List ℕ) (s n : ℕ) (q : Position) → IsSign s → IsBase dialect b q → IsUnsigned dialect o n → index_of dialect (b ++ s ∷ o) ≡ index.At (moved q (cond (s == 45) (neg_ℤ (pos n)) (pos n)))
signed_read dialect _ o s n _ i last u = sum_read dialect (literal "end") o s n (End (pos 0)) i (end_base dialect) u (end_found s o i) (end_no_number dialect s o)
signed_read dialect _ o s n _ i (number b z p w) u = sum_read dialect b o s n (Start z (pos 0)) i (number_base dialect b z p w) u (sign_found dialect b z s o i p w) (no_number_before dialect b z s o i p w)

base_read : (dialect : Dialect) (cs : List ℕ) (p : Position) → IsBase dialect cs p → index_of dialect cs ≡ index.At p
base_read dialect _ _ last = end_read dialect
base_read dialect _ _ (number cs z p w) = number_read dialect cs z w

spelled_is_read : (dialect : Dialect) (cs : List ℕ) (p : Position) → Spells dialect cs p → index_of dialect cs ≡ index.At p
spelled_is_read dialect _ _ (alone cs z w) = number_read dialect cs z w
spelled_is_read dialect _ _ (base cs p h) = base_read dialect cs p h
spelled_is_read dialect _ _ (plus b digits p n h u) = signed_read dialect b digits 43 n p is_plus h u
spelled_is_read dialect _ _ (minus b digits p n h u) = signed_read dialect b digits 45 n p is_minus h u

pub index_is_spelled : IndexIsSpelled
unfolding index_of
index_is_spelled dialect cs p = (λ h. read_is_spelled dialect cs (whole_of dialect cs) p refl h, λ h. spelled_is_read dialect cs p h)
