-- What spells an index is read as a position where its numbers all fit, and else as too large; what spells none is read as none.
use Rattle.std.proofs.Common.{◌≡◌, ℕ, ◌==◌, ◌&&◌, Bool, true, false, cond, List, [], ◌∷◌, ◌++◌, Option, Some, None, ℤ, pos, sym, ◌∙◌, ap, subst, refl, inl, inr, ◌⊎◌}
use Rattle.std.specs.Prelude.{neg_ℤ}
use Rattle.std.specs.Str.{chars}
use Rattle.std.proofs.lemmas.Bool.{cases_Bool, cond-true, cond-false, false_from_ne_true}
use Rattle.std.proofs.lemmas.List.{append-nil}
use Rattle.tcl_chars.specs.Arith.{fits}
use Rattle.tcl_chars.specs.Index.{has_space, to_sign, of_whole, base_of, signed_offset, offset_of, moved, shifted, number_or_sum, index_of}
use Rattle.tcl_chars.specs.Laws.{Spells}
use Rattle.tcl_chars.specs.Place.{before, tail}
use Rattle.tcl_chars.specs.Texts.{literal, same_text}
use Rattle.tcl_chars.specs.Whole.{magnitude, whole_of}
use Rattle.tcl_chars.specs.declared.indices.Index.{Index}
use Rattle.tcl_chars.specs.declared.indices.Index.TheVariants as index
use Rattle.tcl_chars.specs.declared.indices.Position.{Position}
use Rattle.tcl_chars.specs.declared.indices.Position.TheVariants.{Start, End}
use Rattle.tcl_chars.specs.declared.numbers.Dialect.{Dialect}
use Rattle.tcl_chars.specs.declared.numbers.Whole.TheVariants as whole
use Rattle.tcl_chars.proofs.BeforeSigns.{IsSign, is_plus, is_minus}
use Rattle.tcl_chars.proofs.IndicesLemmas.{sum_ends}
use Rattle.tcl_chars.proofs.Same.{text_is}
use Rattle.tcl_chars.proofs.SpelledIndices.{first_sign, before_front, cut_at, end_is_no_number, end_read, end_base, index_is_spelled}
use Rattle.tcl_laws.specs.Indices.{Writes, SpellsBase, WritesPlain, SpellsIndex, all_fit, SpellsTooLarge, LargeIsSpelled, OtherIsNoIndex, PositionsFit}
use Rattle.tcl_laws.specs.Indices.SpellsBase.{last, number}
use Rattle.tcl_laws.specs.Indices.SpellsIndex.{alone, base, more, less}
use Rattle.tcl_laws.proofs.NumberTexts.{written_read, written_or_none, SignBehind, sign_behind}

-- ---- what is spelled is read

-- numbers that all fit make a position, and others an index that is too large
abbrev sized_index : Bool → Position → Index
sized_index fit p = cond fit (index.At p) index.TooLarge

abbrev ReadAs : Index → List ℤ → Type 0
ReadAs i numbers = (p : Position) × (i ≡ sized_index (all_fit numbers) p)

end_sign : (dialect : Dialect) (s : ℕ) (o : List ℕ) → IsSign s → SignBehind dialect (literal "end") s o
unfolding whole_of magnitude chars
end_sign dialect _ o is_plus = record { found = refl; other = refl }
end_sign dialect _ o is_minus = record { found = refl; other = refl }

sized_some : (z : ℤ) (fit : Bool) → cond fit (whole.Number z) whole.TooLarge ≡ whole.Not → ⊥
sized_some z true h = cc
sized_some z false h = cc

of_sized : (z : ℤ) (fit : Bool) → of_whole (cond fit (whole.Number z) whole.TooLarge) ≡ sized_index (fit && true) (Start z (pos 0))
of_sized z true = refl
of_sized z false = refl

number_base : (dialect : Dialect) (b : List ℕ) (z : ℤ) → has_space b ≡ false → Writes dialect b z → base_of dialect b ≡ sized_index (fits z && true) (Start z (pos 0))
number_base dialect b z h w =
    let other : same_text b (literal "end") ≡ false = false_from_ne_true _ (λ e. sized_some z (fits z) (sym (written_read dialect b z w) ∙ ap (whole_of dialect) (text_is b _ e) ∙ end_is_no_number dialect)) in
    cond-false _ _ _ other ∙ cond-false _ _ _ h ∙ ap of_whole (written_read dialect b z w) ∙ of_sized z (fits z)

base_read : (dialect : Dialect) (b : List ℕ) (numbers : List ℤ) → SpellsBase dialect b numbers → ReadAs (base_of dialect b) numbers
base_read dialect _ _ last = (End (pos 0), end_base dialect)
base_read dialect _ _ (number cs z h w) = (Start z (pos 0), number_base dialect cs z h w)

base_sign : (dialect : Dialect) (b : List ℕ) (numbers : List ℤ) (s : ℕ) (o : List ℕ) → IsSign s → SpellsBase dialect b numbers → SignBehind dialect b s o
base_sign dialect _ _ s o i last = end_sign dialect s o i
base_sign dialect _ _ s o i (number cs z h w) = sign_behind dialect cs z s o i h w

number_alone : (dialect : Dialect) (cs : List ℕ) (z : ℤ) (fit : Bool) → number_or_sum dialect cs (cond fit (whole.Number z) whole.TooLarge) ≡ sized_index (fit && true) (Start z (pos 0))
number_alone dialect cs z true = refl
number_alone dialect cs z false = refl

number_read : (dialect : Dialect) (cs : List ℕ) (z : ℤ) → Writes dialect cs z → ReadAs (index_of dialect cs) (z ∷ [])
unfolding index_of
number_read dialect cs z w = (Start z (pos 0), ap (number_or_sum dialect cs) (written_read dialect cs z w) ∙ number_alone dialect cs z (fits z))

shifted_sized : (base_fits offset_fits : Bool) (q : Position) (z : ℤ) → shifted (sized_index base_fits q) (cond offset_fits (whole.Number z) whole.TooLarge) ≡ sized_index (offset_fits && base_fits) (moved q z)
shifted_sized true true q z = refl
shifted_sized true false q z = refl
shifted_sized false true q z = refl
shifted_sized false false q z = refl

sum_read : (dialect : Dialect) (b o : List ℕ) (numbers : List ℤ) (s n : ℕ) → IsSign s → SpellsBase dialect b numbers → WritesPlain dialect o n → ReadAs (index_of dialect (b ++ s ∷ o)) (pos n ∷ numbers)
unfolding index_of
sum_read dialect b o numbers s n i h w =
    let cs = b ++ s ∷ o in
    let z = cond (s == 45) (neg_ℤ (pos n)) (pos n) in
    let r = base_read dialect b numbers h in
    let sign = base_sign dialect b numbers s o i h in
    let left : before cs (to_sign (tail cs)) ≡ b = ap (before cs) sign.found ∙ before_front b (s ∷ o) in
    let offset : offset_of dialect (s ∷ o) ≡ cond (fits (pos n)) (whole.Number z) whole.TooLarge = cond-false _ _ _ w.solid ∙ ap (signed_offset (s == 45)) w.says in (
      moved r.0 z,
      ap (number_or_sum dialect cs) sign.other
          ∙ ap (λ t. shifted (base_of dialect t) (offset_of dialect (to_sign (tail cs)))) left
          ∙ ap (λ t. shifted (base_of dialect b) (offset_of dialect t)) sign.found
          ∙ ap (λ t. shifted t (offset_of dialect (s ∷ o))) r.1 ∙ ap (shifted (sized_index (all_fit numbers) r.0)) offset
          ∙ shifted_sized (all_fit numbers) (fits (pos n)) r.0 z,
    )

index_read : (dialect : Dialect) (cs : List ℕ) (numbers : List ℤ) → SpellsIndex dialect cs numbers → ReadAs (index_of dialect cs) numbers
index_read dialect _ _ (alone cs z w) = number_read dialect cs z w
index_read dialect _ _ (base _ _ last) = (End (pos 0), end_read dialect)
index_read dialect _ _ (base _ _ (number cs z h w)) = number_read dialect cs z w
index_read dialect _ _ (more b digits numbers n h w) = sum_read dialect b digits numbers 43 n is_plus h w
index_read dialect _ _ (less b digits numbers n h w) = sum_read dialect b digits numbers 45 n is_minus h w

-- ---- what spells none is read as none

abbrev SpellsSome : Dialect → List ℕ → Type 0
SpellsSome dialect cs = (numbers : List ℤ) × SpellsIndex dialect cs numbers

base_or_none : (dialect : Dialect) (b : List ℕ) → (base_of dialect b ≡ index.Not) ⊎ ((numbers : List ℤ) × SpellsBase dialect b numbers)
base_or_none dialect b = elim (cases_Bool (same_text b (literal "end"))) [
  | inl ends ↦ inr ([], subst (λ t. SpellsBase dialect t []) (sym (text_is b _ ends)) last)
  | inr other ↦ elim (cases_Bool (has_space b)) [
    | inl space ↦ inl (cond-false _ _ _ other ∙ cond-true _ _ _ space)
    | inr solid ↦ elim (written_or_none dialect b) [
      | inl none ↦ inl (cond-false _ _ _ other ∙ cond-false _ _ _ solid ∙ ap of_whole none)
      | inr w ↦ inr (w.0 ∷ [], number b w.0 solid w.1)
    ]
  ]
]

plain_or_none : (dialect : Dialect) (s : ℕ) (o : List ℕ) (m : Option ℕ) → has_space o ≡ false → magnitude dialect o ≡ m → (offset_of dialect (s ∷ o) ≡ whole.Not) ⊎ ((n : ℕ) × WritesPlain dialect o n)
plain_or_none dialect s o None h e = inl (cond-false _ _ _ h ∙ ap (signed_offset (s == 45)) e)
plain_or_none dialect s o (Some n) h e = inr (n, record { solid = h; says = e })

offset_or_none : (dialect : Dialect) (s : ℕ) (o : List ℕ) → (offset_of dialect (s ∷ o) ≡ whole.Not) ⊎ ((n : ℕ) × WritesPlain dialect o n)
offset_or_none dialect s o = elim (cases_Bool (has_space o)) [
  | inl space ↦ inl (cond-true _ _ _ space)
  | inr solid ↦ plain_or_none dialect s o (magnitude dialect o) solid refl
]

no_offset : (i : Index) → shifted i whole.Not ≡ index.Not
no_offset index.Not = refl
no_offset index.TooLarge = refl
no_offset (index.At q) = refl

spells_sum : (dialect : Dialect) (b o : List ℕ) (s n : ℕ) (numbers : List ℤ) → IsSign s → SpellsBase dialect b numbers → WritesPlain dialect o n → SpellsSome dialect (b ++ s ∷ o)
spells_sum dialect b o _ n numbers is_plus h w = (pos n ∷ numbers, more b o numbers n h w)
spells_sum dialect b o _ n numbers is_minus h w = (pos n ∷ numbers, less b o numbers n h w)

behind_base : (dialect : Dialect) (b r : List ℕ) (numbers : List ℤ) → ((s : ℕ) (o : List ℕ) → r ≡ s ∷ o → IsSign s) → SpellsBase dialect b numbers → (shifted (base_of dialect b) (offset_of dialect r) ≡ index.Not) ⊎ SpellsSome dialect (b ++ r)
behind_base dialect b [] numbers sign h = inr (numbers, subst (λ t. SpellsIndex dialect t numbers) (sym (append-nil b)) (base b numbers h))
behind_base dialect b (s ∷ o) numbers sign h = elim (offset_or_none dialect s o) [
  | inl none ↦ inl (ap (shifted (base_of dialect b)) none ∙ no_offset (base_of dialect b))
  | inr w ↦ inr (spells_sum dialect b o s w.0 numbers (sign s o refl) h w.1)
]

sum_or_none : (dialect : Dialect) (b r : List ℕ) → ((s : ℕ) (o : List ℕ) → r ≡ s ∷ o → IsSign s) → (shifted (base_of dialect b) (offset_of dialect r) ≡ index.Not) ⊎ SpellsSome dialect (b ++ r)
sum_or_none dialect b r sign = elim (base_or_none dialect b) [
  | inl none ↦ inl (ap (λ i. shifted i (offset_of dialect r)) none)
  | inr h ↦ behind_base dialect b r h.0 sign h.1
]

spelled_or_none : (dialect : Dialect) (cs : List ℕ) → (index_of dialect cs ≡ index.Not) ⊎ SpellsSome dialect cs
unfolding index_of
spelled_or_none dialect cs = elim (written_or_none dialect cs) [
  | inl none ↦
      let r = to_sign (tail cs) in
      elim (sum_or_none dialect (before cs r) r (first_sign (tail cs))) [
        | inl e ↦ inl (ap (number_or_sum dialect cs) none ∙ e)
        | inr h ↦ inr (h.0, subst (λ t. SpellsIndex dialect t h.0) (sym (cut_at cs r (sum_ends cs))) h.1)
      ]
  | inr w ↦ inr (w.0 ∷ [], alone cs w.0 w.1)
]

-- ---- the laws

large_by : (dialect : Dialect) (cs : List ℕ) (numbers : List ℤ) (p : Position) (fit : Bool) → SpellsIndex dialect cs numbers → all_fit numbers ≡ fit → sized_index fit p ≡ index.TooLarge → SpellsTooLarge dialect cs
large_by dialect cs numbers p true h f e = absurd cc
large_by dialect cs numbers p false h f e = (numbers, h, f)

large_spelled : (dialect : Dialect) (cs : List ℕ) → index_of dialect cs ≡ index.TooLarge → SpellsTooLarge dialect cs
large_spelled dialect cs e = elim (spelled_or_none dialect cs) [
  | inl none ↦ absurd (let k : index.Not ≡ index.TooLarge = sym none ∙ e in cc)
  | inr h ↦ let r = index_read dialect cs h.0 h.1 in large_by dialect cs h.0 r.0 (all_fit h.0) h.1 refl (sym r.1 ∙ e)
]

spelled_large : (dialect : Dialect) (cs : List ℕ) → SpellsTooLarge dialect cs → index_of dialect cs ≡ index.TooLarge
spelled_large dialect cs h = (index_read dialect cs h.0 h.1).1 ∙ cond-false _ _ _ h.2

pub large_is_spelled : LargeIsSpelled
large_is_spelled dialect cs = (large_spelled dialect cs, spelled_large dialect cs)

none_by : (dialect : Dialect) (cs : List ℕ) (i : Index) → index_of dialect cs ≡ i → ((p : Position) → Spells dialect cs p → ⊥) → (SpellsTooLarge dialect cs → ⊥) → i ≡ index.Not
none_by dialect cs (index.At p) e no_position not_large = absurd (no_position p ((index_is_spelled dialect cs p).0 e))
none_by dialect cs index.TooLarge e no_position not_large = absurd (not_large (large_spelled dialect cs e))
none_by dialect cs index.Not e no_position not_large = refl

pub other_is_no_index : OtherIsNoIndex
other_is_no_index dialect cs = (
  (λ none. ((λ p s. (let e : index.Not ≡ index.At p = sym none ∙ (index_is_spelled dialect cs p).1 s in cc)), (λ h. (let e : index.Not ≡ index.TooLarge = sym none ∙ spelled_large dialect cs h in cc)))),
  (λ h. none_by dialect cs (index_of dialect cs) refl h.0 h.1),
)

fit_by : (dialect : Dialect) (cs : List ℕ) (numbers : List ℤ) (p q : Position) (fit : Bool) → SpellsIndex dialect cs numbers → all_fit numbers ≡ fit → sized_index fit q ≡ index.At p → (zs : List ℤ) × SpellsIndex dialect cs zs × (all_fit zs ≡ true)
fit_by dialect cs numbers p q true h f e = (numbers, h, f)
fit_by dialect cs numbers p q false h f e = absurd cc

position_fits : (dialect : Dialect) (cs : List ℕ) (p : Position) → Spells dialect cs p → (numbers : List ℤ) × SpellsIndex dialect cs numbers × (all_fit numbers ≡ true)
position_fits dialect cs p s =
    let e : index_of dialect cs ≡ index.At p = (index_is_spelled dialect cs p).1 s in
    elim (spelled_or_none dialect cs) [
      | inl none ↦ absurd (let k : index.Not ≡ index.At p = sym none ∙ e in cc)
      | inr h ↦ let r = index_read dialect cs h.0 h.1 in fit_by dialect cs h.0 p r.0 (all_fit h.0) h.1 refl (sym r.1 ∙ e)
    ]

pub positions_fit : PositionsFit
positions_fit dialect cs = (
  (λ s. position_fits dialect cs s.0 s.1),
  (λ h. let r = index_read dialect cs h.0 h.1 in (r.0, (index_is_spelled dialect cs r.0).0 (r.1 ∙ cond-true _ _ _ h.2))),
)
