-- The name at the front is the longest front that is one.
use Rattle.std.proofs.Common.{◌≡◌, ℕ, zero, suc, ◌+◌, ◌<◌, ◌≤◌, Bool, true, false, not, ◌&&◌, ◌||◌, ◌==◌, List, [], ◌∷◌, ◌++◌, length, take, refl, sym, ap, ◌∙◌, subst, arith, inl, inr, ◌⊎◌}
use Rattle.std.proofs.lemmas.Bool.{cases_Bool, eqb-true, ne_eqb, true≢false}
use Rattle.std.proofs.Math.Bool.{and-false}
use Rattle.tcl_chars.specs.Characters.{colon}
use Rattle.tcl_chars.specs.Classes.{is_name_char}
use Rattle.tcl_chars.specs.Place.{begins}
use Rattle.tcl_words.specs.Spelling.{is_name}
use Rattle.tcl_words.specs.Words.{after_name}

-- how the flag of the scan fits the colons before the text
abbrev Fits : Bool → ℕ → List ℕ → Type 0
Fits false run cs = run ≡ 0
Fits true run cs = (2 ≤ run) ⊎ ((run ≡ 1) × (begins colon cs ≡ true))

-- where no colon follows, there isn't one alone
not_one : (f : Bool) (run : ℕ) (cs : List ℕ) → Fits f run cs → begins colon cs ≡ false → (run == 1) ≡ false
not_one false run cs e n = ne_eqb run 1 (λ z. absurd (omega (arith, z, e)))
not_one true run cs (inl l) n = ne_eqb run 1 (λ z. absurd (omega (arith, z, l)))
not_one true run cs (inr (o, b)) n = absurd (true≢false (sym b ∙ n))

abbrev pub Longer : ℕ → List ℕ → List ℕ → Type 0
Longer run cs name = (n : ℕ) → length name < n → n ≤ length cs → is_name run (take n cs) ≡ false

abbrev pub Longest : Bool → ℕ → List ℕ → Type 0
Longest f run cs = (name : List ℕ) × (cs ≡ name ++ after_name f cs) × (is_name run name ≡ true) × Longer run cs name

fits_more : (f : Bool) (run : ℕ) (cs ds : List ℕ) → Fits f run cs → (f || begins colon ds) ≡ true → Fits true (run + 1) ds
fits_more false run cs ds e b = inr (omega arith, b)
fits_more true run cs ds (inl l) b = inl (omega arith)
fits_more true run cs ds (inr (o, h)) b = inl (omega (arith, o))

longer_colon : (run : ℕ) (cs name : List ℕ) → Longer (run + 1) cs name → Longer run (colon ∷ cs) (colon ∷ name)
longer_colon run cs name h zero l m = absurd (omega arith)
longer_colon run cs name h (suc n) l m = h n (omega arith) (omega arith)

longer_char : (run c : ℕ) (cs name : List ℕ) → (c == colon) ≡ false → Longer 0 cs name → Longer run (c ∷ cs) (c ∷ name)
longer_char run c cs name e h zero l m = absurd (omega arith)
longer_char run c cs name e h (suc n) l m = rw (e, h n (omega arith) (omega arith)) (and-false (not (run == 1) && is_name_char c))

-- a colon alone, and what is no colon behind it
longer_alone : (cs : List ℕ) → begins colon cs ≡ false → Longer 0 (colon ∷ cs) []
longer_alone cs e zero l m = absurd (omega arith)
longer_alone [] e (suc zero) l m = refl
longer_alone [] e (suc (suc n)) l m = absurd (omega arith)
longer_alone (c ∷ cs) e (suc zero) l m = refl
longer_alone (c ∷ cs) e (suc (suc n)) l m = rw e refl

longer_other : (run c : ℕ) (cs : List ℕ) → (c == colon) ≡ false → is_name_char c ≡ false → Longer run (c ∷ cs) []
longer_other run c cs e n zero l m = absurd (omega arith)
longer_other run c cs e n (suc k) l m = rw (e, n, and-false (not (run == 1))) refl

-- a colon that begins no run
colon_stops : (f : Bool) (run : ℕ) (cs : List ℕ) → Fits f run (colon ∷ cs) → (f || begins colon cs) ≡ false → (name : List ℕ) × (colon ∷ cs ≡ name ++ colon ∷ cs) × (is_name run name ≡ true) × Longer run (colon ∷ cs) name
colon_stops true run cs fits b = absurd cc
colon_stops false run cs fits b = subst (λ r. (name : List ℕ) × (colon ∷ cs ≡ name ++ colon ∷ cs) × (is_name r name ≡ true) × Longer r (colon ∷ cs) name) (sym fits) ([], refl, refl, longer_alone cs b)

colon_longest : (f : Bool) (run : ℕ) (cs : List ℕ) → Fits f run (colon ∷ cs) → (Fits true (run + 1) cs → Longest true (run + 1) cs) → Longest f run (colon ∷ cs)
unfolding after_name
colon_longest f run cs fits more = elim (cases_Bool (f || begins colon cs)) [
  | inl b ↦ let l = more (fits_more f run (colon ∷ cs) cs fits b) in rw b (colon ∷ l.0, ap (λ t. colon ∷ t) l.1, l.2, longer_colon run cs l.0 l.3)
  | inr b ↦ rw b (colon_stops f run cs fits b)
]

longest : (f : Bool) (run : ℕ) (cs : List ℕ) → Fits f run cs → Longest f run cs
unfolding after_name
longest f run [] fits = ([], refl, rw (not_one f run [] fits refl) refl, λ n l m. absurd (omega arith))
longest f run (c ∷ cs) fits = elim (cases_Bool (c == colon)) [
  | inl e ↦
      let P : ℕ → Type 0 = λ x. Fits f run (x ∷ cs) → Longest f run (x ∷ cs) in
      let at : P colon = λ h. colon_longest f run cs h (longest true (run + 1) cs) in
      (subst P (sym (eqb-true c colon e)) at) fits
  | inr e ↦ elim (cases_Bool (is_name_char c)) [
    | inl n ↦ let l = longest false 0 cs refl in rw n (c ∷ l.0, ap (λ t. c ∷ t) l.1, rw (e, not_one f run (c ∷ cs) fits e, n, l.2) refl, longer_char run c cs l.0 e l.3)
    | inr n ↦ rw (n, e) ([], refl, rw (not_one f run (c ∷ cs) fits e) refl, longer_other run c cs e n)
  ]
]

pub name_longest : (cs : List ℕ) → Longest false 0 cs
name_longest cs = longest false 0 cs refl
