-- The test of a pattern is right.
use Rattle.std.proofs.Common.{◌≡◌, ◌≢◌, ℕ, zero, suc, ◌≤◌, ◌==◌, Bool, true, false, ◌||◌, ◌&&◌, [], ◌∷◌, ◌++◌, length, sym, ap, ◌∙◌, subst, refl, arith, inl, inr}
use Rattle.std.proofs.lemmas.Bool.{cases_Bool, cond_both, and_parts, cond-true, cond-false, eq-eqb, eqb-true, ne_eqb, false≢true}
use Rattle.tcl_chars.specs.Characters.{star, backslash, open_bracket, close_bracket}
use Rattle.tcl_chars.specs.Place.{tail}
use Rattle.tcl_pages.specs.Glob.{One, takes, to_bracket, escaped_part, first_part, Matches, some_rest, one_taken, glob_within, glob, GlobIsMatch, question}
use Rattle.tcl_pages.specs.Glob as pattern
use Rattle.tcl_pages.specs.Texts.{Text}

-- ---- a part takes a character of the pattern at least

tail_shorter : (cs : Text) → length (tail cs) ≤ length cs
tail_shorter [] = omega arith
tail_shorter (c ∷ cs) = omega arith

bracket_shorter : (cs : Text) → length (to_bracket cs) ≤ length cs
bracket_shorter [] = omega arith
bracket_shorter (c ∷ cs) = cond_both (c == close_bracket) _ _ (λ (t : Text). length t ≤ length (c ∷ cs)) (λ _. omega arith) (λ _. omega (arith, bracket_shorter cs))

abbrev Shorter : ℕ → One × Text → Type 0
Shorter n part = length part.1 ≤ n

escaped_shorter : (cs : Text) → Shorter (length cs) (escaped_part cs)
escaped_shorter [] = omega arith
escaped_shorter (c ∷ cs) = omega arith

pub part_shorter : (p : ℕ) (ps : Text) → Shorter (length ps) (first_part p ps)
part_shorter p ps =
    cond_both (p == question) _ _ (Shorter (length ps)) (λ _. omega arith)
    (λ _. cond_both (p == open_bracket) _ _ (Shorter (length ps)) (λ _. omega (arith, tail_shorter (to_bracket ps), bracket_shorter ps))
    (λ _. cond_both (p == backslash) _ _ (Shorter (length ps)) (λ _. escaped_shorter ps) (λ _. omega arith)))

-- ---- what the test finds is a match

pub record Rest (test : Text → Bool) (t : Text) : Type 0 where
  pub front : Text
  pub rest : Text
  pub joined : t ≡ front ++ rest
  pub passes : test rest ≡ true

pub found_rest : (test : Text → Bool) (t : Text) → some_rest test t ≡ true → Rest test t
found_rest test [] h = record { front = []; rest = []; joined = refl; passes = h }
found_rest test (c ∷ cs) h =
    elim (cases_Bool (test (c ∷ cs))) [
      | inl t ↦ record { front = []; rest = c ∷ cs; joined = refl; passes = t }
      | inr f ↦ let r = found_rest test cs (sym (ap (λ b. b || some_rest test cs) f) ∙ h) in record { front = c ∷ r.front; rest = r.rest; joined = ap (λ t. c ∷ t) r.joined; passes = r.passes }
    ]

by_star : (p : ℕ) (ps t : Text) (test : Text → Bool) → p ≡ star → ((rest : Text) → test rest ≡ true → Matches ps rest) → some_rest test t ≡ true → Matches (p ∷ ps) t
by_star p ps t test e k h =
    let r = found_rest test t h in
    subst (λ u. Matches (p ∷ ps) u) (sym r.joined) (subst (λ q. Matches (q ∷ ps) (r.front ++ r.rest)) (sym e) (pattern.any_text ps r.front r.rest (k r.rest r.passes)))

by_part : (p : ℕ) (ps t : Text) (test : Text → Bool) → p ≢ star → ((rest : Text) → test rest ≡ true → Matches (first_part p ps).1 rest)
    → one_taken (first_part p ps).0 test t ≡ true → Matches (p ∷ ps) t
by_part p ps [] test n k h = absurd (false≢true h)
by_part p ps (c ∷ cs) test n k h = let both = and_parts _ _ h in pattern.one p c ps cs n both.0 (k cs both.1)

is_match : (n : ℕ) (ps t : Text) → glob_within n ps t ≡ true → Matches ps t
is_match zero [] [] h = pattern.nothing
is_match zero [] (c ∷ cs) h = absurd (false≢true h)
is_match zero (p ∷ ps) t h = absurd (false≢true h)
is_match (suc n) [] [] h = pattern.nothing
is_match (suc n) [] (c ∷ cs) h = absurd (false≢true h)
is_match (suc n) (p ∷ ps) t h =
    cond_both (p == star) _ _ (λ (b : Bool). b ≡ true → Matches (p ∷ ps) t)
    (λ e. by_star p ps t (glob_within n ps) (eqb-true p star e) (is_match n ps))
    (λ e. by_part p ps t (glob_within n (first_part p ps).1) (λ s. false≢true (sym e ∙ ap (λ x. x == star) s)) (is_match n (first_part p ps).1)) h

-- ---- a match is found

rest_found : (test : Text → Bool) (front rest : Text) → test rest ≡ true → some_rest test (front ++ rest) ≡ true
rest_found test [] [] h = h
rest_found test [] (c ∷ cs) h = ap (λ b. b || some_rest test cs) h
rest_found test (c ∷ front) rest h = ap (λ b. test (c ∷ (front ++ rest)) || b) (rest_found test front rest h) ∙ or_true (test (c ∷ (front ++ rest)))
  where
    or_true : (b : Bool) → (b || true) ≡ true
    or_true true = refl
    or_true false = refl

is_found : (n : ℕ) (ps t : Text) → Matches ps t → length ps ≤ n → glob_within n ps t ≡ true
is_found zero _ _ pattern.nothing l = refl
is_found (suc n) _ _ pattern.nothing l = refl
is_found zero _ _ (pattern.any_text ps front rest m) l = absurd (omega arith)
is_found (suc n) _ _ (pattern.any_text ps front rest m) l = rest_found (glob_within n ps) front rest (is_found n ps rest m (omega arith))
is_found zero _ _ (pattern.one p c ps rest s t m) l = absurd (omega arith)
is_found (suc n) _ _ (pattern.one p c ps rest s t m) l =
    rw (ne_eqb p star s, t) (is_found n (first_part p ps).1 rest m (omega (arith, part_shorter p ps)))

pub glob_is_match : GlobIsMatch
unfolding glob
glob_is_match ps t = (λ m. is_found (length ps) ps t m (omega arith), is_match (length ps) ps t)

pub same_truth : (a b : Bool) → (a ≡ true → b ≡ true) → (b ≡ true → a ≡ true) → a ≡ b
same_truth true b h k = sym (h refl)
same_truth false true h k = k refl
same_truth false false h k = refl

-- any count of parts that is enough gives the same
enough : (n : ℕ) (ps t : Text) → length ps ≤ n → glob_within n ps t ≡ glob ps t
unfolding glob
enough n ps t l = same_truth _ _ (λ e. is_found (length ps) ps t (is_match n ps t e) (omega arith)) (λ e. is_found n ps t (is_match (length ps) ps t e) l)

same_rest : (f g : Text → Bool) (t : Text) → ((u : Text) → f u ≡ g u) → some_rest f t ≡ some_rest g t
same_rest f g [] h = h []
same_rest f g (c ∷ cs) h = ap (λ b. b || some_rest f cs) (h (c ∷ cs)) ∙ ap (λ b. g (c ∷ cs) || b) (same_rest f g cs h)

-- ---- a pattern from the left

pub no_pattern : glob [] [] ≡ true
unfolding glob
no_pattern = refl

pub text_left : (c : ℕ) (cs : Text) → glob [] (c ∷ cs) ≡ false
unfolding glob
text_left c cs = refl

pub at_star : (p : ℕ) (ps t : Text) → p ≡ star → glob (p ∷ ps) t ≡ some_rest (glob ps) t
unfolding glob
at_star p ps t e = cond-true _ _ _ (eq-eqb p star e) ∙ same_rest (glob_within (length ps) ps) (glob ps) t (λ u. refl)

pub no_text : (p : ℕ) (ps : Text) → p ≢ star → glob (p ∷ ps) [] ≡ false
unfolding glob
no_text p ps n = cond-false _ _ _ (ne_eqb p star n)

pub at_part : (p c : ℕ) (ps t : Text) → p ≢ star → glob (p ∷ ps) (c ∷ t) ≡ (takes (first_part p ps).0 c && glob (first_part p ps).1 t)
unfolding glob
at_part p c ps t n = cond-false _ _ _ (ne_eqb p star n) ∙ ap (λ b. takes (first_part p ps).0 c && b) (enough (length ps) (first_part p ps).1 t (part_shorter p ps))
