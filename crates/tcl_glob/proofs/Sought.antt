-- A pattern fits nowhere in front of the next place of the character that it begins with.
use Rattle.std.proofs.Common.{◌≡◌, ◌≢◌, ◌<◌, ◌≤◌, ◌==◌, ℕ, Bool, true, false, ◌&&◌, ◌||◌, List, [], ◌∷◌, length, refl, sym, ap, ◌∙◌, arith, inl, inr}
use Rattle.std.specs.Prelude.{cond}
use Rattle.std.proofs.lemmas.Bool.{cases_Bool, cond-true, cond-false, cond_both, eq-eqb, ne_eqb, false≢true}
use Rattle.tcl_chars.specs.Characters.{star, backslash, open_bracket}
use Rattle.tcl_chars.proofs.Ends.{ends_le}
use Rattle.tcl_pages.specs.Glob.{One, just, question, takes, first_part, some_rest, glob}
use Rattle.tcl_pages.proofs.Glob.{text_left, at_part}
use Rattle.tcl_glob.specs.Glob.{is_plain, to_fit, Fit, FirstFit}
use Rattle.tcl_glob.specs.Seek.{to_separator}
use Rattle.tcl_glob.proofs.FirstFit.{first_of}
use Rattle.tcl_glob.proofs.SeekLemmas.{ends_there}

neither : (a b : Bool) → cond a false b ≡ true → (a ≡ false) × (b ≡ true)
neither true b h = absurd (false≢true h)
neither false b h = (refl, h)

record Plain (p : ℕ) : Type 0 where
  no_star : p ≢ star
  is_part : (ps : List ℕ) → first_part p ps ≡ (just p, ps)

plain : (p : ℕ) → is_plain p ≡ true → Plain p
plain p h =
    let a = neither (p == star) _ h in
    let b = neither (p == question) _ a.1 in
    let c = neither (p == open_bracket) _ b.1 in
    let d = neither (p == backslash) _ c.1 in
    record {
      no_star = λ e. false≢true (sym a.0 ∙ eq-eqb p star e);
      is_part = λ ps. cond-false _ _ _ b.0 ∙ cond-false _ _ _ c.0 ∙ cond-false _ _ _ d.0;
    }

not_here : (p c : ℕ) (ps cs : List ℕ) → Plain p → (c == p) ≡ false → glob (p ∷ ps) (c ∷ cs) ≡ false
not_here p c ps cs q n =
    at_part p c ps cs q.no_star
    ∙ ap (λ (x : One × List ℕ). takes x.0 c && glob x.1 cs) (q.is_part ps)
    ∙ ap (λ b. b && glob ps cs) (ne_eqb p c (λ e. false≢true (sym n ∙ eq-eqb c p (sym e))))

plain_sought : (p : ℕ) (ps t : List ℕ) → Plain p → some_rest (glob (p ∷ ps)) (to_separator (λ c. c == p) t) ≡ some_rest (glob (p ∷ ps)) t
plain_sought p ps [] q = refl
plain_sought p ps (c ∷ cs) q =
    elim (cases_Bool (c == p)) [
      | inl y ↦ ap (some_rest (glob (p ∷ ps))) (cond-true _ _ _ y)
      | inr n ↦ ap (some_rest (glob (p ∷ ps))) (cond-false _ _ _ n) ∙ plain_sought p ps cs q ∙ sym (ap (λ b. b || some_rest (glob (p ∷ ps)) cs) (not_here p c ps cs q n))
    ]

at_the_end : (t : List ℕ) → some_rest (glob []) t ≡ glob [] []
at_the_end [] = refl
at_the_end (c ∷ cs) = ap (λ b. b || some_rest (glob []) cs) (text_left c cs) ∙ at_the_end cs

pub sought : (ps t : List ℕ) → some_rest (glob ps) (to_fit ps t) ≡ some_rest (glob ps) t
sought [] t = sym (at_the_end t)
sought (p ∷ ps) t =
    elim (cases_Bool (is_plain p)) [
      | inl y ↦ ap (some_rest (glob (p ∷ ps))) (cond-true _ _ _ y) ∙ plain_sought p ps t (plain p y)
      | inr n ↦ ap (some_rest (glob (p ∷ ps))) (cond-false _ _ _ n)
    ]

fit_le : (ps t : List ℕ) → length (to_fit ps t) ≤ length t
fit_le [] t = omega arith
fit_le (p ∷ ps) t = cond_both (is_plain p) _ _ (λ (r : List ℕ). length r ≤ length t) (λ _. ends_le t _ (ends_there (λ c. c == p) t)) (λ _. omega arith)

-- ---- the places of a loop

pub goes_on : (ps rest place after : List ℕ) (c : ℕ) → place ≡ to_fit ps rest → place ≡ c ∷ after → length after < length rest
goes_on ps rest place after c e f = omega (arith, fit_le ps rest, ap length e, ap length f)

pub fits_there : (ps whole rest place qs u : List ℕ) → place ≡ to_fit ps rest → some_rest (glob ps) rest ≡ some_rest (glob ps) whole → Fit ps place qs u → FirstFit ps whole qs u
fits_there ps whole rest place qs u e k f = first_of ps whole place qs u (ap (some_rest (glob ps)) e ∙ sought ps rest ∙ k) f

pub fits_behind : (ps whole rest place after : List ℕ) (c : ℕ) → place ≡ to_fit ps rest → place ≡ c ∷ after → glob ps place ≡ false → some_rest (glob ps) rest ≡ some_rest (glob ps) whole
    → some_rest (glob ps) after ≡ some_rest (glob ps) whole
fits_behind ps whole rest place after c e f n k =
    sym (ap (λ b. b || some_rest (glob ps) after) (sym (ap (glob ps) f) ∙ n)) ∙ sym (ap (some_rest (glob ps)) f) ∙ ap (some_rest (glob ps)) e ∙ sought ps rest ∙ k

pub fits_nowhere : (ps whole rest place : List ℕ) → place ≡ to_fit ps rest → place ≡ [] → glob ps place ≡ false → some_rest (glob ps) rest ≡ some_rest (glob ps) whole
    → some_rest (glob ps) whole ≡ false
fits_nowhere ps whole rest place e f n k =
    sym k ∙ sym (sought ps rest) ∙ sym (ap (some_rest (glob ps)) e) ∙ ap (some_rest (glob ps)) f ∙ sym (ap (glob ps) f) ∙ n
