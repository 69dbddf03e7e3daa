-- A text is split part by part.
use Rattle.std.proofs.Common.{◌≡◌, ℕ, suc, ◌-◌, ◌<◌, Bool, List, [], ◌∷◌, ◌++◌, append_assoc, length, take, refl, sym, ap, ◌∙◌, arith, inl, inr}
use Rattle.std.proofs.lemmas.Bool.{cases_Bool, cond-true, cond-false, cond_both}
use Rattle.tcl_chars.specs.Place.{EndsWith, before}
use Rattle.tcl_chars.proofs.Ends.{ends_self, ends_more, ends_le}
use Rattle.tcl_pages.specs.Strings.{onto_first, parts_between}
use Rattle.tcl_pages.specs.Texts.{Text}
use Rattle.tcl_glob.specs.Seek.{to_separator}
use Rattle.tcl_glob.proofs.SeekLemmas.{ends_there}

-- the parts behind a separator
abbrev pub parts_behind : (ℕ → Bool) → Text → List Text
parts_behind splits [] = []
parts_behind splits (c ∷ cs) = parts_between splits cs

nothing_before : (t : Text) → before t t ≡ []
nothing_before t = let e : length t - length t ≡ 0 = omega arith in ap (λ n. take n t) e

one_before : (c : ℕ) (cs rest : Text) → EndsWith cs rest → before (c ∷ cs) rest ≡ c ∷ before cs rest
one_before c cs rest h = let e : length (c ∷ cs) - length rest ≡ suc (length cs - length rest) = omega (arith, ends_le cs rest h) in ap (λ n. take n (c ∷ cs)) e

pub first_part_is : (splits : ℕ → Bool) (t : Text) → parts_between splits t ≡ before t (to_separator splits t) ∷ parts_behind splits (to_separator splits t)
first_part_is splits [] = refl
first_part_is splits (c ∷ cs) =
    elim (cases_Bool (splits c)) [
      | inl y ↦ cond-true _ _ _ y ∙ sym (ap (λ r. before (c ∷ cs) r ∷ parts_behind splits r) (cond-true _ _ _ y) ∙ ap (λ b. b ∷ parts_between splits cs) (nothing_before (c ∷ cs)))
      | inr n ↦ cond-false _ _ _ n ∙ ap (onto_first c) (first_part_is splits cs)
          ∙ sym (ap (λ r. before (c ∷ cs) r ∷ parts_behind splits r) (cond-false _ _ _ n)
          ∙ ap (λ b. b ∷ parts_behind splits (to_separator splits cs)) (one_before c cs (to_separator splits cs) (ends_there splits cs)))
    ]

-- the next part is gathered, and it was the last
pub next_part : (splits : ℕ → Bool) (rest end after part : Text) (old new whole : List Text) (c : ℕ) → end ≡ to_separator splits rest → end ≡ c ∷ after → part ≡ before rest end → new ≡ old ++ part ∷ []
    → old ++ parts_between splits rest ≡ whole → new ++ parts_between splits after ≡ whole
next_part splits rest end after part old new whole c e f p n k =
    ap (λ v. v ++ parts_between splits after) n ∙ append_assoc old (part ∷ []) (parts_between splits after)
    ∙ ap (λ v. old ++ v) (ap (λ b. b ∷ parts_between splits after) p ∙ ap (λ r. before rest end ∷ parts_behind splits r) (sym f) ∙ ap (λ r. before rest r ∷ parts_behind splits r) e ∙ sym (first_part_is splits rest)) ∙ k

pub last_part : (splits : ℕ → Bool) (rest end part : Text) (old new whole : List Text) → end ≡ to_separator splits rest → end ≡ [] → part ≡ before rest end → new ≡ old ++ part ∷ []
    → old ++ parts_between splits rest ≡ whole → new ≡ whole
last_part splits rest end part old new whole e f p n k =
    n ∙ ap (λ v. old ++ v) (ap (λ b. b ∷ []) p ∙ ap (λ r. before rest end ∷ parts_behind splits r) (sym f) ∙ ap (λ r. before rest r ∷ parts_behind splits r) e ∙ sym (first_part_is splits rest)) ∙ k

pub behind_shorter : (splits : ℕ → Bool) (rest end after : Text) (c : ℕ) → end ≡ to_separator splits rest → end ≡ c ∷ after → length after < length rest
behind_shorter splits rest end after c e f = omega (arith, ends_le rest (to_separator splits rest) (ends_there splits rest), ap length e, ap length f)
