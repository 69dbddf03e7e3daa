-- Looking for the place of a name, one place after another.
use Rattle.std.proofs.Common.{ℕ, ◌+◌, ◌<◌, ◌≤◌, List, ◌≡◌, true, false, cond, refl, ap, ◌∙◌, Option, None, Some, map as each, length, get_or, drop, arith}
use Rattle.std.proofs.lemmas.List.{at_drop_more, at_drop_all}
use Rattle.std.specs.Option.{option_map}
use Rattle.tcl_chars.specs.Texts.{same_text}
use Rattle.tcl_names.specs.Placed.{number_of}

pub from_start : (o : Option ℕ) → option_map (λ j. 0 + j) o ≡ o
from_start None = refl
from_start (Some j) = ap Some (omega arith)

one_on : (i : ℕ) (o : Option ℕ) → option_map (λ j. i + j) (option_map (λ k. k + 1) o) ≡ option_map (λ j. i + 1 + j) o
one_on i None = refl
one_on i (Some j) = ap Some (omega arith)

-- among keys that have names
module _ {K : Type 0} (name : K → List ℕ) where
  -- the place of a name, the first i keys of which are behind
  abbrev pub past : ℕ → List K → List ℕ → Option ℕ
  past i ks q = option_map (λ j. i + j) (number_of (each name ks) q)

  module _ (ks : List K) (q : List ℕ) (i : ℕ) (d : K) (within : i < length ks) where
    opened : past i (drop i ks) q ≡ option_map (λ j. i + j) (cond (same_text q (name (get_or ks i d))) (Some 0) (option_map (λ k. k + 1) (number_of (each name (drop (i + 1) ks)) q)))
    opened = at_drop_more (λ rs. past i rs q) ks i d within

    pub found_at : same_text q (name (get_or ks i d)) ≡ true → past i (drop i ks) q ≡ Some i
    found_at e =
        let here : i + 0 ≡ i = omega arith in
        opened ∙ ap (λ b. option_map (λ j. i + j) (cond b (Some 0) (option_map (λ k. k + 1) (number_of (each name (drop (i + 1) ks)) q)))) e ∙ ap Some here

    pub not_at : same_text q (name (get_or ks i d)) ≡ false → past i (drop i ks) q ≡ past (i + 1) (drop (i + 1) ks) q
    not_at e = opened ∙ ap (λ b. option_map (λ j. i + j) (cond b (Some 0) (option_map (λ k. k + 1) (number_of (each name (drop (i + 1) ks)) q)))) e ∙ one_on i _

  pub nowhere : (ks : List K) (q : List ℕ) (i : ℕ) → length ks ≤ i → past i (drop i ks) q ≡ None
  nowhere ks q i over = at_drop_all (λ rs. past i rs q) ks i over
