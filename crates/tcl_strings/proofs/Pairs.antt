-- A text is mapped from the left.
use Rattle.std.proofs.Common.{◌≡◌, ◌≤◌, ◌-◌, ℕ, zero, suc, List, [], ◌∷◌, ◌++◌, append_assoc, length, take, drop, Option, Some, None, unwrap_or, refl, sym, ap, ◌∙◌, length-append, arith}
use Rattle.std.proofs.Math.Seq.{take-append_seam}
use Rattle.tcl_chars.specs.Place.{before}
use Rattle.tcl_pages.specs.Strings.{pair_for, said_for, key_rest, mapped}
use Rattle.tcl_pages.specs.Texts.{Text}
use Rattle.tcl_strings.specs.Grouped.{Pair, Grouped, pair_among}
use Rattle.tcl_strings.specs.Taken.{taken_by, HasKey}
use Rattle.tcl_strings.proofs.Grouped.{pair_taken}

passed : (ps : List (Text × Text)) (n : ℕ) (t : Text) → mapped ps n t ≡ mapped ps 0 (drop n t)
passed ps zero t = refl
passed ps (suc n) [] = refl
passed ps (suc n) (c ∷ cs) = passed ps n cs

-- a character for which there is no pair, and a key with its value
stays : (ps : List Pair) (t behind : Text) (c : ℕ) → t ≡ c ∷ behind → None ≡ taken_by (pair_for ps t) t → mapped ps 0 t ≡ c ∷ mapped ps 0 behind
stays ps t behind c e n =
    ap (mapped ps 0) e ∙ without _ (sym (ap (λ s. taken_by (pair_for ps s) s) e) ∙ sym n)
  where
    without : (o : Option Pair) → taken_by o (c ∷ behind) ≡ None → (said_for o c ++ mapped ps (key_rest o) behind) ≡ c ∷ mapped ps 0 behind
    without None h = refl
    without (Some p) h = absurd cc

turns_into : (ps : List Pair) (t behind left value : Text) (c : ℕ) → t ≡ c ∷ behind → length left ≤ length behind → Some (value, left) ≡ taken_by (pair_for ps t) t → mapped ps 0 t ≡ value ++ mapped ps 0 left
turns_into ps t behind left value c e h n =
    ap (mapped ps 0) e ∙ with_value _ (sym (ap (λ s. taken_by (pair_for ps s) s) e) ∙ sym n)
  where
    with_value : (o : Option Pair) → taken_by o (c ∷ behind) ≡ Some (value, left) → (said_for o c ++ mapped ps (key_rest o) behind) ≡ value ++ mapped ps 0 left
    with_value None f = absurd cc
    with_value (Some p) f =
        from_parts p.0 p.1 (ap (λ (o : Option Pair). (unwrap_or o (value, left)).0) f) (ap (λ (o : Option Pair). (unwrap_or o (value, left)).1) f)
      where
        from_parts : (key said : Text) → said ≡ value → drop (length key) (c ∷ behind) ≡ left → (said ++ mapped ps (length key - 1) behind) ≡ value ++ mapped ps 0 left
        from_parts [] said s d = absurd (omega (arith, h, ap length d))
        from_parts (k ∷ ks) said s d =
            let one_less : length (k ∷ ks) - 1 ≡ length ks = omega arith in
            ap (λ n. said ++ mapped ps n behind) one_less ∙ ap (λ v. v ++ mapped ps (length ks) behind) s ∙ ap (λ m. value ++ m) (passed ps (length ks) behind ∙ ap (mapped ps 0) d)

-- ---- the characters in front of the first key

-- no key begins in the text in front of the rest
pub record Passed (groups : List (List Pair)) (t rest : Text) : Type 0 where
  pub front : Text
  pub joined : t ≡ front ++ rest
  pub same : (ps : List Pair) → Grouped ps groups → mapped ps 0 t ≡ front ++ mapped ps 0 rest

pub one_passed : (groups : List (List Pair)) (t rest after : Text) (c : ℕ) → rest ≡ c ∷ after → None ≡ taken_by (pair_among groups (c ∷ after)) (c ∷ after) → Passed groups t rest → Passed groups t after
one_passed groups t rest after c e n p = record {
  front = p.front ++ c ∷ [];
  joined = p.joined ∙ ap (λ r. p.front ++ r) e ∙ sym (append_assoc p.front (c ∷ []) after);
  same = λ ps g.
      p.same ps g ∙ ap (λ s. p.front ++ s) (ap (mapped ps 0) e ∙ stays ps (c ∷ after) after c refl (pair_taken ps groups groups (c ∷ after) None g refl n)) ∙ sym (append_assoc p.front (c ∷ []) (mapped ps 0 after));
}

before_is_front : (t front rest : Text) → t ≡ front ++ rest → before t rest ≡ front
before_is_front t front rest e =
    let n : length t - length rest ≡ length front = omega (arith, ap length e, length-append front rest) in
    ap (λ k. take k t) n ∙ ap (take (length front)) e ∙ take-append_seam front rest

pub key_found : (groups : List (List Pair)) (t rest after value behind front : Text) (c : ℕ) → rest ≡ c ∷ after → length behind ≤ length after → Some (value, behind) ≡ taken_by (pair_among groups (c ∷ after)) (c ∷ after)
    → front ≡ before t rest → Passed groups t rest → HasKey groups t front value behind
key_found groups t rest after value behind front c e h n f p = record {
  turns = λ ps g.
      p.same ps g ∙ ap (λ x. x ++ mapped ps 0 rest) (sym (before_is_front t p.front rest p.joined) ∙ sym f)
      ∙ ap (λ s. front ++ s) (ap (mapped ps 0) e ∙ turns_into ps (c ∷ after) after behind value c refl h (pair_taken ps groups groups (c ∷ after) (Some (value, behind)) g refl n));
}

-- ---- texts written in place of keys

-- a text as far as it is written, and the rest that is still to be mapped
pub record MappedUpTo (groups : List (List Pair)) (old t new rest : Text) : Type 0 where
  pub same : (ps : List Pair) → Grouped ps groups → new ++ mapped ps 0 rest ≡ old ++ mapped ps 0 t
