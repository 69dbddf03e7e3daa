-- The first place of a character, in bytes and in characters.
use Rattle.std.proofs.Common.{◌≡◌, ◌==◌, ℕ, Bool, List, [], ◌∷◌, ◌++◌, take, drop, refl, sym, ap, ◌∙◌}
use Rattle.std.proofs.lemmas.Bool.{cond-true, cond-false, eq-eqb}
use Rattle.std.proofs.lemmas.List.{take-append-drop}
use Rattle.std.proofs.lemmas.Str.{chars-append, chars-nil, chars_from_encodes, chars_past_char, IsUtf8-take, IsUtf8-drop}
use Rattle.std.specs.Str.{chars, IsUtf8, IsCharBoundary, NoCharPasses, NonePass}
use Rattle.std.specs.Str.Pattern.{HasCharAt}
use Rattle.tcl_glob.specs.Seek.{to_separator}

past_front : (p : ℕ → Bool) (cs rest : List ℕ) → NonePass p cs → to_separator p (cs ++ rest) ≡ to_separator p rest
past_front p [] rest n = refl
past_front p (c ∷ cs) rest n = cond-false _ _ _ n.0 ∙ past_front p cs rest n.1

none_there : (p : ℕ → Bool) (cs : List ℕ) → NonePass p cs → to_separator p cs ≡ []
none_there p [] n = refl
none_there p (c ∷ cs) n = cond-false _ _ _ n.0 ∙ none_there p cs n.1

pub not_found : (c : ℕ) (s : List ℕ) → IsUtf8 s → NoCharPasses (λ d. d == c) s → chars [] ≡ to_separator (λ d. d == c) (chars s)
not_found c s u n =
    let same : n.0 ≡ chars s = chars_from_encodes n.0 s u n.1 in
    chars-nil ∙ sym (ap (to_separator (λ d. d == c)) (sym same) ∙ none_there (λ d. d == c) n.0 n.2)

pub found_first : (c : ℕ) (s : List ℕ) (i j : ℕ) → IsUtf8 s → IsCharBoundary s i → NoCharPasses (λ d. d == c) (take i s) → HasCharAt c s i j
    → chars (drop i s) ≡ to_separator (λ d. d == c) (chars s)
found_first c s i j u b n h =
    sym (ap (λ t. to_separator (λ d. d == c) (chars t)) (sym (take-append-drop i s))
    ∙ ap (to_separator (λ d. d == c)) (chars-append (take i s) (drop i s) (IsUtf8-take s i u b) ∙ ap (λ cs. cs ++ chars (drop i s)) (sym same))
    ∙ past_front (λ d. d == c) n.0 (chars (drop i s)) n.2
    ∙ ap (to_separator (λ d. d == c)) there ∙ cond-true _ _ _ (eq-eqb c c refl) ∙ sym there)
  where
    same : n.0 ≡ chars (take i s)
    same = chars_from_encodes n.0 (take i s) (IsUtf8-take s i u b) n.1

    there : chars (drop i s) ≡ c ∷ chars (drop j s)
    there = chars_past_char (drop i s) (drop j s) c (IsUtf8-drop s i u b) h.split
