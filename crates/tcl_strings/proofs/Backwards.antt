-- A needle that is sought from the end of a text backwards is found where the definition has it.
use Rattle.std.proofs.Common.{◌≡◌, ◌≤◌, ◌<◌, ◌+◌, ◌-◌, ℕ, true, [], ◌∷◌, ◌++◌, length, take, drop, Option, Some, None, ap, sym, ◌∙◌, subst, arith, inl, inr, length-append, take-append-drop, append-nil}
use Rattle.std.specs.Prelude.{reverse, ℤ, pos, ◌+ℤ◌, if◌then◌else◌}
use Rattle.std.proofs.Math.ListN.{drop_of_length-le}
use Rattle.std.proofs.Math.Seq.{drop-append_seam, take-append_seam}
use Rattle.std.proofs.lemmas.Bool.{cases_Bool, cases_eq, cond-true, cond-false, false≢true}
use Rattle.std.proofs.lemmas.List.{reverse-append, reverse-reverse, length-reverse, take_all}
use Rattle.memchr.proofs.lemmas.MatchLemmas.{OccursAt-split, OccursAt-from_part}
use Rattle.memchr.specs.Find.{OccursAt, FindsLastNeedle}
use Rattle.tcl_chars.specs.Index.{clamp}
use Rattle.tcl_chars.specs.Truth.{is_beginning}
use Rattle.tcl_pages.specs.Strings.{found_at, last_until}
use Rattle.tcl_pages.specs.Texts.{Text}
use Rattle.tcl_pages.proofs.FirstPlace.{begins}
use Rattle.tcl_strings.proofs.Finder.{begun, occurs_front, occurs_whole, last_of_part}

-- the last place in a text whose characters are these, the last one first
abbrev pub sought_back : Text → Text → Option ℕ
sought_back needle [] = None
sought_back needle (c ∷ cs) = if is_beginning (reverse needle) (c ∷ cs) then Some (length (c ∷ cs) - length needle) else sought_back needle cs

turned : (c : ℕ) (cs : Text) → reverse (c ∷ cs) ≡ reverse cs ++ c ∷ []
turned c cs = reverse-append (c ∷ []) cs

-- ---- at the end of a text

occurs_last : (front needle : Text) → OccursAt (front ++ needle) needle (length front)
occurs_last front needle =
    let size : length front + length needle ≤ length (front ++ needle) = omega (arith, length-append front needle) in
    OccursAt-from_part (front ++ needle) needle (length front) size (ap (take (length needle)) (drop-append_seam front needle) ∙ take_all (length needle) needle (omega arith))

-- a text that ends with the needle is something and then the needle
ended_by : (needle cs : Text) → is_beginning (reverse needle) cs ≡ true → reverse cs ≡ reverse (drop (length needle) cs) ++ needle
ended_by needle cs h =
    let p = begun (reverse needle) cs h in
    let size = length-reverse needle in
    let parts : cs ≡ reverse needle ++ drop (length needle) cs =
    sym (take-append-drop (length (reverse needle)) cs) ∙ ap (λ t. t ++ drop (length (reverse needle)) cs) p.1 ∙ ap (λ n. reverse needle ++ drop n cs) size in
    ap reverse parts ∙ reverse-append (reverse needle) (drop (length needle) cs) ∙ ap (λ t. reverse (drop (length needle) cs) ++ t) (reverse-reverse needle)

pub ended : (needle t : Text) → is_beginning (reverse needle) (reverse t) ≡ true → length needle ≤ length t
ended needle t h =
    let p = begun (reverse needle) (reverse t) h in
    omega (arith, p.0, length-reverse needle, length-reverse t)

ends_here : (needle cs : Text) → is_beginning (reverse needle) cs ≡ true → FindsLastNeedle (reverse cs) needle (Some (length cs - length needle))
ends_here needle cs h =
    let front : Text = reverse (drop (length needle) cs) in
    let joined = ended_by needle cs h in
    let size = length-reverse cs in
    let parts : length (reverse cs) ≡ length front + length needle = ap length joined ∙ length-append front needle in
    let place : length front ≡ length cs - length needle = omega arith in
    let there = subst (λ k. OccursAt (reverse cs) needle k) place (subst (λ t. OccursAt t needle (length front)) (sym joined) (occurs_last front needle)) in (
      record {
        low = omega arith;
        high = omega arith;
        after = λ k low high occurs. let fits = occurs.fits in absurd (omega arith);
      },
      there,
    )

-- what stands at the end of a text ends it
last_ends : (needle cs : Text) (k : ℕ) → k + length needle ≡ length cs → OccursAt (reverse cs) needle k → is_beginning (reverse needle) cs ≡ true
last_ends needle cs k whole occurs =
    let size = length-reverse cs in
    let nothing : drop (k + length needle) (reverse cs) ≡ [] = drop_of_length-le (reverse cs) (omega arith) in
    let rest : drop k (reverse cs) ≡ needle = OccursAt-split (reverse cs) needle k occurs ∙ ap (λ t. needle ++ t) nothing ∙ append-nil needle in
    let joined : reverse cs ≡ take k (reverse cs) ++ needle = sym (take-append-drop k (reverse cs)) ∙ ap (λ t. take k (reverse cs) ++ t) rest in
    let parts : cs ≡ reverse needle ++ reverse (take k (reverse cs)) = sym (reverse-reverse cs) ∙ ap reverse joined ∙ reverse-append (take k (reverse cs)) needle in
    subst (λ t. is_beginning (reverse needle) t ≡ true) (sym parts) (begins (reverse needle) _)

-- ---- one character more, with which no needle ends

found_before : (needle t : Text) (c : ℕ) (found : Option ℕ) → length (t ++ c ∷ []) ≡ length t + 1 → take (length t) (t ++ c ∷ []) ≡ t
    → ((k : ℕ) → OccursAt (t ++ c ∷ []) needle k → OccursAt t needle k) → FindsLastNeedle t needle found → FindsLastNeedle (t ++ c ∷ []) needle found
found_before needle t c None size seam before f = λ k low high o. let fits = (before k o).fits in f k low (omega arith) (before k o)
found_before needle t c (Some p) size seam before f =
    let high : p < length t + 1 = f.0.high in (
      record {
        low = f.0.low;
        high = omega arith;
        after = λ k low high o. let fits = (before k o).fits in f.0.after k low (omega arith) (before k o);
      },
      (occurs_whole (t ++ c ∷ []) needle (length t) p (omega arith) (subst (λ u. OccursAt u needle p) (sym seam) f.1)).1,
    )

one_later : (needle t : Text) (c : ℕ) (found : Option ℕ) → ((k : ℕ) → OccursAt (t ++ c ∷ []) needle k → k + length needle ≤ length t)
    → FindsLastNeedle t needle found → FindsLastNeedle (t ++ c ∷ []) needle found
one_later needle t c found none f =
    let size : length (t ++ c ∷ []) ≡ length t + 1 = length-append t (c ∷ []) in
    let seam = take-append_seam t (c ∷ []) in
    let before = λ (k : ℕ) (o : OccursAt (t ++ c ∷ []) needle k).
    subst (λ u. OccursAt u needle k) seam (occurs_front (t ++ c ∷ []) needle (length t) k (omega arith) (none k o) o) in
    found_before needle t c found size seam before f

found_back : (needle cs : Text) → 0 < length needle → FindsLastNeedle (reverse cs) needle (sought_back needle cs)
found_back needle [] s = λ k low high o. let fits = o.fits in absurd (omega arith)
found_back needle (c ∷ cs) s =
    elim (cases_Bool (is_beginning (reverse needle) (c ∷ cs))) [
      | inl y ↦ subst (FindsLastNeedle (reverse (c ∷ cs)) needle) (sym (cond-true _ _ _ y)) (ends_here needle (c ∷ cs) y)
      | inr o ↦
          let whole = length-reverse (c ∷ cs) in
          let size = length-reverse cs in
          let none = λ (k : ℕ) (at : OccursAt (reverse cs ++ c ∷ []) needle k).
          let there : OccursAt (reverse (c ∷ cs)) needle k = subst (λ t. OccursAt t needle k) (sym (turned c cs)) at in
          let fits = there.fits in
          elim (cases_eq (k + length needle) (length (c ∷ cs))) as (λ _. k + length needle ≤ length (reverse cs)) [
            | inl e ↦ absurd (false≢true (sym o ∙ last_ends needle (c ∷ cs) k e there))
            | inr n ↦ omega arith
          ] in
          subst (FindsLastNeedle (reverse (c ∷ cs)) needle) (sym (cond-false _ _ _ o))
          (subst (λ t. FindsLastNeedle t needle (sought_back needle cs)) (sym (turned c cs)) (one_later needle (reverse cs) c (sought_back needle cs) none (found_back needle cs s)))
    ]

-- ---- the walk

-- where it begins
pub from_end : (needle t rest : Text) (end : ℤ) (place : ℕ) → 0 < length needle → place ≡ clamp (end +ℤ pos 1) (length t) → rest ≡ take place t
    → sought_back needle (reverse rest) ≡ last_until (length needle) end None (found_at needle t)
from_end needle t rest end place s p r =
    let e = clamp (end +ℤ pos 1) (length t) in
    let whole : reverse (reverse rest) ≡ take e t = reverse-reverse rest ∙ r ∙ ap (λ n. take n t) p in
    sym (last_of_part needle t end (sought_back needle (reverse rest)) s
    (subst (λ u. FindsLastNeedle u needle (sought_back needle (reverse rest))) whole (found_back needle (reverse rest) s)))

-- where the text ends with the needle
pub found_here : (needle t front : Text) (c : ℕ) → t ≡ front ++ c ∷ [] → is_beginning (reverse needle) (reverse t) ≡ true
    → sought_back needle (reverse t) ≡ Some (length t - length needle)
found_here needle t front c e h =
    let back : reverse t ≡ c ∷ reverse front = ap reverse e ∙ reverse-append front (c ∷ []) in
    let size : length (c ∷ reverse front) ≡ length t = ap length (sym back) ∙ length-reverse t in
    ap (sought_back needle) back ∙ cond-true _ _ _ (subst (λ u. is_beginning (reverse needle) u ≡ true) back h) ∙ ap (λ n. Some (n - length needle)) size
