-- Elements written one behind another.
use Rattle.std.proofs.Common.{◌≡◌, ℕ, suc, ◌+◌, ◌<◌, ◌==◌, Bool, true, false, List, [], ◌∷◌, ◌++◌, length, take, map, get_or, sym, ap, ◌∙◌, append_assoc, refl, arith}
use Rattle.std.proofs.lemmas.Bool.{ne_eqb}
use Rattle.std.proofs.lemmas.List.{append-nil, map_push, take_more, length-take, length-map}
use Rattle.std.specs.Prelude.{if◌then◌else◌}
use Rattle.tcl_chars.specs.Characters.{space}
use Rattle.tcl_list.specs.Laws.{AppendedIsLonger, has_none}
use Rattle.tcl_list.specs.Written.{element_form, spelled, written_element, appended, written_behind, written}
use Rattle.tcl_list.specs.declared.writing.Form.{Form}

behind_more : (es : List (List ℕ)) (e : List ℕ) → written_behind (es ++ e ∷ []) ≡ written_behind es ++ appended false e
behind_more [] e = append-nil (appended false e)
behind_more (x ∷ es) e = ap (λ t. appended false x ++ t) (behind_more es e) ∙ sym (append_assoc (appended false x) (written_behind es) (appended false e))

none_at_0 : (es : List (List ℕ)) → has_none es ≡ (length es == 0)
none_at_0 [] = refl
none_at_0 (e ∷ es) = sym (ne_eqb (suc (length es)) 0 (λ z. omega arith))

written_more : (es : List (List ℕ)) (e : List ℕ) → written (es ++ e ∷ []) ≡ written es ++ appended (has_none es) e
written_more [] e = append-nil (appended true e)
written_more (x ∷ es) e = ap (λ t. appended true x ++ t) (behind_more es e) ∙ sym (append_assoc (appended true x) (written_behind es) (appended false e))

pub appended_is_longer : AppendedIsLonger
appended_is_longer es e = sym (written_more es e)

-- the text of the first i elements, and one element more
pub written_step : {A : Type 0} (f : A → List ℕ) (xs : List A) (i : ℕ) (item : A) (old new : List ℕ) (first : Bool) → i < length xs → item ≡ get_or xs i item → old ≡ written (map f (take i xs))
    → first ≡ (i == 0) → new ≡ old ++ appended first (f item) → new ≡ written (map f (take (i + 1) xs))
written_step f xs i item old new first in_range is so_far at_first more =
    let size : length (map f (take i xs)) ≡ i = length-map (take i xs) f ∙ omega (arith, length-take i xs) in
    let none : first ≡ has_none (map f (take i xs)) = at_first ∙ ap (λ n. n == 0) (sym size) ∙ sym (none_at_0 (map f (take i xs))) in
    let taken : map f (take (i + 1) xs) ≡ map f (take i xs) ++ f item ∷ [] = ap (map f) (take_more xs i item in_range ∙ ap (λ x. take i xs ++ x ∷ []) (sym is)) ∙ map_push f (take i xs) item in
    more ∙ ap (λ t. t ++ appended first (f item)) so_far ∙ ap (λ (b : Bool). written (map f (take i xs)) ++ appended b (f item)) none ∙ sym (written_more (map f (take i xs)) (f item)) ∙ ap written (sym taken)

-- what is appended, by the form that was chosen
pub appended_first : (first : Bool) (form : Form) (e : List ℕ) → first ≡ true → form ≡ element_form true e → appended first e ≡ spelled form true e
unfolding appended written_element
appended_first first form e t f = ap (λ b. if b then spelled (element_form true e) true e else space ∷ spelled (element_form false e) false e) t ∙ ap (λ x. spelled x true e) (sym f)

pub appended_other : (first : Bool) (form : Form) (e : List ℕ) → first ≡ false → form ≡ element_form false e → appended first e ≡ (space ∷ []) ++ spelled form false e
unfolding appended written_element
appended_other first form e t f = ap (λ b. if b then spelled (element_form true e) true e else space ∷ spelled (element_form false e) false e) t ∙ ap (λ x. space ∷ spelled x false e) (sym f)
