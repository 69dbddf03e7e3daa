-- Lists are read element by element: one more in front, and space in front.
use Rattle.std.proofs.Common.{◌≡◌, ℕ, true, List, [], ◌∷◌, Option, Some, None, Result, Ok, Err, sym, ap, ◌∙◌, refl}
use Rattle.std.proofs.lemmas.Bool.{cond-true}
use Rattle.tcl_chars.specs.Classes.{is_list_space}
use Rattle.tcl_chars.specs.Reading.{◌>>=◌, Reading, with_front, all_turns}
use Rattle.tcl_chars.proofs.Turns.{Shrinks, last_turn, bad_turn, one_turn}
use Rattle.tcl_list.specs.Elements.{first_element, next_element, elements_of}
use Rattle.tcl_list.proofs.Forward.{next_shrinks}

-- two texts with the same first turn
same_from : {A E : Type 0} (step : Reading E (Option A)) (cs ds : List ℕ) (r : Result (Option A × List ℕ) E) → Shrinks step → step cs ≡ r → step ds ≡ r → all_turns step cs ≡ all_turns step ds
same_from step cs ds (Err m) h e f = bad_turn step cs m e ∙ sym (bad_turn step ds m f)
same_from step cs ds (Ok (None, rest)) h e f = last_turn step cs rest e ∙ sym (last_turn step ds rest f)
same_from step cs ds (Ok (Some x, rest)) h e f = one_turn step cs x rest h e ∙ sym (one_turn step ds x rest h f)

pub same_list : (cs ds : List ℕ) → next_element cs ≡ next_element ds → elements_of cs ≡ elements_of ds
unfolding elements_of
same_list cs ds e = ap (λ t. t >>= λ x. Ok x.0) (same_from next_element cs ds (next_element ds) next_shrinks e refl)

pub past_space : (c : ℕ) (cs : List ℕ) → is_list_space c ≡ true → elements_of (c ∷ cs) ≡ elements_of cs
unfolding next_element
past_space c cs s = same_list (c ∷ cs) cs (ap first_element (cond-true _ _ _ s))

pub no_elements : elements_of [] ≡ Ok []
unfolding elements_of next_element
no_elements = ap (λ t. t >>= λ x. Ok x.0) (last_turn next_element [] [] refl)

unfoldable pub prepend : List ℕ → Result (List (List ℕ)) (List ℕ) → Result (List (List ℕ)) (List ℕ)
prepend e (Ok es) = Ok (e ∷ es)
prepend e (Err m) = Err m

front_of : (e : List ℕ) (r : Result (List (List ℕ) × List ℕ) (List ℕ)) → (with_front (e ∷ []) r >>= λ x. Ok x.0) ≡ prepend e (r >>= λ x. Ok x.0)
unfolding prepend
front_of e (Ok x) = refl
front_of e (Err m) = refl

-- an element, and then the elements of the rest
pub one_more : (cs e rest : List ℕ) → next_element cs ≡ Ok (Some e, rest) → elements_of cs ≡ prepend e (elements_of rest)
unfolding elements_of
one_more cs e rest h = ap (λ t. t >>= λ x. Ok x.0) (one_turn next_element cs e rest next_shrinks h) ∙ front_of e (all_turns next_element rest)

pub one_fault : (cs m : List ℕ) → next_element cs ≡ Err m → elements_of cs ≡ Err m
unfolding elements_of
one_fault cs m h = ap (λ t. t >>= λ x. Ok x.0) (bad_turn next_element cs m h)

pub one_more_read : (cs e rest : List ℕ) (es : List (List ℕ)) → next_element cs ≡ Ok (Some e, rest) → elements_of rest ≡ Ok es → elements_of cs ≡ Ok (e ∷ es)
unfolding prepend
one_more_read cs e rest es h r = one_more cs e rest h ∙ ap (prepend e) r

pub one_more_bad : (cs e rest m : List ℕ) → next_element cs ≡ Ok (Some e, rest) → elements_of rest ≡ Err m → elements_of cs ≡ Err m
unfolding prepend
one_more_bad cs e rest m h r = one_more cs e rest h ∙ ap (prepend e) r
