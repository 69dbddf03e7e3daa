-- One element of a value that is read as a list.
use Rattle.std.proofs.Common.{◌≡◌, ℕ, zero, suc, ◌<◌, ◌≤◌, ◌+◌, List, [], ◌∷◌, ◌++◌, take, drop, length, get_or, refl, sym, ap, ◌∙◌, arith, le-leb, le-ltb, lt-ltb, Option, Some, None, Result, Ok, Err, ℤ, pos, negsuc, false}
use Rattle.std.proofs.Math.IntN.{nat_abs}
use Rattle.std.proofs.lemmas.Option.{slice_get_within}
use Rattle.std.specs.Int.Signed.{lt_z}
use Rattle.std.specs.Prelude.{cond, nat_lt, slice_get, slice_set, ◌+ℤ◌}
use Rattle.tcl_arguments.proofs.Positions.{position_of_number}
use Rattle.tcl_chars.specs.Index.{place_of}
use Rattle.tcl_chars.specs.Whole.{whole_of}
use Rattle.tcl_chars.specs.declared.numbers.Dialect.{Dialect}
use Rattle.tcl_chars.specs.declared.numbers.Whole.TheVariants.{Number}
use Rattle.tcl_chars.specs.Reading.{◌>>=◌}
use Rattle.tcl_list.specs.Elements.{elements_of}
use Rattle.tcl_list.specs.Written.{written}
use Rattle.tcl_values.proofs.Placed.{one_more}
use Rattle.tcl_pages.specs.Lists.{element_set, index, out_of_range, place_within, with_element}
use Rattle.tcl_pages.specs.Texts.{Text}
use Rattle.tcl_vars.proofs.WayLemmas.{put_in, get_in, put_only}
use Rattle.tcl_vars.specs.Way.{element_in, put}
use Rattle.tcl_values.specs.Lists.{count_of, item_of, with_item}

set_from : (es : List Text) (k : ℕ) (v : Text) → k < length es → slice_set es k v ≡ take k es ++ v ∷ drop (suc k) es
set_from [] k v h = absurd (omega arith)
set_from (e ∷ es) zero v h = refl
set_from (e ∷ es) (suc k) v h = ap (λ us. e ∷ us) (set_from es k v (omega arith))

set_is : (es : List Text) (k : ℕ) (v : Text) → k < length es → slice_set es k v ≡ with_element es k v
set_is es k v h = set_from es k v h ∙ ap (λ (j : ℕ). take k es ++ v ∷ drop j es) (one_more k)

put_rows : (r : Result (List Text) Text) (t v new : Text) (k n : ℕ) → (r >>= λ es. Ok (length es)) ≡ Ok n → k < n → (r >>= λ es. Ok (cond (nat_lt k (length es)) (written (slice_set es k v)) t)) ≡ Ok new → put_in r k v ≡ Ok new
put_rows (Err m) t v new k n c h w = cc
put_rows (Ok es) t v new k n c h w =
    let l : length es ≡ n = cc in
    let there : k < length es = omega (arith, l, h) in
    ap Ok (ap written (sym (set_is es k v there))) ∙ sym (ap (λ b. Ok (cond b (written (slice_set es k v)) t)) (lt-ltb k (length es) there)) ∙ w

pub put_there : (t u v new : Text) (k n : ℕ) → u ≡ t → count_of t ≡ Ok n → k < n → with_item u k v ≡ Ok new → put t k v ≡ Ok new
put_there t u v new k n s c h w = put_rows (elements_of t) t v new k n c h (ap (λ x. with_item x k v) (sym s) ∙ w)

none_there : (es : List Text) (k : ℕ) → slice_get es k ≡ None → get_or es k [] ≡ []
none_there [] k h = refl
none_there (e ∷ es) zero h = cc
none_there (e ∷ es) (suc k) h = none_there es k h

get_rows : (r : Result (List Text) Text) (k : ℕ) (o : Option Text) → (r >>= λ es. Ok (slice_get es k)) ≡ Ok o → o ≡ None → get_in r k ≡ Ok []
get_rows (Err m) k o h e = cc
get_rows (Ok es) k o h e = let g : slice_get es k ≡ o = cc in ap Ok (none_there es k (g ∙ e))

pub empty_there : (t v : Text) (k : ℕ) (o : Option Text) → item_of t k ≡ Ok o → o ≡ None → v ≡ [] → element_in t k ≡ Ok v
empty_there t v k o h e ev = get_rows (elements_of t) k o h e ∙ ap Ok (sym ev)

-- ---- a place that a number says

none_beyond : (es : List Text) (k : ℕ) → slice_get es k ≡ None → length es ≤ k
none_beyond [] k h = omega arith
none_beyond (e ∷ es) zero h = cc
none_beyond (e ∷ es) (suc k) h = let beyond = none_beyond es k h in omega (arith, beyond)

known_rows : (r : Result (List Text) Text) (t v new x : Text) (k : ℕ) → (r >>= λ es. Ok (slice_get es k)) ≡ Ok (Some x) → (r >>= λ es. Ok (cond (nat_lt k (length es)) (written (slice_set es k v)) t)) ≡ Ok new → put_in r k v ≡ Ok new
known_rows (Err m) t v new x k h w = cc
known_rows (Ok es) t v new x k h w =
    let g : slice_get es k ≡ Some x = cc in
    put_rows (Ok es) t v new k (length es) refl (slice_get_within es k x g) w

none_rows : (r : Result (List Text) Text) (t v new : Text) (k : ℕ) → (r >>= λ es. Ok (slice_get es k)) ≡ Ok None → (r >>= λ es. Ok (cond (nat_lt k (length es)) (written (slice_set es k v)) t)) ≡ Ok new → new ≡ t
none_rows (Err m) t v new k h w = cc
none_rows (Ok es) t v new k h w =
    let g : slice_get es k ≡ None = cc in
    let same : Ok t ≡ Ok new = sym (ap (λ b. Ok (cond b (written (slice_set es k v)) t)) (le-ltb k (length es) (none_beyond es k g))) ∙ w in
    cc

pub none_changes : (t v new : Text) (k : ℕ) → item_of t k ≡ Ok None → with_item t k v ≡ Ok new → new ≡ t
none_changes t v new k h w = none_rows (elements_of t) t v new k h w

zero_more : (k : ℕ) → k + 0 ≡ k
zero_more k = omega arith

within : (k n : ℕ) → k < n → place_within (pos k +ℤ pos 0) n ≡ Ok k
within k n h = ap (λ j. place_within (pos j) n) (zero_more k) ∙ ap (λ b. cond b (Ok k) (Err out_of_range)) (le-leb k n (omega (arith, h)))

number_rows : (d : Dialect) (w : Text) (r : Result (List Text) Text) (k : ℕ) (x : Text) → whole_of d w ≡ Number (pos k) → (r >>= λ es. Ok (slice_get es k)) ≡ Ok (Some x)
    → (r >>= λ es. index d w (length es) >>= λ p. place_within p (length es)) ≡ Ok k
number_rows d w (Err m) k x n h = cc
number_rows d w (Ok es) k x n h =
    let g : slice_get es k ≡ Some x = cc in
    ap (λ r. (r >>= λ p. Ok (place_of p (length es))) >>= λ p. place_within p (length es)) (position_of_number d w (pos k) n) ∙ within k (length es) (slice_get_within es k x g)

pub not_negative : (z : ℤ) → lt_z z (pos 0) ≡ false → z ≡ pos (nat_abs z)
not_negative (pos n) h = refl
not_negative (negsuc n) h = cc

-- what is known as a number is the place, where the list has an element there
pub number_set : (d : Dialect) (t w v new x : Text) (z : ℤ) (k : ℕ) → whole_of d w ≡ Number z → z ≡ pos k → item_of t k ≡ Ok (Some x) → with_item t k v ≡ Ok new → element_set d t (w ∷ []) v ≡ Ok new
number_set d t w v new x z k n is h s =
    sym (put_only d t k 1 (w ∷ []) v refl (omega arith) (number_rows d w (elements_of t) k x (n ∙ ap Number is) h)) ∙ known_rows (elements_of t) t v new x k h s
