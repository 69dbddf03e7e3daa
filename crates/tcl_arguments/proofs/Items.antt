-- Items by their places, as texts.
use Rattle.std.proofs.Common.{◌≡◌, ℕ, zero, suc, ◌<◌, List, [], ◌∷◌, length, get_or, map, ap, ◌∙◌, arith}
use Rattle.std.proofs.lemmas.List.{length-map}
use Rattle.tcl_pages.specs.Dictionaries.{Pairs, keys_of, values_of}
use Rattle.tcl_pages.specs.Texts.{Text}

item_at : {A : Type 0} (f : A → Text) (xs : List A) (i : ℕ) (x : A) → i < length xs → x ≡ get_or xs i x → f x ≡ get_or (map f xs) i (f x)
item_at f [] i x l e = absurd (omega arith)
item_at f (y ∷ xs) zero x l e = ap f e
item_at f (y ∷ xs) (suc i) x l e = item_at f xs i x (omega (arith, l)) e

-- the text of an item, among the texts of all
pub text_at : {A : Type 0} (f : A → Text) (xs : List A) (ts : List Text) (i : ℕ) (x : A) → i < length ts → map f xs ≡ ts → x ≡ get_or xs i x → f x ≡ get_or ts i (f x)
text_at f xs ts i x l all is =
    let within : i < length xs = omega (arith, l, ap length all, length-map xs f) in
    item_at f xs i x within is ∙ ap (λ (us : List Text). get_or us i (f x)) all

pub keys_length : (ps : Pairs) → length (keys_of ps) ≡ length ps
keys_length ps = length-map ps (λ (p : Text × Text). p.0)

pub values_length : (ps : Pairs) → length (values_of ps) ≡ length ps
values_length ps = length-map ps (λ (p : Text × Text). p.1)
