-- Where a brace closes.
use Rattle.std.proofs.Common.{◌≡◌, ℕ, Bool, List, [], ◌∷◌, Option, Some, None, ap}
use Rattle.std.specs.Option.{option_map_or}
use Rattle.tcl_chars.specs.Place.{EndsWith}
use Rattle.tcl_list.specs.Braces.{mark_of, hides, counted, to_close}

some_same : {A : Type 0} (x y : A) → Some x ≡ Some y → x ≡ y
some_same x y e = cc

ends_behind : (c : ℕ) (cs rest : List ℕ) (hidden : Bool) (n : Option ℕ) → ((m : ℕ) → to_close hidden m cs ≡ Some rest → EndsWith cs rest)
    → option_map_or (λ m. to_close hidden m cs) n (Some (c ∷ cs)) ≡ Some rest → EndsWith (c ∷ cs) rest
ends_behind c cs rest hidden None later e = record { front = []; joined = some_same (c ∷ cs) rest e }
ends_behind c cs rest hidden (Some m) later e = let r = later m e in record { front = c ∷ r.front; joined = ap (λ t. c ∷ t) r.joined }

pub close_ends : (hidden : Bool) (depth : ℕ) (cs rest : List ℕ) → to_close hidden depth cs ≡ Some rest → EndsWith cs rest
close_ends hidden depth [] rest e = absurd cc
close_ends hidden depth (c ∷ cs) rest e =
    ends_behind c cs rest (hides (mark_of hidden c)) (counted (mark_of hidden c) depth) (λ m. close_ends (hides (mark_of hidden c)) m cs rest) e
