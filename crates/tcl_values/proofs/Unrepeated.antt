-- A list of keys and values of which no key comes again is how its dictionary is written.
use Rattle.std.proofs.Common.{◌≡◌, suc, ◌+◌, ◌≤◌, Bool, true, false, List, [], ◌∷◌, ◌++◌, length, Option, Some, None, Ok, Err, refl, sym, ap, ◌∙◌, arith}
use Rattle.std.specs.Prelude.{◌/◌, is_some}
use Rattle.std.proofs.lemmas.Bool.{cond-true, cond-false}
use Rattle.std.proofs.lemmas.List.{append-nil, append_assoc, length-map}
use Rattle.tcl_chars.specs.Texts.{literal, same_text}
use Rattle.tcl_list.specs.Written.{written}
use Rattle.tcl_pages.specs.Answers.{Answer, ◌>>=◌}
use Rattle.tcl_pages.specs.Dictionaries.{Pairs, put_key, put_keys, in_pairs}
use Rattle.tcl_pages.specs.DictPages.{flat, dictionary}
use Rattle.tcl_pages.specs.Texts.{Text}
use Rattle.tcl_pages.proofs.InPairs.{with_pair, pair_ahead}
use Rattle.tcl_values.specs.Kept.{Kept, texts}
use Rattle.tcl_values.specs.Paired.{read_pairs}
use Rattle.tcl_values.specs.Shape.{elements, items_text, pairs_in, pairs_text, shared_text, shown, ArePaired}
use Rattle.tcl_values.specs.declared.element.Items.{Items}
use Rattle.tcl_values.specs.declared.element.Pairs as kept
use Rattle.tcl_values.proofs.PairKept.{bare_text}
use Rattle.tcl_values.proofs.PairPlaces.{count_in}

put_most : (ps : Pairs) (k v : Text) → length (put_key ps k v) ≤ suc (length ps)
put_most [] k v = omega arith
put_most (p ∷ ps) k v = by (same_text p.0 k) refl (put_most ps k v)
  where
    by : (b : Bool) → same_text p.0 k ≡ b → length (put_key ps k v) ≤ suc (length ps) → length (put_key (p ∷ ps) k v) ≤ suc (suc (length ps))
    by true e rest = omega (arith, ap length (cond-true _ ((k, v) ∷ ps) (p ∷ put_key ps k v) e))
    by false e rest = omega (arith, ap length (cond-false _ ((k, v) ∷ ps) (p ∷ put_key ps k v) e), rest)

-- a key that makes the pairs more comes behind them
put_new : (ps : Pairs) (k v : Text) → length (put_key ps k v) ≡ suc (length ps) → put_key ps k v ≡ ps ++ (k, v) ∷ []
put_new [] k v e = refl
put_new (p ∷ ps) k v e = by (same_text p.0 k) refl (put_new ps k v)
  where
    by : (b : Bool) → same_text p.0 k ≡ b → (length (put_key ps k v) ≡ suc (length ps) → put_key ps k v ≡ ps ++ (k, v) ∷ []) → put_key (p ∷ ps) k v ≡ p ∷ (ps ++ (k, v) ∷ [])
    by true s rest = absurd (omega (arith, e, ap length (cond-true _ ((k, v) ∷ ps) (p ∷ put_key ps k v) s)))
    by false s rest = cond-false _ ((k, v) ∷ ps) (p ∷ put_key ps k v) s ∙ ap (λ qs. p ∷ qs) (rest (omega (arith, e, ap length (cond-false _ ((k, v) ∷ ps) (p ∷ put_key ps k v) s))))

puts_most : (ps qs : Pairs) → length (put_keys qs ps) ≤ length qs + length ps
puts_most [] qs = omega arith
puts_most (p ∷ ps) qs = omega (arith, puts_most ps (put_key qs p.0 p.1), put_most qs p.0 p.1)

puts_new : (ps qs : Pairs) → length (put_keys qs ps) ≡ length qs + length ps → put_keys qs ps ≡ qs ++ ps
puts_new [] qs e = sym (append-nil qs)
puts_new (p ∷ ps) qs e =
    let grown : length (put_key qs p.0 p.1) ≡ suc (length qs) = omega (arith, e, puts_most ps (put_key qs p.0 p.1), put_most qs p.0 p.1) in
    puts_new ps (put_key qs p.0 p.1) (omega (arith, e, grown)) ∙ ap (λ rs. rs ++ ps) (put_new qs p.0 p.1 grown) ∙ append_assoc qs ((p.0, p.1) ∷ []) ps

-- the pairs that elements are two by two
record ArePairsOf (es : List Text) (ps : Pairs) : Type 0 where
  flat : flat ps ≡ es
  half : length ps + length ps ≡ length es

two_more : (k v : Text) (es : List Text) (r : Answer Pairs) (ps : Pairs) → ((qs : Pairs) → r ≡ Ok qs → ArePairsOf es qs) → with_pair k v r ≡ Ok ps → ArePairsOf (k ∷ v ∷ es) ps
two_more k v es (Err t) ps rest e = absurd cc
two_more k v es (Ok qs) ps rest e =
    let is : (k, v) ∷ qs ≡ ps = cc in
    let r = rest qs refl in
    record { flat = ap flat (sym is) ∙ ap (λ us. k ∷ v ∷ us) r.flat; half = omega (arith, ap length is, r.half) }

pairs_of_elements : (es : List Text) (ps : Pairs) → in_pairs es ≡ Ok ps → ArePairsOf es ps
pairs_of_elements [] ps e = let is : [] ≡ ps = cc in record { flat = ap flat (sym is); half = ap (λ (qs : Pairs). length qs + length qs) (sym is) }
pairs_of_elements (k ∷ []) ps e = absurd cc
pairs_of_elements (k ∷ v ∷ es) ps e = two_more k v es (in_pairs es) ps (pairs_of_elements es) (sym (pair_ahead (literal "missing value to go with key") k v es) ∙ e)

by_pairs : (es : List Text) (r : Answer Pairs) (qs : Pairs) → ((ps : Pairs) → r ≡ Ok ps → ArePairsOf es ps) → (r >>= λ ps. Ok (put_keys [] ps)) ≡ Ok qs → length es / 2 ≡ length qs → flat qs ≡ es
by_pairs es (Err t) qs known e half = absurd cc
by_pairs es (Ok ps) qs known e half =
    let is : put_keys [] ps ≡ qs = cc in
    let k = known ps refl in
    ap flat (sym is) ∙ ap flat (puts_new ps [] (omega (arith, ap length is, half, k.half))) ∙ k.flat

-- where there is a key for each two elements, the dictionary is written as they are
pub unrepeated : (es : List Text) (qs : Pairs) → read_pairs [] es ≡ Ok qs → length es / 2 ≡ length qs → dictionary qs ≡ written es
unrepeated es qs e half = ap written (by_pairs es (in_pairs es) qs (pairs_of_elements es) e half)

pub none_of : {X : Type 0} (o : Option X) → is_some o ≡ false → o ≡ None
none_of None h = refl
none_of (Some x) h = absurd cc

-- a dictionary without a text of its own that was read from a list without one, where each key stands once
pub written_alike : (p : kept.Pairs) (r : Items) → ArePaired p → p.text ≡ None → is_some r.text ≡ false → read_pairs [] (texts (elements r)) ≡ Ok (pairs_in p) → length (elements r) / 2 ≡ length p.keys.keys → pairs_text p ≡ items_text r
written_alike p r kept pt rt e half =
    let count : length (texts (elements r)) / 2 ≡ length (pairs_in p) = ap (λ n. n / 2) (length-map (elements r) (λ (k : Kept). k.text)) ∙ half ∙ kept.even ∙ sym (count_in p.keys.keys p.values.items kept.even) in
    bare_text p pt ∙ unrepeated (texts (elements r)) (pairs_in p) e count ∙ sym (ap (λ s. shown (shared_text s) (elements r)) (none_of r.text rt))
