-- The shapes at places, which are kept by their numbers.
use Rattle.std.proofs.Common.{◌≡◌, ℕ, zero, suc, ◌≤◌, ◌<◌, List, [], ◌∷◌, ◌++◌, length, Option, Some, None, refl, sym, ap, ◌∙◌, subst, arith, set, get_or, replicate, inl, inr, length-append}
use Rattle.std.specs.Prelude.{slice_get, option_map}
use Rattle.std.proofs.lemmas.Option.{slice_get-map, slice_get_within, slice_get_read}
use Rattle.std.proofs.lemmas.List.{length-map, map-set}
use Rattle.tcl_code.specs.declared.shape.Shape.{Shape}
use Rattle.tcl_code.specs.Valid.{IsWithin}
use Rattle.tcl_code.specs.Search.{Shapes, flat, shape_at, numbered, all_numbered, AllWithin, HasMore}
use Rattle.tcl_code.proofs.Found.{earlier_or_here, within_on}

pub at_number : (shapes : List Shape) (ns : List ℕ) (p : ℕ) → shape_at (all_numbered shapes ns) p ≡ flat (option_map (numbered shapes) (slice_get ns p))
at_number shapes ns p = ap flat (slice_get-map (numbered shapes) ns p)

-- ---- none yet

none_in : (shapes : List Shape) (count p : ℕ) → shape_at (all_numbered shapes (replicate count 0)) p ≡ None
none_in shapes zero zero = refl
none_in shapes zero (suc p) = refl
none_in shapes (suc count) zero = refl
none_in shapes (suc count) (suc p) = none_in shapes count p

pub none_yet : (shapes : List Shape) (ns : List ℕ) (count : ℕ) (view : Shapes) → ns ≡ replicate count 0 → all_numbered shapes ns ≡ view → (p : ℕ) → shape_at view p ≡ None
none_yet shapes ns count view e v p = ap (λ x. shape_at x p) (sym v ∙ ap (all_numbered shapes) e) ∙ none_in shapes count p

zeros_within : (count k : ℕ) → AllWithin k (replicate count 0)
zeros_within zero k = tt
zeros_within (suc count) k = (omega arith, zeros_within count k)

pub all_within_none : (ns : List ℕ) (count k : ℕ) → ns ≡ replicate count 0 → AllWithin k ns
all_within_none ns count k e = let P : List ℕ → Type 0 = λ x. AllWithin k x in subst P (sym e) (zeros_within count k)

-- ---- more shapes at the end

within_more : (k m : ℕ) (ns : List ℕ) → k ≤ m → AllWithin k ns → AllWithin m ns
within_more k m [] l h = tt
within_more k m (n ∷ ns) l h = (omega (arith, l, h.0), within_more k m ns l h.1)

get_more : (xs ys : List Shape) (i : ℕ) → i < length xs → slice_get (xs ++ ys) i ≡ slice_get xs i
get_more [] ys i l = absurd (omega arith)
get_more (x ∷ xs) ys zero l = refl
get_more (x ∷ xs) ys (suc i) l = get_more xs ys i (omega arith)

numbered_more : (old more : List Shape) (n : ℕ) → n ≤ length old → numbered (old ++ more) n ≡ numbered old n
numbered_more old more zero l = refl
numbered_more old more (suc n) l = get_more old more n (omega arith)

all_more : (old more : List Shape) (ns : List ℕ) → AllWithin (length old) ns → all_numbered (old ++ more) ns ≡ all_numbered old ns
all_more old more [] h = refl
all_more old more (n ∷ ns) h = ap (λ x. x ∷ all_numbered (old ++ more) ns) (numbered_more old more n h.0) ∙ ap (λ x. numbered old n ∷ x) (all_more old more ns h.1)

longer : (old new : List Shape) → HasMore old new → length old ≤ length new
longer old new h = let a = ap length h.1 ∙ length-append old h.0 in omega (arith, a)

pub still_within : (old new : List Shape) (ns ms : List ℕ) → HasMore old new → ms ≡ ns → AllWithin (length old) ns → AllWithin (length new) ms
still_within old new ns ms m e h = let P : List ℕ → Type 0 = λ x. AllWithin (length new) x in subst P (sym e) (within_more (length old) (length new) ns (longer old new m) h)

-- ---- a number that is put at a place

within_set : (k : ℕ) (ns : List ℕ) (p n : ℕ) → n ≤ k → AllWithin k ns → AllWithin k (set ns p n)
within_set k [] p n l h = tt
within_set k (m ∷ ns) zero n l h = (l, h.1)
within_set k (m ∷ ns) (suc p) n l h = (h.0, within_set k ns p n l h.1)

numbered_within : (shapes : List Shape) (n : ℕ) (s : Shape) → numbered shapes n ≡ Some s → n ≤ length shapes
numbered_within shapes zero s e = absurd (cc)
numbered_within shapes (suc n) s e = let a = slice_get_within shapes n s e in omega (arith, a)

module _ (old new : List Shape) (ns ms : List ℕ) (p n : ℕ) (s : Shape) (more : HasMore old new) (is : numbered new n ≡ Some s) (e : ms ≡ set ns p n) (h : AllWithin (length old) ns) where
  pub put_within : AllWithin (length new) ms
  put_within =
      let P : List ℕ → Type 0 = λ x. AllWithin (length new) x in
      subst P (sym e) (within_set (length new) ns p n (numbered_within new n s is) (within_more (length old) (length new) ns (longer old new more) h))

  pub put_there : (view : Shapes) → all_numbered old ns ≡ view → all_numbered new ms ≡ set view p (Some s)
  put_there view v =
      ap (all_numbered new) e ∙ map-set (numbered new) ns p n ∙ ap (set (all_numbered new ns) p) is
      ∙ ap (λ x. set x p (Some s)) (ap (λ x. all_numbered x ns) more.1 ∙ all_more old more.0 ns h ∙ v)

pub place_within : (shapes : List Shape) (ns : List ℕ) (p : ℕ) (view : Shapes) → all_numbered shapes ns ≡ view → p < length view → p < length ns
place_within shapes ns p view v l = let a = ap length (sym v) ∙ length-map ns (numbered shapes) in omega (arith, a, l)

-- ---- a shape that covers those that were found

pub covered_more : (shapes : List Shape) (n : ℕ) (t old new : Shape) → n < length shapes → t ≡ get_or shapes n t → ((p : ℕ) (s : Shape) → p < n → slice_get shapes p ≡ Some s → IsWithin s old) → IsWithin old new → IsWithin t new → (p : ℕ) (s : Shape) → p < suc n → slice_get shapes p ≡ Some s → IsWithin s new
covered_more shapes n t old new l g h w here p s k at = elim (earlier_or_here p n k) [
  | inl e ↦ within_on s old new (h p s e at) w
  | inr e ↦
      let f : Some t ≡ Some s = sym (slice_get_read shapes (length shapes) n t refl l g) ∙ ap (slice_get shapes) (sym e) ∙ at in
      let same : t ≡ s = cc in
      let P : Shape → Type 0 = λ x. IsWithin x new in
      subst P same here
]

pub covered_number : (shapes : List Shape) (top : Shape) → ((p : ℕ) (s : Shape) → p < length shapes → slice_get shapes p ≡ Some s → IsWithin s top) → (n : ℕ) (s : Shape) → numbered shapes n ≡ Some s → IsWithin s top
covered_number shapes top h zero s e = absurd (cc)
covered_number shapes top h (suc n) s e = h n s (slice_get_within shapes n s e) e

covered_flat : (shapes : List Shape) (top : Shape) → ((n : ℕ) (s : Shape) → numbered shapes n ≡ Some s → IsWithin s top) → (o : Option ℕ) (s : Shape) → flat (option_map (numbered shapes) o) ≡ Some s → IsWithin s top
covered_flat shapes top h None s e = absurd (cc)
covered_flat shapes top h (Some n) s e = h n s e

covered_all : (shapes : List Shape) (ns : List ℕ) (top : Shape) (view : Shapes) → ((n : ℕ) (s : Shape) → numbered shapes n ≡ Some s → IsWithin s top) → all_numbered shapes ns ≡ view → (p : ℕ) (s : Shape) → shape_at view p ≡ Some s → IsWithin s top
covered_all shapes ns top view h v p s e = covered_flat shapes top h (slice_get ns p) s (sym (at_number shapes ns p) ∙ ap (λ x. shape_at x p) v ∙ e)

pub covered_by : (slice shapes : List Shape) (ns : List ℕ) (top : Shape) (view : Shapes) → slice ≡ shapes → ((n : ℕ) (s : Shape) → numbered slice n ≡ Some s → IsWithin s top) → all_numbered shapes ns ≡ view → (p : ℕ) (s : Shape) → shape_at view p ≡ Some s → IsWithin s top
covered_by slice shapes ns top view f h =
    let P : List Shape → Type 0 = λ x. (n : ℕ) (s : Shape) → numbered x n ≡ Some s → IsWithin s top in
    covered_all shapes ns top view (subst P f h)

-- ---- the number of a shape

get_end : (xs : List Shape) (s : Shape) → slice_get (xs ++ s ∷ []) (length xs) ≡ Some s
get_end [] s = refl
get_end (x ∷ xs) s = get_end xs s

pub numbered_end : (old new : List Shape) (s : Shape) (n : ℕ) → new ≡ old ++ s ∷ [] → n ≡ length new → numbered new n ≡ Some s
numbered_end old new s n e f =
    let a = ap length e ∙ length-append old (s ∷ []) in
    let k : n ≡ suc (length old) = omega (arith, a, f) in
    ap (λ x. numbered x n) e ∙ ap (numbered (old ++ s ∷ [])) k ∙ get_end old s

none_behind : (xs : List Shape) → xs ++ [] ≡ xs
none_behind [] = refl
none_behind (x ∷ xs) = ap (λ ys. x ∷ ys) (none_behind xs)

pub more_none : (old new : List Shape) → new ≡ old → HasMore old new
more_none old new e = ([], e ∙ sym (none_behind old))

pub more_one : (old new : List Shape) (s : Shape) → new ≡ old ++ s ∷ [] → HasMore old new
more_one old new s e = (s ∷ [], e)
