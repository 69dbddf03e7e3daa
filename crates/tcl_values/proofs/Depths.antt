-- How deep a list is whose elements change.
use Rattle.std.proofs.Common.{◌≡◌, ℕ, zero, suc, ◌+◌, ◌<◌, ◌≤◌, List, [], ◌∷◌, ◌++◌, length, take, get_or, slice_get, slice_set, Some, None, Option, inl, inr, drop, max, ap, sym, ◌∙◌, arith}
use Rattle.std.proofs.lemmas.Bool.{cases_lt}
use Rattle.std.proofs.lemmas.List.{take_more, take-append-drop}
use Rattle.tcl_values.specs.Kept.{Kept, depth_over}

pub depth_least : (ks : List Kept) → 1 ≤ depth_over ks
depth_least [] = omega arith
depth_least (x ∷ ks) = omega arith

abbrev depth_in : Option Kept → ℕ
depth_in None = 0
depth_in (Some k) = k.depth

pub depth_over-push : (ks : List Kept) (k : Kept) → depth_over (ks ++ k ∷ []) ≡ max (depth_over ks) (suc k.depth)
depth_over-push [] k = omega arith
depth_over-push (x ∷ ks) k = omega (arith, depth_over-push ks k)

-- an element is less deep than its list
pub depth_below : (ks : List Kept) (i : ℕ) (k : Kept) → i < length ks → k ≡ get_or ks i k → suc k.depth ≤ depth_over ks
depth_below [] i k l e = absurd (omega arith)
depth_below (x ∷ ks) zero k l e = let same : k.depth ≡ x.depth = ap (λ (y : Kept). y.depth) e in omega (arith, same)
depth_below (x ∷ ks) (suc i) k l e = omega (arith, depth_below ks i k (omega (arith, l)) e)

-- the depth over the first elements and one more
pub depth_more : (ks : List Kept) (i : ℕ) (k : Kept) (d e n : ℕ) → i < length ks → k ≡ get_or ks i k → d ≡ depth_over (take i ks) → e ≡ k.depth → n ≡ max d (e + 1) → n ≡ depth_over (take (i + 1) ks)
depth_more ks i k d e n l is so_far same new =
    let taken : take (i + 1) ks ≡ take i ks ++ k ∷ [] = take_more ks i k l ∙ ap (λ x. take i ks ++ x ∷ []) (sym is) in
    omega (arith, so_far, ap depth_over taken, depth_over-push (take i ks) k, same, new)

pub depth_added : (ks more : List Kept) (k : Kept) (d e n : ℕ) → d ≡ depth_over ks → more ≡ ks ++ k ∷ [] → e ≡ k.depth → n ≡ max d (e + 1) → n ≡ depth_over more
depth_added ks more k d e n exact m same new = omega (arith, exact, ap depth_over m, depth_over-push ks k, same, new)

pub depth_plain : (ks more : List Kept) (k : Kept) → depth_over ks ≡ 1 → more ≡ ks ++ k ∷ [] → k.depth ≡ 0 → depth_over more ≡ 1
depth_plain ks more k one m none = omega (arith, one, ap depth_over m, depth_over-push ks k, none)

pub depth_within : (ks more : List Kept) (k : Kept) → depth_over ks ≤ 64 → more ≡ ks ++ k ∷ [] → k.depth < 64 → depth_over more ≤ 64
depth_within ks more k within m l = omega (arith, within, ap depth_over m, depth_over-push ks k, l)

pub depth_set-bound : (ks : List Kept) (i : ℕ) (k : Kept) → depth_over (slice_set ks i k) ≤ max (suc k.depth) (depth_over ks)
depth_set-bound [] i k = omega arith
depth_set-bound (x ∷ ks) zero k = omega arith
depth_set-bound (x ∷ ks) (suc i) k = omega (arith, depth_set-bound ks i k)

-- the new element is as deep as any
pub depth_set-higher : (ks : List Kept) (i : ℕ) (k : Kept) → i < length ks → depth_over ks ≤ suc k.depth → depth_over (slice_set ks i k) ≡ suc k.depth
depth_set-higher [] i k l h = absurd (omega arith)
depth_set-higher (x ∷ ks) zero k l h = omega (arith, h)
depth_set-higher (x ∷ ks) (suc i) k l h = omega (arith, h, depth_set-higher ks i k (omega (arith, l)) (omega (arith, h)))

-- neither the new element nor the one before was the deepest
pub depth_set-lower : (ks : List Kept) (i : ℕ) (k b : Kept) → slice_get ks i ≡ Some b → suc k.depth < depth_over ks → suc b.depth < depth_over ks → depth_over (slice_set ks i k) ≡ depth_over ks
depth_set-lower [] i k b g low was = cc
depth_set-lower (x ∷ ks) zero k b g low was =
    let same : x.depth ≡ b.depth = ap depth_in g in
    omega (arith, low, was, same)
depth_set-lower (x ∷ ks) (suc i) k b g low was = elim (cases_lt (suc k.depth) (depth_over ks)) [
  | inl low_in ↦ elim (cases_lt (suc b.depth) (depth_over ks)) [
    | inl was_in ↦ omega (arith, depth_set-lower ks i k b g low_in was_in)
    | inr out ↦ omega (arith, low, was, out, depth_set-bound ks i k)
  ]
  | inr out ↦ omega (arith, low, was, out, depth_set-bound ks i k)
]

-- the depth over some of the elements
pub depth_take : (n : ℕ) (ks : List Kept) → depth_over (take n ks) ≤ depth_over ks
depth_take zero ks = omega (arith, depth_least ks)
depth_take (suc n) [] = omega arith
depth_take (suc n) (x ∷ ks) = omega (arith, depth_take n ks)

pub depth_drop : (n : ℕ) (ks : List Kept) → depth_over (drop n ks) ≤ depth_over ks
depth_drop zero ks = omega arith
depth_drop (suc n) [] = omega arith
depth_drop (suc n) (x ∷ ks) = omega (arith, depth_drop n ks)

pub depth_part : (ks more : List Kept) (i n d : ℕ) → more ≡ take n (drop i ks) → d ≡ depth_over ks → d ≤ 64 → depth_over more ≤ 64
depth_part ks more i n d part exact limit = omega (arith, ap depth_over part, depth_take n (drop i ks), depth_drop i ks, exact, limit)

-- what the three cases of an element that is replaced come to
pub set_higher : (ks now : List Kept) (i : ℕ) (k : Kept) (d n : ℕ) → i < length ks → now ≡ slice_set ks i k → d ≡ depth_over ks → n ≡ k.depth → d ≤ n + 1 → depth_over now ≡ n + 1
set_higher ks now i k d n l set exact same h = omega (arith, ap depth_over set, depth_set-higher ks i k l (omega (arith, exact, same, h)), same)

pub set_lower : (ks now : List Kept) (i : ℕ) (k b : Kept) (d n m : ℕ) → slice_get ks i ≡ Some b → now ≡ slice_set ks i k → d ≡ depth_over ks → n ≡ k.depth → m ≡ b.depth → n + 1 < d → m + 1 < d → depth_over now ≡ d
set_lower ks now i k b d n m g set exact same before low was = omega (arith, ap depth_over set, depth_set-lower ks i k b g (omega (arith, exact, same, low)) (omega (arith, exact, before, was)), exact)

pub set_within : (ks now : List Kept) (i : ℕ) (k : Kept) (d : ℕ) → now ≡ slice_set ks i k → d ≡ depth_over ks → d ≤ 64 → k.depth < 64 → depth_over now ≤ 64
set_within ks now i k d set exact limit low = omega (arith, ap depth_over set, depth_set-bound ks i k, exact, limit, low)

pub depth_over-append : (ks ls : List Kept) → depth_over (ks ++ ls) ≡ max (depth_over ks) (depth_over ls)
depth_over-append [] ls = omega (arith, depth_least ls)
depth_over-append (x ∷ ks) ls = omega (arith, depth_over-append ks ls)

pub depth_spliced : (ks ls now : List Kept) (i n d : ℕ) → now ≡ take i ks ++ ls ++ drop n ks → d ≡ depth_over ks → d ≤ 64 → depth_over ls ≤ 64 → depth_over now ≤ 64
depth_spliced ks ls now i n d e exact limit low =
    omega (arith, ap depth_over e, depth_over-append (take i ks ++ ls) (drop n ks), depth_over-append (take i ks) ls, depth_take i ks, depth_drop n ks, exact, limit, low)

-- elements that only come to the others
pub depth_inserted : (ks ls now : List Kept) (i c d n : ℕ) → now ≡ take i ks ++ ls ++ drop (i + c) ks → d ≡ depth_over ks → n ≡ depth_over ls → c ≡ 0 → depth_over now ≡ max d n
depth_inserted ks ls now i c d n e exact new none =
    let behind : drop (i + c) ks ≡ drop i ks = ap (λ m. drop m ks) (omega (arith, none)) in
    omega (
      arith,
      ap depth_over e,
      depth_over-append (take i ks ++ ls) (drop (i + c) ks),
      depth_over-append (take i ks) ls,
      ap depth_over behind,
      depth_over-append (take i ks) (drop i ks),
      ap depth_over (take-append-drop i ks),
      exact,
      new,
    )

-- an element that was no list is replaced by one that is a list of texts
pub depth_read : (ks : List Kept) (i : ℕ) (k b : Kept) → slice_get ks i ≡ Some b → b.depth ≡ 0 → k.depth ≡ 1 → depth_over (slice_set ks i k) ≡ max (depth_over ks) 2
depth_read [] i k b g none one = cc
depth_read (x ∷ ks) zero k b g none one =
    let same : x.depth ≡ b.depth = ap depth_in g in
    omega (arith, same, none, one, depth_least ks)
depth_read (x ∷ ks) (suc i) k b g none one = omega (arith, depth_read ks i k b g none one)

-- a key and a value behind others that are as deep as some list at most
pub depth_pair : (ks mid more vs : List Kept) (i : ℕ) (k v : Kept) → depth_over ks ≤ depth_over vs → i < length vs → v ≡ get_or vs i v → mid ≡ ks ++ k ∷ [] → more ≡ mid ++ v ∷ [] → k.depth ≡ 0
    → depth_over more ≤ depth_over vs
depth_pair ks mid more vs i k v within l is key value none =
    omega (arith, within, ap depth_over key, depth_over-push ks k, ap depth_over value, depth_over-push mid v, none, depth_below vs i v l is, depth_least vs)
