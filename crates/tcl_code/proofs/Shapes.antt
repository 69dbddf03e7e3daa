-- Parts that fit make a part that fits, and a whole that does is valid.
use Rattle.std.proofs.Common.{◌≡◌, ℕ, zero, suc, ◌+◌, ◌-◌, ◌<◌, ◌≤◌, cond, List, [], ◌∷◌, ◌++◌, length, Option, Some, None, refl, sym, ap, ◌∙◌, subst, arith, ⊎_elim, length-append}
use Rattle.std.specs.Prelude.{nat_lt, slice_get}
use Rattle.std.proofs.lemmas.Bool.{cases_lt, lt-ltb, le-ltb}
use Rattle.std.proofs.lemmas.Option.{slice_get_within, slice_get-get_or, get_or_from_slice_get}
use Rattle.std.proofs.lemmas.List.{get_or_append_left, get_or-append-add}
use mathlib.Core.Logic.{inl, inr}
use Rattle.std.proofs.Math.Seq.{get_or-append_seam}
use Rattle.tcl_code.specs.Instructions.{Instruction}
use Rattle.tcl_code.specs.Instructions.{Turn}
use Rattle.tcl_code.specs.Valid.{Shape, IsFine, Target, Ahead, Back, target, IsInside, Ways, ways_of, HasWay, EachWay, ways_at, ComesIn, FineOrEnd, Valid, bare}
use Rattle.tcl_code.specs.Parts.{Fits}

pub each_weaker : (P Q : Target → Shape → Type 0) (ws : Ways) → EachWay P ws → ((k : Target) (s : Shape) → P k s → Q k s) → EachWay Q ws
each_weaker P Q [] h f = tt
each_weaker P Q (w ∷ ws) h f = (f w.0 w.1 h.0, each_weaker P Q ws h.1 f)

pub each_has : (P : Target → Shape → Type 0) (ws : Ways) (k : Target) (s : Shape) → EachWay P ws → HasWay ws k s → P k s
each_has P [] k s h w = absurd w
each_has P (v ∷ ws) k s h (inl e) = subst (λ u. P k u) e.1 (subst (λ j. P j v.1) e.0 h.0)
each_has P (v ∷ ws) k s h (inr w) = each_has P ws k s h.1 w

-- ---- targets

pub inside_le : (n count : ℕ) (k : Target) → n < count → IsInside n count k → target n k ≤ count
inside_le n count (Ahead k) lt h = h
inside_le n count (Back k) lt h = omega arith

pub inside_more : (n count more : ℕ) (k : Target) → count ≤ more → IsInside n count k → IsInside n more k
inside_more n count more (Ahead k) le h = omega arith
inside_more n count more (Back k) le h = h

pub inside_behind : (a m n count more : ℕ) (k : Target) → n ≡ a + m → a + count ≤ more → IsInside m count k → IsInside n more k
inside_behind a m n count more (Ahead k) e le h = omega arith
inside_behind a m n count more (Back k) e le h = omega arith

pub target_behind : (a m n count : ℕ) (k : Target) → n ≡ a + m → IsInside m count k → target n k ≡ a + target m k
target_behind a m n count (Ahead k) e h = omega arith
target_behind a m n count (Back k) e h = omega arith

-- ---- one instruction

abbrev two : Shape → Shape → ℕ → Shape
two s t zero = s
two s t (suc n) = t

-- an instruction that leads to the next one alone
pub fits_one : (i : Instruction) (s t u : Shape) → IsFine i s → ways_of i s ≡ (Ahead 0, u) ∷ [] → u ≡ t → Fits (i ∷ []) s t
fits_one i s t u f w e = record { at = two s t; starts = refl; ends = refl; each = go }
  where
    go : (n : ℕ) (j : Instruction) → slice_get (i ∷ []) n ≡ Some j → IsFine j (two s t n) × EachWay (λ k v. IsInside n (length (i ∷ [])) k × (two s t (target n k) ≡ v)) (ways_of j (two s t n))
    go zero j h =
        let same : i ≡ j = cc in
        subst (λ x. IsFine x s × EachWay (λ k v. IsInside 0 1 k × (two s t (target 0 k) ≡ v)) (ways_of x s)) same
        (f, subst (λ ws. EachWay (λ k v. IsInside 0 1 k × (two s t (target 0 k) ≡ v)) ws) (sym w) ((omega arith, sym e), tt))
    go (suc n) j h = absurd (omega (arith, slice_get_within (i ∷ []) (suc n) j h))

-- an instruction that leads nowhere
pub fits_stop : (i : Instruction) (s t : Shape) → IsFine i s → ways_of i s ≡ [] → Fits (i ∷ []) s t
fits_stop i s t f w = record { at = two s t; starts = refl; ends = refl; each = go }
  where
    go : (n : ℕ) (j : Instruction) → slice_get (i ∷ []) n ≡ Some j → IsFine j (two s t n) × EachWay (λ k v. IsInside n (length (i ∷ [])) k × (two s t (target n k) ≡ v)) (ways_of j (two s t n))
    go zero j h =
        let same : i ≡ j = cc in
        subst (λ x. IsFine x s × EachWay (λ k v. IsInside 0 1 k × (two s t (target 0 k) ≡ v)) (ways_of x s)) same
        (f, subst (λ ws. EachWay (λ k v. IsInside 0 1 k × (two s t (target 0 k) ≡ v)) ws) (sym w) tt)
    go (suc n) j h = absurd (omega (arith, slice_get_within (i ∷ []) (suc n) j h))

pub fits_none : (s : Shape) → Fits [] s s
fits_none s = record { at = λ n. s; starts = refl; ends = refl; each = λ n i h. absurd (omega (arith, slice_get_within [] n i h)) }

pub fits_same : {c : List Instruction} {s s' t t' : Shape} → s ≡ s' → t ≡ t' → Fits c s t → Fits c s' t'
fits_same e f x = record { at = x.at; starts = x.starts ∙ e; ends = x.ends ∙ f; each = x.each }

-- ---- one part behind another

pub at_front : (a b : List Instruction) (n : ℕ) (i : Instruction) → n < length a → slice_get (a ++ b) n ≡ Some i → slice_get a n ≡ Some i
at_front a b n i lt h = slice_get-get_or a n i lt ∙ ap Some (sym (get_or_append_left a b i n lt) ∙ get_or_from_slice_get (a ++ b) n i i h)

pub at_back : (a b : List Instruction) (m : ℕ) (i : Instruction) → slice_get (a ++ b) (length a + m) ≡ Some i → slice_get b m ≡ Some i
at_back a b m i h =
    let lt : m < length b = omega (arith, slice_get_within (a ++ b) (length a + m) i h, length-append a b) in
    slice_get-get_or b m i lt ∙ ap Some (sym (get_or-append-add a b m i) ∙ get_or_from_slice_get (a ++ b) (length a + m) i i h)

module _ (a b : List Instruction) (s t u : Shape) (x : Fits a s t) (y : Fits b t u) where
  abbrev table : ℕ → Shape
  table n = cond (nat_lt n (length a)) (x.at n) (y.at (n - length a))

  table_front : (n : ℕ) → n < length a → table n ≡ x.at n
  table_front n lt = ap (λ c. cond c (x.at n) (y.at (n - length a))) (lt-ltb n (length a) lt)

  table_back : (m n : ℕ) → n ≡ length a + m → table n ≡ y.at m
  table_back m n e =
      let le : length a ≤ n = omega arith in
      let d : n - length a ≡ m = omega arith in
      ap (λ c. cond c (x.at n) (y.at (n - length a))) (le-ltb n (length a) le) ∙ ap y.at d

  table_upto : (n : ℕ) → n ≤ length a → table n ≡ x.at n
  table_upto n le = ⊎_elim (λ lt. table_front n lt) (λ ge. table_back 0 n (omega arith) ∙ y.starts ∙ sym x.ends ∙ ap x.at (omega arith)) (cases_lt n (length a))

  Inside : ℕ → Target → Shape → Type 0
  Inside n k v = IsInside n (length (a ++ b)) k × (table (target n k) ≡ v)

  each_front : (n : ℕ) (i : Instruction) → n < length a → slice_get (a ++ b) n ≡ Some i → IsFine i (table n) × EachWay (Inside n) (ways_of i (table n))
  unfolding Inside
  each_front n i lt h =
      let was = x.each n i (at_front a b n i lt h) in
      subst (λ z. IsFine i z × EachWay (λ k v. IsInside n (length (a ++ b)) k × (table (target n k) ≡ v)) (ways_of i z)) (sym (table_front n lt)) (
        was.0,
        each_weaker (λ k v. IsInside n (length a) k × (x.at (target n k) ≡ v)) (λ k v. IsInside n (length (a ++ b)) k × (table (target n k) ≡ v)) (ways_of i (x.at n)) was.1
            (λ k v w. (inside_more n (length a) (length (a ++ b)) k (omega (arith, length-append a b)) w.0, table_upto (target n k) (inside_le n (length a) k lt w.0) ∙ w.1)),
      )

  each_back : (m n : ℕ) (i : Instruction) → n ≡ length a + m → slice_get (a ++ b) n ≡ Some i → IsFine i (table n) × EachWay (Inside n) (ways_of i (table n))
  unfolding Inside
  each_back m n i e h =
      let was = y.each m i (at_back a b m i (ap (slice_get (a ++ b)) (sym e) ∙ h)) in
      subst (λ z. IsFine i z × EachWay (λ k v. IsInside n (length (a ++ b)) k × (table (target n k) ≡ v)) (ways_of i z)) (sym (table_back m n e)) (
        was.0,
        each_weaker (λ k v. IsInside m (length b) k × (y.at (target m k) ≡ v)) (λ k v. IsInside n (length (a ++ b)) k × (table (target n k) ≡ v)) (ways_of i (y.at m)) was.1
            (λ k v w. (inside_behind (length a) m n (length b) (length (a ++ b)) k e (omega (arith, length-append a b)) w.0, table_back (target m k) (target n k) (target_behind (length a) m n (length b) k e w.0) ∙ w.1)),
      )

  each_joined : (n : ℕ) (i : Instruction) → slice_get (a ++ b) n ≡ Some i → IsFine i (table n) × EachWay (λ k v. IsInside n (length (a ++ b)) k × (table (target n k) ≡ v)) (ways_of i (table n))
  unfolding Inside
  each_joined n i h = ⊎_elim (λ lt. each_front n i lt h) (λ ge. each_back (n - length a) n i (omega arith) h) (cases_lt n (length a))

  pub fits_joined : Fits (a ++ b) s u
  fits_joined = record {
    at = table;
    starts = table_upto 0 (omega arith) ∙ x.starts;
    ends = table_back (length b) (length (a ++ b)) (length-append a b) ∙ y.ends;
    each = each_joined;
  }

pub joined_back : (a b : List Instruction) (s t u : Shape) (x : Fits a s t) (y : Fits b t u) (m n : ℕ) → n ≡ length a + m → (fits_joined a b s t u x y).at n ≡ y.at m
unfolding fits_joined
joined_back a b s t u x y m n e = table_back a b s t u x y m n e

-- ---- an instruction that leads to several places of what follows it

abbrev later : Shape → (ℕ → Shape) → ℕ → Shape
later s f zero = s
later s f (suc n) = f n

at_end : (c : List Instruction) (i : Instruction) → slice_get (c ++ i ∷ []) (length c) ≡ Some i
at_end c i = slice_get-get_or (c ++ i ∷ []) (length c) i (omega (arith, length-append c (i ∷ []))) ∙ ap Some (get_or-append_seam c i [] i)

-- ahead alone, as what stands first must
abbrev pub Leads : (ℕ → Shape → Type 0) → Target → Shape → Type 0
Leads P (Ahead k) u = P k u
Leads P (Back k) u = ⊥

pub fits_before : (i : Instruction) (c : List Instruction) (v s t : Shape) (x : Fits c s t) → IsFine i v → EachWay (Leads (λ k u. (k ≤ length c) × (x.at k ≡ u))) (ways_of i v) → Fits (i ∷ c) v t
fits_before i c v s t x f w = record { at = later v x.at; starts = refl; ends = (let e : length (i ∷ c) ≡ suc (length c) = omega arith in ap (later v x.at) e ∙ x.ends); each = go }
  where
    first : (k : Target) (u : Shape) → Leads (λ j z. (j ≤ length c) × (x.at j ≡ z)) k u → IsInside 0 (length (i ∷ c)) k × (later v x.at (target 0 k) ≡ u)
    first (Ahead k) u q = let le = q.0 in (omega arith, (let e : 0 + 1 + k ≡ suc k = omega arith in ap (later v x.at) e ∙ q.1))
    first (Back k) u q = absurd q

    next : (n : ℕ) (k : Target) (u : Shape) → IsInside n (length c) k × (x.at (target n k) ≡ u) → IsInside (suc n) (length (i ∷ c)) k × (later v x.at (target (suc n) k) ≡ u)
    next n (Ahead k) u q = let le = q.0 in (omega arith, (let e : suc n + 1 + k ≡ suc (n + 1 + k) = omega arith in ap (later v x.at) e ∙ q.1))
    next n (Back k) u q = let le = q.0 in (omega arith, (let e : suc n - k ≡ suc (n - k) = omega arith in ap (later v x.at) e ∙ q.1))

    go : (n : ℕ) (j : Instruction) → slice_get (i ∷ c) n ≡ Some j → IsFine j (later v x.at n) × EachWay (λ k u. IsInside n (length (i ∷ c)) k × (later v x.at (target n k) ≡ u)) (ways_of j (later v x.at n))
    go zero j h =
        let same : i ≡ j = cc in
        subst (λ y. IsFine y v × EachWay (λ k u. IsInside 0 (length (i ∷ c)) k × (later v x.at (target 0 k) ≡ u)) (ways_of y v)) same
        (f, each_weaker (Leads (λ k u. (k ≤ length c) × (x.at k ≡ u))) (λ k u. IsInside 0 (length (i ∷ c)) k × (later v x.at (target 0 k) ≡ u)) (ways_of i v) w first)
    go (suc n) j h =
        let back : length (i ∷ []) + n ≡ suc n = omega arith in
        let was = x.each n j (at_back (i ∷ []) c n j (ap (slice_get (i ∷ c)) back ∙ h)) in
        (was.0, each_weaker (λ k u. IsInside n (length c) k × (x.at (target n k) ≡ u)) (λ k u. IsInside (suc n) (length (i ∷ c)) k × (later v x.at (target (suc n) k) ≡ u)) (ways_of j (x.at n)) was.1 (next n))

pub before_at : (i : Instruction) (c : List Instruction) (v s t : Shape) (x : Fits c s t) (f : IsFine i v) (w : EachWay (Leads (λ k u. (k ≤ length c) × (x.at k ≡ u))) (ways_of i v)) (n : ℕ) → (fits_before i c v s t x f w).at (suc n) ≡ x.at n
unfolding fits_before
before_at i c v s t x f w n = refl

-- ---- a turn back into what stands before it

-- the table of a part, and one shape behind it
abbrev then_at : ℕ → (ℕ → Shape) → Shape → ℕ → Shape
then_at count f u n = cond (nat_lt n (suc count)) (f n) u

pub fits_turn : (c : List Instruction) (s t u : Shape) (k : ℕ) (x : Fits c s t) → k ≤ length c → x.at (length c - k) ≡ t → Fits (c ++ Turn k ∷ []) s u
fits_turn c s t u k x le e = record {
  at = then_at (length c) x.at u;
  starts = near 0 (omega arith) ∙ x.starts;
  ends = far (length (c ++ Turn k ∷ [])) (omega (arith, length-append c (Turn k ∷ [])));
  each = λ n i h. ⊎_elim (λ lt. inside n i lt h) (λ ge. last n i (omega (arith, slice_get_within (c ++ Turn k ∷ []) n i h, length-append c (Turn k ∷ []))) h) (cases_lt n (length c));
}
  where
    near : (n : ℕ) → n ≤ length c → then_at (length c) x.at u n ≡ x.at n
    near n h = ap (λ b. cond b (x.at n) u) (lt-ltb n (suc (length c)) (omega arith))

    far : (n : ℕ) → suc (length c) ≤ n → then_at (length c) x.at u n ≡ u
    far n h = ap (λ b. cond b (x.at n) u) (le-ltb n (suc (length c)) h)

    inside : (n : ℕ) (i : Instruction) → n < length c → slice_get (c ++ Turn k ∷ []) n ≡ Some i → IsFine i (then_at (length c) x.at u n) × EachWay (λ j v. IsInside n (length (c ++ Turn k ∷ [])) j × (then_at (length c) x.at u (target n j) ≡ v)) (ways_of i (then_at (length c) x.at u n))
    inside n i lt h =
        let was = x.each n i (at_front c (Turn k ∷ []) n i lt h) in
        subst (λ z. IsFine i z × EachWay (λ j v. IsInside n (length (c ++ Turn k ∷ [])) j × (then_at (length c) x.at u (target n j) ≡ v)) (ways_of i z)) (sym (near n (omega arith))) (
          was.0,
          each_weaker (λ j v. IsInside n (length c) j × (x.at (target n j) ≡ v)) (λ j v. IsInside n (length (c ++ Turn k ∷ [])) j × (then_at (length c) x.at u (target n j) ≡ v)) (ways_of i (x.at n)) was.1
              (λ j v w. (inside_more n (length c) (length (c ++ Turn k ∷ [])) j (omega (arith, length-append c (Turn k ∷ []))) w.0, near (target n j) (inside_le n (length c) j lt w.0) ∙ w.1)),
        )

    last : (n : ℕ) (i : Instruction) → n ≡ length c → slice_get (c ++ Turn k ∷ []) n ≡ Some i → IsFine i (then_at (length c) x.at u n) × EachWay (λ j v. IsInside n (length (c ++ Turn k ∷ [])) j × (then_at (length c) x.at u (target n j) ≡ v)) (ways_of i (then_at (length c) x.at u n))
    last n i m h =
        let is : Some (Turn k) ≡ Some i = sym (at_end c (Turn k)) ∙ ap (slice_get (c ++ Turn k ∷ [])) (sym m) ∙ h in
        let same : Turn k ≡ i = cc in
        let here : then_at (length c) x.at u n ≡ t = near n (omega arith) ∙ ap x.at m ∙ x.ends in
        let there : then_at (length c) x.at u (n - k) ≡ t = near (n - k) (omega arith) ∙ ap (λ j. x.at (j - k)) m ∙ e in
        subst (λ y. IsFine y (then_at (length c) x.at u n) × EachWay (λ j v. IsInside n (length (c ++ Turn k ∷ [])) j × (then_at (length c) x.at u (target n j) ≡ v)) (ways_of y (then_at (length c) x.at u n))) same
        (tt, ((omega arith, there ∙ sym here), tt))

-- ---- the whole

is_none : {A : Type 0} (x : A) → Some x ≡ None → ⊥
is_none x e = cc

pub none_some : (code : List Instruction) (p : ℕ) → slice_get code p ≡ None → p < length code → ⊥
none_some [] p e lt = absurd (omega arith)
none_some (i ∷ code) p e lt = is_none _ (sym (slice_get-get_or (i ∷ code) p i lt) ∙ e)

module _ (code : List Instruction) (x : Fits code bare bare) where
  abbrev Kept : ℕ → Shape → Type 0
  Kept place s = (place ≤ length code) × (x.at place ≡ s)

  step : (p place : ℕ) (k : Target) (t s : Shape) (o : Option Instruction) → slice_get code p ≡ o → x.at p ≡ t → HasWay (ways_at o t) k s → place ≡ target p k → Kept place s
  step p place k t s None e h w n = absurd w
  step p place k t s (Some i) e h w n =
      let ways = subst (λ z. EachWay (λ j v. IsInside p (length code) j × (x.at (target p j) ≡ v)) (ways_of i z)) h (x.each p i e).1 in
      let here = each_has (λ j v. IsInside p (length code) j × (x.at (target p j) ≡ v)) (ways_of i t) k s ways w in
      let le = inside_le p (length code) k (slice_get_within code p i e) here.0 in
      (omega arith, ap x.at n ∙ here.1)

  keeps : (n place : ℕ) (s : Shape) → ComesIn code n place s → Kept place s
  keeps zero place s c = let z = c.0 in (omega arith, ap x.at c.0 ∙ x.starts ∙ sym c.1)
  keeps (suc n) place s c =
      let before = keeps n c.0 c.1 c.3 in
      step c.0 place c.2 c.1 s (slice_get code c.0) refl before.1 c.4 c.5

  fine : (place : ℕ) (s : Shape) (o : Option Instruction) → slice_get code place ≡ o → Kept place s → FineOrEnd code place s o
  fine place s None e h =
      let le = h.0 in
      let last : place ≡ length code = ⊎_elim (λ lt. absurd (none_some code place e lt)) (λ ge. omega arith) (cases_lt place (length code)) in
      (last, sym h.1 ∙ ap x.at last ∙ x.ends)
  fine place s (Some i) e h =
      let was = x.each place i e in
      subst (λ z. IsFine i z × EachWay (λ k t. IsInside place (length code) k) (ways_of i z)) h.1
      (was.0, each_weaker (λ k v. IsInside place (length code) k × (x.at (target place k) ≡ v)) (λ k t. IsInside place (length code) k) (ways_of i (x.at place)) was.1 (λ k v w. w.0))

  pub valid : Valid code
  valid = record {
    fine = λ place s c. fine place s (slice_get code place) refl (keeps c.steps place s c.comes);
    agree = λ place s t c e. sym (keeps c.steps place s c.comes).1 ∙ (keeps e.steps place t e.comes).1;
  }
