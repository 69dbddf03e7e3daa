-- What a change in a numbered place, or among the other names, is to the finite map.
use Rattle.std.proofs.Common.{ℕ, zero, suc, ◌+◌, ◌<◌, List, [], ◌∷◌, ◌++◌, ◌≡◌, Bool, true, false, cond, refl, sym, ap, subst, ◌∙◌, Option, None, Some, Result, Ok, Err, OnOk, length, get_or, inr, arith}
use Rattle.std.proofs.Math.ListN.{set}
use Rattle.std.proofs.lemmas.List.{get_or-set_same, get_or-set_other, length-set}
use Rattle.std.proofs.lemmas.Map.Text.{is_eq-slice_cmp}
use Rattle.std.specs.Cmp.Lexicographic.{nat_list_cmp_total, bytes_decides}
use Rattle.std.specs.FinMap as map
use Rattle.std.specs.FinMap.{same_map, get-empty, get-insert, get-remove}
use Rattle.std.specs.Borrow.{MutBor}
use Rattle.std.specs.Option.{option_map, option_copied_mut, ghost_name_of}
use Rattle.tcl_chars.proofs.Same.{text_is}
use Rattle.tcl_chars.specs.Texts.{same_text, by_code_point}
use Rattle.tcl_names.specs.Named.{Named}
use Rattle.tcl_names.specs.Placed.{number_of, with_place, placed}
use Rattle.tcl_names.proofs.Entries.{exact, same}
use borrow.Follows.Closed.{read_of}

within : (o : Option ℕ) (n : ℕ) → ((j : ℕ) → o ≡ Some j → j < n) → (k : ℕ) → option_map (λ j. j + 1) o ≡ Some k → k < n + 1
within None n h k e = absurd cc
within (Some j) n h k e =
    let l = h j refl in
    let same : j + 1 ≡ k = cc in
    omega arith

-- a place is one of the names'
pub number_within : (ns : List (List ℕ)) (q : List ℕ) (k : ℕ) → number_of ns q ≡ Some k → k < length ns
number_within [] q k e = absurd cc
number_within (n ∷ ns) q k e =
    let more : length ns + 1 ≡ length (n ∷ ns) = omega arith in
    let by : (b : Bool) → cond b (Some 0) (option_map (λ j. j + 1) (number_of ns q)) ≡ Some k → k < length ns + 1 = λ b. elim b as (λ b. cond b (Some 0) (option_map (λ j. j + 1) (number_of ns q)) ≡ Some k → k < length ns + 1) [
      | true ↦ λ h. let at : 0 ≡ k = cc in omega arith
      | false ↦ λ h. within (number_of ns q) (length ns) (λ j d. number_within ns q j d) k h
    ] in
    let found = by (same_text q n) e in
    omega arith

-- the name of a place
name_at : (ns : List (List ℕ)) (q : List ℕ) (k : ℕ) → number_of ns q ≡ Some k → get_or ns k [] ≡ q
name_at [] q k e = absurd cc
name_at (n ∷ ns) q k e = by (same_text q n) (number_of ns q) refl refl e (λ j at. name_at ns q j at)
  where
    by : (b : Bool) (i : Option ℕ) → same_text q n ≡ b → number_of ns q ≡ i → cond b (Some 0) (option_map (λ j. j + 1) i) ≡ Some k → ((j : ℕ) → number_of ns q ≡ Some j → get_or ns j [] ≡ q) → get_or (n ∷ ns) k [] ≡ q
    by true i alike at h below =
        let first : 0 ≡ k = cc in
        ap (λ j. get_or (n ∷ ns) j []) (sym first) ∙ sym (text_is q n alike)
    by false None alike at h below = absurd cc
    by false (Some j) alike at h below =
        let later : j + 1 ≡ k = cc in
        let next : k ≡ suc j = omega arith in
        ap (λ i. get_or (n ∷ ns) i []) next ∙ below j at

-- two loans of a value end alike
pub lent_alike : {V D : Type 0} (r : Option (MutBor V)) (F G : V → D) (v w : D) → ((x : V) → F x ≡ G x) → (option_copied_mut r ≡ None → v ≡ w) → read_of (ghost_name_of r) F v ≡ read_of (ghost_name_of r) G w
lent_alike None F G v w f n = ap inr (n refl)
lent_alike (Some x) F G v w f n = λ i. read_of (ghost_name_of (Some x)) (λ y. f y i) v

module _ {H : Type 0} where
  -- what there is for a name with a place, or with none
  abbrev pub there : Option ℕ → List (Option H) → Option H → Option H
  there None os o = o
  there (Some k) os o = get_or os k None

  get-with_place : (n : List ℕ) (o : Option H) (m : Named H) (q : List ℕ) → map.get (with_place n o m) q ≡ cond (same_text q n) o (map.get m q)
  get-with_place n None m q = get-remove nat_list_cmp_total m n q ∙ ap (λ b. cond b None (map.get m q)) (is_eq-slice_cmp q n)
  get-with_place n (Some v) m q = get-insert nat_list_cmp_total m n v q ∙ ap (λ b. cond b (Some v) (map.get m q)) (is_eq-slice_cmp q n)

  there_later : (i : Option ℕ) (o : Option H) (os : List (Option H)) (x : Option H) → there i os x ≡ there (option_map (λ k. k + 1) i) (o ∷ os) x
  there_later None o os x = refl
  there_later (Some k) o os x =
      let next : suc k ≡ k + 1 = omega arith in
      ap (λ j. get_or (o ∷ os) j None) next

  -- a look-up
  pub get-placed : (ns : List (List ℕ)) (os : List (Option H)) (m : Named H) (q : List ℕ) → length os ≡ length ns → map.get (placed ns os m) q ≡ there (number_of ns q) os (map.get m q)
  get-placed [] os m q e = refl
  get-placed (n ∷ ns) [] m q e = absurd (omega (arith, e))
  get-placed (n ∷ ns) (o ∷ os) m q e =
      let fewer : length os ≡ length ns = omega (arith, e) in
      get-with_place n o (placed ns os m) q
      ∙ elim (same_text q n) as (λ b. cond b o (map.get (placed ns os m) q) ≡ there (cond b (Some 0) (option_map (λ k. k + 1) (number_of ns q))) (o ∷ os) (map.get m q)) [
        | true ↦ refl
        | false ↦ get-placed ns os m q fewer ∙ there_later (number_of ns q) o os (map.get m q)
      ]

  module _ (ns : List (List ℕ)) (os : List (Option H)) (m : Named H) (q : List ℕ) (as_many : length os ≡ length ns) where
    pub get_in_place : (k : ℕ) → number_of ns q ≡ Some k → map.get (placed ns os m) q ≡ get_or os k None
    get_in_place k at = get-placed ns os m q as_many ∙ ap (λ i. there i os (map.get m q)) at

    pub get_aside : number_of ns q ≡ None → map.get (placed ns os m) q ≡ map.get m q
    get_aside at = get-placed ns os m q as_many ∙ ap (λ i. there i os (map.get m q)) at

    -- what is put into a place is put into the map
    pub placed_in : (k : ℕ) (o : Option H) → number_of ns q ≡ Some k → placed ns (set os k o) m ≡ with_place q o (placed ns os m)
    placed_in k o at = same_map nat_list_cmp_total exact _ _ (λ p.
        get-placed ns (set os k o) m p (length-set os k o ∙ as_many) ∙ put p (same_text p q) (number_of ns p) refl refl
        ∙ sym (get-with_place q o (placed ns os m) p ∙ ap (λ x. cond (same_text p q) o x) (get-placed ns os m p as_many)))
      where
        put : (p : List ℕ) (b : Bool) (i : Option ℕ) → same_text p q ≡ b → number_of ns p ≡ i → there i (set os k o) (map.get m p) ≡ cond b o (there i os (map.get m p))
        put p true i e n =
            let here : i ≡ Some k = sym n ∙ ap (number_of ns) (text_is p q e) ∙ at in
            ap (λ j. there j (set os k o) (map.get m p)) here ∙ get_or-set_same os k o None (subst (λ c. k < c) (sym as_many) (number_within ns q k at))
        put p false None e n = refl
        put p false (Some j) e n = get_or-set_other os k j o None (λ same. absurd (apart p j n same e))
          where
            apart : (p : List ℕ) (j : ℕ) → number_of ns p ≡ Some j → j ≡ k → same_text p q ≡ false → ⊥
            apart p j n same e =
                let one : p ≡ q = sym (name_at ns p k (n ∙ ap Some same)) ∙ name_at ns q k at in
                let yes : same_text p q ≡ true = (bytes_decides p q).1 one in
                cc

    -- and so is what is put among the other names
    pub placed_aside : (o : Option H) → number_of ns q ≡ None → placed ns os (with_place q o m) ≡ with_place q o (placed ns os m)
    placed_aside o at = same_map nat_list_cmp_total exact _ _ (λ p.
        get-placed ns os (with_place q o m) p as_many ∙ ap (there (number_of ns p) os) (get-with_place q o m p) ∙ put p (same_text p q) (number_of ns p) refl refl
        ∙ sym (get-with_place q o (placed ns os m) p ∙ ap (λ x. cond (same_text p q) o x) (get-placed ns os m p as_many)))
      where
        put : (p : List ℕ) (b : Bool) (i : Option ℕ) → same_text p q ≡ b → number_of ns p ≡ i → there i os (cond b o (map.get m p)) ≡ cond b o (there i os (map.get m p))
        put p true i e n =
            let here : i ≡ None = sym n ∙ ap (number_of ns) (text_is p q e) ∙ at in
            ap (λ j. there j os o) here
        put p false i e n = refl

  pub put_aside : {A E : Type 0} (r : Result A E) (m n : Named H) (q : List ℕ) (v : H) (ns : List (List ℕ)) (os : List (Option H)) {whole : Named H} → length os ≡ length ns → number_of ns q ≡ None → OnOk r (n ≡ map.insert m q v) → placed ns os m ≡ whole
      → OnOk r (placed ns os n ≡ map.insert whole q v)
  put_aside (Ok x) m n q v ns os e at h w = ap (placed ns os) h ∙ placed_aside ns os m q e (Some v) at ∙ ap (λ m. map.insert m q v) w
  put_aside (Err x) m n q v ns os e at h w = tt

  none_there : (os : List (Option H)) → ((k : ℕ) → get_or os k None ≡ None) → (i : Option ℕ) (x : Option H) → x ≡ None → there i os x ≡ None
  none_there os h None x e = e
  none_there os h (Some k) x e = h k

  -- no name where nothing is in a place and there are no other names
  pub placed_nothing : (ns : List (List ℕ)) (os : List (Option H)) → length os ≡ length ns → ((k : ℕ) → get_or os k None ≡ None) → placed ns os map.empty ≡ map.empty
  placed_nothing ns os e h = same_map nat_list_cmp_total exact _ _ (λ q. get-placed ns os map.empty q e ∙ none_there os h (number_of ns q) _ (get-empty by_code_point q) ∙ sym (get-empty by_code_point q))

  pub nothing_more : (os : List (Option H)) → ((k : ℕ) → get_or os k None ≡ None) → (k : ℕ) → get_or (os ++ None ∷ []) k None ≡ None
  nothing_more [] h zero = refl
  nothing_more [] h (suc k) = refl
  nothing_more (o ∷ os) h zero = h 0
  nothing_more (o ∷ os) h (suc k) = nothing_more os (λ j. h (suc j)) k
