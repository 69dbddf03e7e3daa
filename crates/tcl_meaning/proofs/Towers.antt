-- Links lead to no later frame, and end: where a name leads, and what frames that are made and dropped leave of it.
use Rattle.std.proofs.Common.{ℕ, zero, suc, ◌+◌, ◌≤◌, ◌<◌, List, [], ◌∷◌, ◌++◌, Bool, true, not, Option, None, Some, ◌≡◌, refl, ap, sym, subst, ◌∙◌, ⊎_elim, arith, length, take}
use Rattle.std.specs.FinMap as map
use Rattle.std.specs.FinMap.{get-empty}
use Rattle.std.specs.Ordering.{nat_cmp}
use Rattle.std.specs.Cmp.Lexicographic.{slice_cmp}
use Rattle.std.specs.Prelude.{is_some, nat_lt}
use Rattle.std.proofs.lemmas.Bool.{cases_Bool, ltb-true, ltb-false}
use Rattle.tcl_names.specs.Named.{Named}
use Rattle.tcl_meaning.specs.Frames.{Spot, Frame}
use Rattle.tcl_meaning.specs.Links.{through, link_at, links_of, hop, walk, room, destination, ends_within, IsTower}
use Rattle.tcl_meaning.proofs.OneLinkMore.{none_from, ends_none}

-- ---- where a name leads

walk_ends : (k : ℕ) (ls : List (Named Spot)) (p : Spot) → ends_within k ls p.frame p.name ≡ true → let q = walk k ls p in link_at ls q.frame q.name ≡ None
walk_ends zero ls p h = none_from (link_at ls p.frame p.name) h
walk_ends (suc k) ls p h =
    elim (link_at ls p.frame p.name) as (λ o. link_at ls p.frame p.name ≡ o → hop o true (λ t. ends_within k ls t.frame t.name) ≡ true → let q = hop o p (λ t. walk k ls (through t p.part)) in link_at ls q.frame q.name ≡ None) [
      | None ↦ λ at e. at
      | Some t ↦ λ at e. walk_ends k ls (through t p.part) e
    ] refl h

walk_down : (k : ℕ) (ls : List (Named Spot)) → ((i : ℕ) (n : List ℕ) (t : Spot) → link_at ls i n ≡ Some t → t.frame ≤ i) → (p : Spot) → (walk k ls p).frame ≤ p.frame
walk_down zero ls down p = omega arith
walk_down (suc k) ls down p =
    elim (link_at ls p.frame p.name) as (λ o. link_at ls p.frame p.name ≡ o → (hop o p (λ t. walk k ls (through t p.part))).frame ≤ p.frame) [
      | None ↦ λ at. omega arith
      | Some t ↦ λ at. let one = down p.frame p.name t at in let more = walk_down k ls down (through t p.part) in omega arith
    ] refl

-- where a name leads is no link
pub place_ends : (fs : List Frame) → IsTower (links_of fs) → (p : Spot) → link_at (links_of fs) (destination fs p).frame (destination fs p).name ≡ None
unfolding destination
place_ends fs tower p = walk_ends (room (links_of fs) p.frame) (links_of fs) p (tower.end p.frame p.name)

-- and it is in no later frame
pub place_down : (fs : List Frame) → IsTower (links_of fs) → (p : Spot) → (destination fs p).frame ≤ p.frame
unfolding destination
place_down fs tower p = walk_down (room (links_of fs) p.frame) (links_of fs) tower.down p

-- ---- more frames, and fewer

-- the first n of ls have the links of ks
pub record Fronts (n : ℕ) (ls ks : List (Named Spot)) : Type 0 where
  pub same : (i : ℕ) (m : List ℕ) → i < n → link_at ks i m ≡ link_at ls i m
  pub rooms : (i : ℕ) → i < n → room ks i ≡ room ls i
  pub none : (i : ℕ) (m : List ℕ) → n ≤ i → link_at ks i m ≡ None

on_ends : (f g : Spot → Bool) (o : Option Spot) → ((u : Spot) → o ≡ Some u → f u ≡ true → g u ≡ true) → hop o true f ≡ true → hop o true g ≡ true
on_ends f g None k h = refl
on_ends f g (Some u) k h = k u refl h

module _ (n : ℕ) (ls ks : List (Named Spot)) (fronts : Fronts n ls ks) (tower : IsTower ls) where
  ends_front : (k i : ℕ) (m : List ℕ) → i < n → ends_within k ls i m ≡ true → ends_within k ks i m ≡ true
  ends_front zero i m lt h = ap (λ o. not (is_some o)) (fronts.same i m lt) ∙ h
  ends_front (suc k) i m lt h =
      ap (λ o. hop o true (λ t. ends_within k ks t.frame t.name)) (fronts.same i m lt)
      ∙ on_ends (λ t. ends_within k ls t.frame t.name) (λ t. ends_within k ks t.frame t.name) (link_at ls i m) (λ u at e. let le = tower.down i m u at in ends_front k u.frame u.name (omega arith) e) h

  pub front_tower : IsTower ks
  front_tower = record {
    down = λ i m t at. ⊎_elim
        (λ y. tower.down i m t (sym (fronts.same i m (ltb-true i n y)) ∙ at))
        (λ no. absurd (let e : None ≡ Some t = sym (fronts.none i m (ltb-false i n no)) ∙ at in cc))
        (cases_Bool (nat_lt i n));
    end = λ i m. ⊎_elim
        (λ y. subst (λ r. ends_within r ks i m ≡ true) (sym (fronts.rooms i (ltb-true i n y))) (ends_front (room ls i) i m (ltb-true i n y) (tower.end i m)))
        (λ no. ends_none ks (room ks i) i m (fronts.none i m (ltb-false i n no)))
        (cases_Bool (nat_lt i n));
  }

no_link_at : (ls : List (Named Spot)) (i : ℕ) (m : List ℕ) → length ls ≤ i → link_at ls i m ≡ None
no_link_at [] i m le = refl
no_link_at (l ∷ ls) zero m le = absurd (omega arith)
no_link_at (l ∷ ls) (suc i) m le = no_link_at ls i m (omega arith)

take_same : (n : ℕ) (ls : List (Named Spot)) (i : ℕ) (m : List ℕ) → i < n → link_at (take n ls) i m ≡ link_at ls i m
take_same zero ls i m lt = absurd (omega arith)
take_same (suc n) [] i m lt = refl
take_same (suc n) (l ∷ ls) zero m lt = refl
take_same (suc n) (l ∷ ls) (suc i) m lt = take_same n ls i m (omega arith)

take_rooms : (n : ℕ) (ls : List (Named Spot)) (i : ℕ) → i < n → room (take n ls) i ≡ room ls i
take_rooms zero ls i lt = absurd (omega arith)
take_rooms (suc n) [] i lt = refl
take_rooms (suc n) (l ∷ ls) zero lt = refl
take_rooms (suc n) (l ∷ ls) (suc i) lt = ap (λ k. map.len l + k) (take_rooms n ls i (omega arith))

take_none : (n : ℕ) (ls : List (Named Spot)) (i : ℕ) (m : List ℕ) → n ≤ i → link_at (take n ls) i m ≡ None
take_none zero ls i m le = refl
take_none (suc n) [] i m le = refl
take_none (suc n) (l ∷ ls) zero m le = absurd (omega arith)
take_none (suc n) (l ∷ ls) (suc i) m le = take_none n ls i m (omega arith)

links_take : (n : ℕ) (fs : List Frame) → links_of (take n fs) ≡ take n (links_of fs)
links_take zero fs = refl
links_take (suc n) [] = refl
links_take (suc n) (f ∷ fs) = ap (λ ls. f.links ∷ ls) (links_take n fs)

-- frames that are dropped
pub take_tower : (n : ℕ) (fs : List Frame) → IsTower (links_of fs) → IsTower (links_of (take n fs))
take_tower n fs tower = subst IsTower (sym (links_take n fs)) (front_tower n (links_of fs) (take n (links_of fs)) (record { same = take_same n (links_of fs); rooms = take_rooms n (links_of fs); none = take_none n (links_of fs) }) tower)

more_same : (ls : List (Named Spot)) (i : ℕ) (m : List ℕ) → link_at (ls ++ map.empty ∷ []) i m ≡ link_at ls i m
more_same [] zero m = get-empty (slice_cmp nat_cmp) m
more_same [] (suc i) m = refl
more_same (l ∷ ls) zero m = refl
more_same (l ∷ ls) (suc i) m = more_same ls i m

more_rooms : (ls : List (Named Spot)) (i : ℕ) → i < length ls → room (ls ++ map.empty ∷ []) i ≡ room ls i
more_rooms [] i lt = absurd (omega arith)
more_rooms (l ∷ ls) zero lt = refl
more_rooms (l ∷ ls) (suc i) lt = ap (λ k. map.len l + k) (more_rooms ls i (omega arith))

links_more : (fs : List Frame) (f : Frame) → f.links ≡ map.empty → links_of (fs ++ f ∷ []) ≡ links_of fs ++ map.empty ∷ []
links_more [] f h = ap (λ m. m ∷ []) h
links_more (g ∷ fs) f h = ap (λ ls. g.links ∷ ls) (links_more fs f h)

-- a frame that has no links
pub more_tower : (fs : List Frame) (f : Frame) → f.links ≡ map.empty → IsTower (links_of fs) → IsTower (links_of (fs ++ f ∷ []))
more_tower fs f h tower =
    let ls = links_of fs in
    subst IsTower (sym (links_more fs f h)) (front_tower (length ls) ls (ls ++ map.empty ∷ []) (record { same = λ i m lt. more_same ls i m; rooms = more_rooms ls; none = λ i m le. more_same ls i m ∙ no_link_at ls i m le }) tower)
