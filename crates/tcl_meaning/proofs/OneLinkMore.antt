-- A link that is made to a place which is no link closes no circle.
use Rattle.std.proofs.Common.{ℕ, zero, suc, List, Bool, true, false, not, cond, Option, None, Some, ◌≡◌, ◌<◌, ◌≤◌, ◌⊎◌, inl, inr, refl, ap, sym, ◌∙◌, ⊎_elim, ◌+◌, add-zero, add-one, arith, length}
use Rattle.std.specs.Prelude.{is_some, nat_lt}
use Rattle.std.specs.Ordering.{is_eq, nat_cmp}
use Rattle.std.specs.Cmp.Lexicographic.{slice_cmp, bytes_decides}
use Rattle.std.proofs.lemmas.Map.Text.{is_eq-slice_cmp}
use Rattle.std.proofs.lemmas.Bool.{cases_Bool, ltb-true, ltb-false}
use Rattle.std.proofs.lemmas.Bool.Decides.{eqb_tells}
use mathlib.Core.Bool.{false≢true}
use Rattle.tcl_names.specs.Named.{Named}
use Rattle.tcl_meaning.specs.Frames.{Spot}
use Rattle.tcl_meaning.specs.Links.{link_at, hop, room, ends_within, IsTower}
use Rattle.tcl_meaning.proofs.LinksSet.{links_set, set_here, set_others, set_above, set_below}

-- t may be what the name n of the frame i leads to: it is no later frame's, no link, and not that name
abbrev pub IsFree : List (Named Spot) → ℕ → List ℕ → Spot → Type 0
IsFree ls i n t = (t.frame ≤ i) × (link_at ls t.frame t.name ≡ None) × ((t.frame ≡ i) × (t.name ≡ n) → ⊥)

same_name : (m n : List ℕ) → (m ≡ n) ⊎ (m ≡ n → ⊥)
same_name m n = ⊎_elim
    (λ y. inl ((bytes_decides m n).0 (sym (is_eq-slice_cmp m n) ∙ y)))
    (λ e. inr (λ s. false≢true (sym e ∙ is_eq-slice_cmp m n ∙ (bytes_decides m n).1 s)))
    (cases_Bool (is_eq (slice_cmp nat_cmp m n)))

same_spot : (i f : ℕ) (m n : List ℕ) → ((i ≡ f) × (m ≡ n)) ⊎ ((i ≡ f) × (m ≡ n) → ⊥)
same_spot i f m n = ⊎_elim
    (λ e. ⊎_elim (λ s. inl (e.1, s)) (λ d. inr (λ p. d p.1)) (same_name m n))
    (λ d. inr (λ p. d.1 p.0))
    (eqb_tells i f)

pub none_from : (o : Option Spot) → not (is_some o) ≡ true → o ≡ None
none_from None h = refl
none_from (Some u) h = absurd (false≢true h)

pub ends_none : (ls : List (Named Spot)) (k i : ℕ) (n : List ℕ) → link_at ls i n ≡ None → ends_within k ls i n ≡ true
ends_none ls zero i n e = ap (λ o. not (is_some o)) e
ends_none ls (suc k) i n e = ap (λ o. hop o true (λ t. ends_within k ls t.frame t.name)) e

carry : (f g : Spot → Bool) → ((u : Spot) → f u ≡ true → g u ≡ true) → (o : Option Spot) → hop o true f ≡ true → hop o true g ≡ true
carry f g on None h = refl
carry f g on (Some u) h = on u h

module _ (ls new : List (Named Spot)) (f : ℕ) (n : List ℕ) (t : Spot) where
  -- `new` has the link t at the name n of the frame f, else it is ls; t is no link and not that name
  pub record Linked : Type 0 where
    pub here : link_at new f n ≡ Some t
    pub others : (i : ℕ) (m : List ℕ) → ((i ≡ f) × (m ≡ n) → ⊥) → link_at new i m ≡ link_at ls i m
    pub free : link_at ls t.frame t.name ≡ None
    pub apart : (t.frame ≡ f) × (t.name ≡ n) → ⊥
    pub down : t.frame ≤ f
    pub above : (i : ℕ) → f ≤ i → room new i ≡ room ls i + cond (is_some (link_at ls f n)) 0 1
    pub below : (i : ℕ) → i < f → room new i ≡ room ls i

  module _ (l : Linked) where
    one : (k : ℕ) → ends_within (suc k) new f n ≡ true
    one k = ap (λ o. hop o true (λ u. ends_within k new u.frame u.name)) l.here ∙ ends_none new k t.frame t.name (l.others t.frame t.name l.apart ∙ l.free)

    moved : (k i : ℕ) (m : List ℕ) → (i ≡ f) × (m ≡ n) → ends_within k new f n ≡ true → ends_within k new i m ≡ true
    moved k i m p e = ap (λ j. ends_within k new j m) p.0 ∙ ap (λ q. ends_within k new f q) p.1 ∙ e

    grow : (k i : ℕ) (m : List ℕ) → ends_within k ls i m ≡ true → ends_within (suc k) new i m ≡ true
    grow zero i m h = ⊎_elim
        (λ p. moved (suc zero) i m p (one zero))
        (λ d. ends_none new (suc zero) i m (l.others i m d ∙ none_from (link_at ls i m) h))
        (same_spot i f m n)
    grow (suc j) i m h = ⊎_elim
        (λ p. moved (suc (suc j)) i m p (one (suc j)))
        (λ d. ap (λ o. hop o true (λ u. ends_within (suc j) new u.frame u.name)) (l.others i m d) ∙ carry (λ u. ends_within j ls u.frame u.name) (λ u. ends_within (suc j) new u.frame u.name) (λ u. grow j u.frame u.name) (link_at ls i m) h)
        (same_spot i f m n)

    keep : is_some (link_at ls f n) ≡ true → (k i : ℕ) (m : List ℕ) → ends_within k ls i m ≡ true → ends_within k new i m ≡ true
    keep had zero i m h = ⊎_elim
        (λ p. absurd (false≢true (ap not (sym had) ∙ ap (λ j. not (is_some (link_at ls j n))) (sym p.0) ∙ ap (λ q. not (is_some (link_at ls i q))) (sym p.1) ∙ h)))
        (λ d. ends_none new zero i m (l.others i m d ∙ none_from (link_at ls i m) h))
        (same_spot i f m n)
    keep had (suc j) i m h = ⊎_elim
        (λ p. moved (suc j) i m p (one j))
        (λ d. ap (λ o. hop o true (λ u. ends_within j new u.frame u.name)) (l.others i m d) ∙ carry (λ u. ends_within j ls u.frame u.name) (λ u. ends_within j new u.frame u.name) (λ u. keep had j u.frame u.name) (link_at ls i m) h)
        (same_spot i f m n)

    module _ (tower : (i : ℕ) (m : List ℕ) (u : Spot) → link_at ls i m ≡ Some u → u.frame ≤ i) where
      -- frames before f see nothing of it
      low : (k i : ℕ) (m : List ℕ) → i < f → ends_within k ls i m ≡ true → ends_within k new i m ≡ true
      low zero i m lt h = ends_none new zero i m (l.others i m (λ p. let e = p.0 in omega (arith, e, lt)) ∙ none_from (link_at ls i m) h)
      low (suc j) i m lt h =
          ap (λ o. hop o true (λ u. ends_within j new u.frame u.name)) (l.others i m (λ p. let e = p.0 in omega (arith, e, lt)))
          ∙ elim (link_at ls i m) as (λ o. link_at ls i m ≡ o → hop o true (λ u. ends_within j ls u.frame u.name) ≡ true → hop o true (λ u. ends_within j new u.frame u.name) ≡ true) [
            | None ↦ λ at e. refl
            | Some u ↦ λ at e. let le = tower i m u at in low j u.frame u.name (omega (arith, le, lt)) e
          ] refl h

      -- however many links there are then
      pub stays_tower : ((i : ℕ) (m : List ℕ) → ends_within (room ls i) ls i m ≡ true) → (i : ℕ) (m : List ℕ) → ends_within (room new i) new i m ≡ true
      stays_tower all i m = ⊎_elim
          (λ y. rw (l.below i (ltb-true i f y)) (low (room ls i) i m (ltb-true i f y) (all i m)))
          (λ no.
          let le = ltb-false i f no in
          rw (l.above i le) (elim (is_some (link_at ls f n)) as (λ b. is_some (link_at ls f n) ≡ b → ends_within (room ls i + cond b 0 1) new i m ≡ true) [
            | true ↦ λ had. rw add-zero (keep had (room ls i) i m (all i m))
            | false ↦ λ _. rw add-one (grow (room ls i) i m (all i m))
          ] refl))
          (cases_Bool (nat_lt i f))

      pub stays_down : (i : ℕ) (m : List ℕ) (u : Spot) → link_at new i m ≡ Some u → u.frame ≤ i
      stays_down i m u at = ⊎_elim
          (λ p. let e : Some t ≡ Some u = sym l.here ∙ ap (λ j. link_at new j n) (sym p.0) ∙ ap (λ q. link_at new i q) (sym p.1) ∙ at in
          let s : t.frame ≡ u.frame = ap (λ (o : Option Spot). hop o 0 (λ v. v.frame)) e in
          let k = p.0 in let d = l.down in omega (arith, s, k, d))
          (λ d. tower i m u (sym (l.others i m d) ∙ at))
          (same_spot i f m n)

pub linked_tower : (ls : List (Named Spot)) (f : ℕ) (n : List ℕ) (t : Spot) → f < length ls → IsFree ls f n t → IsTower ls → IsTower (links_set ls f n t)
linked_tower ls f n t lt free tower =
    let l : Linked ls (links_set ls f n t) f n t = record {
      here = set_here n t ls f lt;
      others = set_others n t ls f;
      free = free.1;
      apart = free.2;
      down = free.0;
      above = λ i le. set_above n t ls f i lt le;
      below = λ i lt. set_below n t ls f i lt;
    } in
    record { down = stays_down ls (links_set ls f n t) f n t l tower.down; end = stays_tower ls (links_set ls f n t) f n t l tower.down tower.end }
