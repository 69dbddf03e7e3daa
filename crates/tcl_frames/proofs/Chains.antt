-- Chains of links.
use Rattle.std.proofs.Common.{ℕ, zero, suc, ◌≤◌, ◌<◌, List, [], ◌∷◌, true, false, not, Option, None, Some, ◌≡◌, refl, ap, sym, subst, ◌∙◌, arith, length, get_or}
use Rattle.std.specs.FinMap as map
use Rattle.std.specs.Prelude.{is_some}
use mathlib.Core.Bool.{false≢true}
use Rattle.tcl_names.specs.Named.{Named}
use Rattle.tcl_meaning.specs.Frames.{Spot, Part, Frame}
use Rattle.tcl_meaning.specs.Links.{through, links_of, link_at, hop, walk, room, destination, ends_within, IsTower}
use Rattle.tcl_frames.specs.Places.{spot}

-- how many links there are to follow
abbrev pub steps : ℕ → List (Named Spot) → ℕ → List ℕ → ℕ
steps zero ls i n = 0
steps (suc k) ls i n = hop (link_at ls i n) 0 (λ t. suc (steps k ls t.frame t.name))

-- as many as there are
abbrev pub way : List (Named Spot) → ℕ → List ℕ → ℕ
way ls i n = steps (room ls i) ls i n

-- where a place leads
abbrev pub lead : List (Named Spot) → Spot → Spot
lead ls p = walk (room ls p.frame) ls p

pub destination_leads : (fs : List Frame) (p : Spot) → destination fs p ≡ lead (links_of fs) p
unfolding destination
destination_leads fs p = refl

module _ (ls : List (Named Spot)) where
  -- a link is only followed where there is room
  pub goes_on : (k i : ℕ) (n : List ℕ) (t : Spot) → link_at ls i n ≡ Some t → ends_within k ls i n ≡ true → (m : ℕ) × ((k ≡ suc m) × (ends_within m ls t.frame t.name ≡ true))
  goes_on zero i n t at e = absurd (false≢true (ap (λ o. not (is_some o)) (sym at) ∙ e))
  goes_on (suc m) i n t at e = (m, (refl, ap (λ o. hop o true (λ t. ends_within m ls t.frame t.name)) (sym at) ∙ e))

  pub stays : (k : ℕ) (s : Spot) → link_at ls s.frame s.name ≡ None → walk k ls s ≡ s
  stays zero s at = refl
  stays (suc k) s at = ap (λ o. hop o s (λ t. walk k ls (through t s.part))) at

  pub follows : (k : ℕ) (s t : Spot) → link_at ls s.frame s.name ≡ Some t → walk (suc k) ls s ≡ walk k ls (through t s.part)
  follows k s t at = ap (λ o. hop o s (λ t. walk k ls (through t s.part))) at

  counts : (k i : ℕ) (n : List ℕ) (t : Spot) → link_at ls i n ≡ Some t → steps (suc k) ls i n ≡ suc (steps k ls t.frame t.name)
  counts k i n t at = ap (λ o. hop o 0 (λ t. suc (steps k ls t.frame t.name))) at

  no_steps : (k i : ℕ) (n : List ℕ) → link_at ls i n ≡ None → steps k ls i n ≡ 0
  no_steps zero i n at = refl
  no_steps (suc k) i n at = ap (λ o. hop o 0 (λ t. suc (steps k ls t.frame t.name))) at

  -- any two numbers of steps that are enough lead to one place
  pub same_place : (j k : ℕ) (s : Spot) → ends_within j ls s.frame s.name ≡ true → ends_within k ls s.frame s.name ≡ true → walk j ls s ≡ walk k ls s
  same_place zero k s d e = sym (elim (link_at ls s.frame s.name) as (λ o. link_at ls s.frame s.name ≡ o → walk k ls s ≡ s) [
    | None ↦ λ at. stays k s at
    | Some t ↦ λ at. absurd (false≢true (ap (λ o. not (is_some o)) (sym at) ∙ d))
  ] refl)
  same_place (suc j) k s d e =
      elim (link_at ls s.frame s.name) as (λ o. link_at ls s.frame s.name ≡ o → walk (suc j) ls s ≡ walk k ls s) [
        | None ↦ λ at. stays (suc j) s at ∙ sym (stays k s at)
        | Some t ↦ λ at.
            let more = goes_on k s.frame s.name t at e in
            let here = ap (λ o. hop o true (λ t. ends_within j ls t.frame t.name)) (sym at) ∙ d in
            follows j s t at ∙ same_place j more.0 (through t s.part) here more.1.1 ∙ sym (follows more.0 s t at) ∙ ap (λ m. walk m ls s) (sym more.1.0)
      ] refl

  pub same_steps : (j k i : ℕ) (n : List ℕ) → ends_within j ls i n ≡ true → ends_within k ls i n ≡ true → steps j ls i n ≡ steps k ls i n
  same_steps zero k i n d e = sym (elim (link_at ls i n) as (λ o. link_at ls i n ≡ o → steps k ls i n ≡ 0) [
    | None ↦ λ at. no_steps k i n at
    | Some t ↦ λ at. absurd (false≢true (ap (λ o. not (is_some o)) (sym at) ∙ d))
  ] refl)
  same_steps (suc j) k i n d e =
      elim (link_at ls i n) as (λ o. link_at ls i n ≡ o → steps (suc j) ls i n ≡ steps k ls i n) [
        | None ↦ λ at. no_steps (suc j) i n at ∙ sym (no_steps k i n at)
        | Some t ↦ λ at.
            let more = goes_on k i n t at e in
            let here = ap (λ o. hop o true (λ t. ends_within j ls t.frame t.name)) (sym at) ∙ d in
            counts j i n t at ∙ ap suc (same_steps j more.0 t.frame t.name here more.1.1) ∙ sym (counts more.0 i n t at) ∙ ap (λ m. steps m ls i n) (sym more.1.0)
      ] refl

  module _ (tower : IsTower ls) where
    -- the place behind a link is the place of the name
    pub place_on : (i : ℕ) (n : List ℕ) (j : Part) (t : Spot) → link_at ls i n ≡ Some t → lead ls (spot i n j) ≡ walk (room ls t.frame) ls (through t j)
    place_on i n j t at =
        let more = goes_on (room ls i) i n t at (tower.end i n) in
        ap (λ m. walk m ls (spot i n j)) more.1.0 ∙ follows more.0 (spot i n j) t at ∙ same_place more.0 (room ls t.frame) (through t j) more.1.1 (tower.end t.frame t.name)

    pub place_here : (i : ℕ) (n : List ℕ) (j : Part) → link_at ls i n ≡ None → lead ls (spot i n j) ≡ spot i n j
    place_here i n j at = stays (room ls i) (spot i n j) at

    -- and it is nearer
    pub nearer : (i : ℕ) (n : List ℕ) (t : Spot) → link_at ls i n ≡ Some t → way ls t.frame t.name < way ls i n
    nearer i n t at =
        let more = goes_on (room ls i) i n t at (tower.end i n) in
        let one : way ls i n ≡ suc (way ls t.frame t.name) = ap (λ m. steps m ls i n) more.1.0 ∙ counts more.0 i n t at ∙ ap suc (same_steps more.0 (room ls t.frame) t.frame t.name more.1.1 (tower.end t.frame t.name)) in
        omega (arith, one)

module _ (n : List ℕ) where
  pub link_at-get : (fs : List Frame) (i : ℕ) (d : Frame) → i < length fs → link_at (links_of fs) i n ≡ map.get (get_or fs i d).links n
  link_at-get [] i d lt = absurd (omega arith)
  link_at-get (f ∷ fs) zero d lt = refl
  link_at-get (f ∷ fs) (suc i) d lt = link_at-get fs i d (omega arith)

  pub link_at-past : (fs : List Frame) (i : ℕ) → length fs ≤ i → link_at (links_of fs) i n ≡ None
  link_at-past [] i le = refl
  link_at-past (f ∷ fs) zero le = absurd (omega arith)
  link_at-past (f ∷ fs) (suc i) le = link_at-past fs i (omega arith)

-- one turn of a loop that follows links
pub one_on : (own fs : List Frame) → own ≡ fs → IsTower (links_of fs) → (i : ℕ) (n : List ℕ) (j : Part) (t p : Spot) → link_at (links_of own) i n ≡ Some t → p ≡ through t j
    → (way (links_of fs) p.frame p.name < way (links_of fs) i n) × (destination fs p ≡ destination fs (spot i n j)) × (p.frame ≤ i)
one_on own fs same tower i n j t p at e =
    let ls = links_of fs in
    let here : link_at ls i n ≡ Some t = ap (λ k. link_at (links_of k) i n) (sym same) ∙ at in (
      subst (λ (q : Spot). way ls q.frame q.name < way ls i n) (sym e) (nearer ls tower i n t here),
      destination_leads fs p ∙ ap (λ (q : Spot). lead ls q) e ∙ sym (place_on ls tower i n j t here) ∙ sym (destination_leads fs (spot i n j)),
      subst (λ (q : Spot). q.frame ≤ i) (sym e) (tower.down i n t here),
    )

-- where there is no link, a place is its own
pub own_place : (fs : List Frame) (p : Spot) → link_at (links_of fs) p.frame p.name ≡ None → destination fs p ≡ p
own_place fs p at = destination_leads fs p ∙ stays (links_of fs) (room (links_of fs) p.frame) p at

-- a test that found no link
pub no_link : (o : Option Spot) → is_some o ≡ false → o ≡ None
no_link None e = refl
no_link (Some p) e = cc
