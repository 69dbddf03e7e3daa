-- The frames that stand, while some are made, left or changed.
use Rattle.std.proofs.Common.{◌≡◌, ℕ, zero, suc, ◌+◌, ◌-◌, ◌<◌, ◌≤◌, false, List, [], ◌∷◌, ◌++◌, length, take, get_or, Option, None, Some, Result, Ok, Err, OnOk, OnErr, Bor, refl, sym, ap, subst, ◌∙◌, arith, length-append, eq-eqb}
use Rattle.std.specs.Prelude.{is_some, slice_set}
use Rattle.std.specs.FinMap as map
use Rattle.std.specs.FinMap.{get-empty}
use Rattle.std.specs.Ordering.{nat_cmp}
use Rattle.std.specs.Cmp.Lexicographic.{slice_cmp}
use Rattle.std.specs.Option.{option_copied}
use Rattle.std.proofs.lemmas.Bool.{cond-true, cond-false, ne_eqb}
use Rattle.std.proofs.lemmas.List.{length-take-le, set-get_or}
use Rattle.tcl_names.specs.Named.{Named}
use Rattle.tcl_pages.specs.Texts.{Text}
use Rattle.tcl_meaning.specs.Frames.{Part, Spot, Frame, frame_at, set_frame, global_frame, chain_of, nth, of_level}
use Rattle.tcl_meaning.specs.Links.{links_of, link_at, destination, through, is_own, IsTower}
use Rattle.tcl_meaning.specs.State.{Commands, with_link}
use Rattle.tcl_meaning.proofs.LinksSet.{links_changed}
use Rattle.tcl_meaning.proofs.OneLinkMore.{linked_tower}
use Rattle.tcl_meaning.proofs.Soundness.{first_sound, not_own, length_links}
use Rattle.tcl_meaning.proofs.Towers.{take_tower, more_tower}
use Rattle.tcl_frames.specs.Places.{spot}
use Rattle.tcl_frames.specs.Standing.{Standing, store_of, IsStanding, called, left}
use Rattle.tcl_frames.proofs.Chains.{way, one_on}

-- ---- following links

pub turn : (calls : List Frame) (active : ℕ) (now : Standing) (own : List Frame) → own ≡ calls → record { frames = calls; active = active } ≡ now → IsStanding (record { frames = calls; active = active })
    → (i : ℕ) (n : List ℕ) (j : Part) (t p : Spot) → link_at (links_of own) i n ≡ Some t → p ≡ through t j
    → (way (links_of now.frames) p.frame p.name < way (links_of now.frames) i n) × (destination now.frames p ≡ destination now.frames (spot i n j)) × (p.frame ≤ i)
turn calls active now own same view h i n j t p at e =
    let standing = subst IsStanding view h in
    one_on own now.frames (same ∙ ap (λ (s : Standing). s.frames) view) standing.sound.tower i n j t p at e

-- ---- the beginning

pub first_standing : IsStanding (record { frames = global_frame map.empty ∷ []; active = 0 })
first_standing = let s = first_sound map.empty in record { sound = record { active = s.active; callers = s.callers; tower = s.tower }; levels = λ i. low i; earlier = λ i lt. first_earlier i lt }
  where
    low : (i : ℕ) → (frame_at (global_frame map.empty ∷ []) i).level ≤ i
    low zero = omega arith
    low (suc i) = omega arith

    first_earlier : (i : ℕ) → 0 < i → (frame_at (global_frame map.empty ∷ []) i).caller < i
    first_earlier zero lt = absurd (omega arith)
    first_earlier (suc i) lt = omega arith

pub pushed_standing : (calls before : List Frame) (f : Frame) → calls ≡ before ++ f ∷ [] → before ≡ [] → f ≡ global_frame map.empty → IsStanding (record { frames = calls; active = 0 })
pushed_standing calls before f h none first =
    subst (λ (fs : List Frame). IsStanding (record { frames = fs; active = 0 })) (sym (h ∙ ap (λ l. l ++ f ∷ []) none ∙ ap (λ g. g ∷ []) first)) first_standing

-- ---- one frame

pub frame_at-get : (fs : List Frame) (i : ℕ) (d : Frame) → i < length fs → frame_at fs i ≡ get_or fs i d
frame_at-get [] i d lt = absurd (omega arith)
frame_at-get (f ∷ fs) zero d lt = refl
frame_at-get (f ∷ fs) (suc i) d lt = frame_at-get fs i d (omega arith)

-- the active frame, by the code's list
pub frame_here : (calls : List Frame) (active : ℕ) (now : Standing) (f : Frame) → record { frames = calls; active = active } ≡ now → f ≡ get_or calls active f → IsStanding (record { frames = calls; active = active })
    → frame_at now.frames now.active ≡ f
frame_here calls active now f view is h = ap (λ (s : Standing). frame_at s.frames s.active) (sym view) ∙ frame_at-get calls active f h.sound.active ∙ sym is

pub copied_some : {X : Type 0} (o : Option (Bor X)) → is_some o ≡ is_some (option_copied o)
copied_some None = refl
copied_some (Some x) = refl

-- ---- frames that are made, left and changed: what holds of each

at_more : (P : ℕ → Frame → Type 0) (fs : List Frame) (f : Frame) → ((i : ℕ) → P i (frame_at fs i)) → P (length fs) f → (i : ℕ) → P i (frame_at (fs ++ f ∷ []) i)
at_more P [] f h k zero = k
at_more P [] f h k (suc i) = h (suc i)
at_more P (g ∷ fs) f h k zero = h zero
at_more P (g ∷ fs) f h k (suc i) = at_more (λ j. P (suc j)) fs f (λ j. h (suc j)) k i

at_take : (P : ℕ → Frame → Type 0) (n : ℕ) (fs : List Frame) → ((i : ℕ) → P i (frame_at fs i)) → ((i : ℕ) → P i (global_frame map.empty)) → (i : ℕ) → P i (frame_at (take n fs) i)
at_take P zero fs h k i = k i
at_take P (suc n) [] h k i = k i
at_take P (suc n) (f ∷ fs) h k zero = h zero
at_take P (suc n) (f ∷ fs) h k (suc i) = at_take (λ j. P (suc j)) n fs (λ j. h (suc j)) (λ j. k (suc j)) i

at_set : (P : ℕ → Frame → Type 0) (fs : List Frame) (i : ℕ) (g : Frame) → ((j : ℕ) → P j (frame_at fs j)) → P i g → (j : ℕ) → P j (frame_at (set_frame fs i g) j)
at_set P [] i g h k j = h j
at_set P (f ∷ fs) zero g h k zero = k
at_set P (f ∷ fs) zero g h k (suc j) = h (suc j)
at_set P (f ∷ fs) (suc i) g h k zero = h zero
at_set P (f ∷ fs) (suc i) g h k (suc j) = at_set (λ n. P (suc n)) fs i g (λ n. h (suc n)) k j

pub called_standing : (f : Standing) → IsStanding f → IsStanding (called f)
called_standing f h =
    let fs = f.frames in
    let inside = h.sound.active in
    let g : Frame = record { caller = f.active; level = suc (frame_at fs f.active).level; variables = map.empty; links = map.empty } in
    record {
      sound = record {
        active = let e = length-append fs (g ∷ []) in omega (arith, e);
        callers = at_more (λ i k. k.caller ≤ i) fs g h.sound.callers (omega (arith, inside));
        tower = more_tower fs g refl h.sound.tower;
      };
      levels = at_more (λ i k. k.level ≤ i) fs g h.levels (let l = h.levels f.active in omega (arith, l, inside));
      earlier = at_more (λ i k. 0 < i → k.caller < i) fs g h.earlier (λ lt. inside);
    }

pub left_standing : (f : Standing) → 1 < length f.frames → IsStanding f → IsStanding (left f)
left_standing f more h =
    let fs = f.frames in
    let n = length fs - 1 in
    record {
      sound = record {
        active = let e = length-take-le n fs (omega arith) in let l = h.earlier n (omega (arith, more)) in omega (arith, e, l);
        callers = at_take (λ i k. k.caller ≤ i) n fs h.sound.callers (λ i. omega arith);
        tower = take_tower n fs h.sound.tower;
      };
      levels = at_take (λ i k. k.level ≤ i) n fs h.levels (λ i. omega arith);
      earlier = at_take (λ i k. 0 < i → k.caller < i) n fs h.earlier (λ i lt. lt);
    }

-- ---- by the code's lists

abbrev frame_or : Frame → Option Frame → Frame
frame_or f None = f
frame_or f (Some g) = g

by_frame : {f : Frame} (g : Frame) → Some g ≡ Some f → g ≡ f
by_frame g e = ap (frame_or g) e

pub pushed : (calls new : List Frame) (active level len : ℕ) (now : Standing) (links : Named Spot) → record { frames = calls; active = active } ≡ now → level ≡ (frame_at now.frames now.active).level → links ≡ map.empty
    → new ≡ calls ++ record { caller = active; level = level + 1; variables = map.empty; links = links } ∷ [] → len ≡ length new → record { frames = new; active = len - 1 } ≡ called (record { frames = calls; active = active })
pushed calls new active level len now links view up none more count =
    let frame : ℕ → Named Spot → Frame = λ l m. record { caller = active; level = l; variables = map.empty; links = m } in
    let as_standing : List Frame → ℕ → Standing = λ l i. record { frames = l; active = i } in
    let high : level + 1 ≡ suc (frame_at calls active).level = (let e = up ∙ ap (λ (s : Standing). (frame_at s.frames s.active).level) (sym view) in omega (arith, e)) in
    let last : len - 1 ≡ length calls = (let e = count ∙ ap length more ∙ length-append calls (frame (level + 1) links ∷ []) in omega (arith, e)) in
    ap (as_standing new) last ∙ ap (λ l. as_standing l (length calls)) more ∙ ap (λ l. as_standing (calls ++ frame l links ∷ []) (length calls)) high
    ∙ ap (λ m. as_standing (calls ++ frame (suc (frame_at calls active).level) m ∷ []) (length calls)) none

pub popped : (calls rest : List Frame) (active back count : ℕ) (call : Frame) → count ≡ length calls → rest ≡ take (count - 1) calls → back ≡ call.caller → Some call ≡ Some (get_or calls (count - 1) call) → 0 < length calls
    → record { frames = rest; active = back } ≡ left (record { frames = calls; active = active })
popped calls rest active back count call all fewer caller last some =
    let as_standing : List Frame → ℕ → Standing = λ l i. record { frames = l; active = i } in
    let n = length calls - 1 in
    let is : call ≡ frame_at calls n = by_frame call last ∙ ap (λ k. get_or calls (k - 1) call) all ∙ sym (frame_at-get calls n call (omega arith)) in
    ap (λ l. as_standing l back) (fewer ∙ ap (λ k. take (k - 1) calls) all) ∙ ap (as_standing (take n calls)) (caller ∙ ap (λ (f : Frame). f.caller) is)

pub set-frames : (fs : List Frame) (i : ℕ) (g : Frame) → slice_set fs i g ≡ set_frame fs i g
set-frames [] i g = refl
set-frames (f ∷ fs) zero g = refl
set-frames (f ∷ fs) (suc i) g = ap (λ l. f ∷ l) (set-frames fs i g)

-- ---- links

abbrev pub linked_at : Text → Spot → Frame → Frame
linked_at name t f = record f { links = map.insert f.links name t }

pub length-set_frame : (fs : List Frame) (i : ℕ) (g : Frame) → length (set_frame fs i g) ≡ length fs
length-set_frame [] i g = refl
length-set_frame (f ∷ fs) zero g = refl
length-set_frame (f ∷ fs) (suc i) g = ap suc (length-set_frame fs i g)

pub link_standing : (f : Standing) (name : Text) (t : Spot) → IsStanding f → t.frame ≤ f.active → link_at (links_of f.frames) t.frame t.name ≡ None → is_own (store_of map.empty f) name t ≡ false
    → IsStanding (record { frames = set_frame f.frames f.active (linked_at name t (frame_at f.frames f.active)); active = f.active })
link_standing f name t h near free own =
    let fs = f.frames in
    let i = f.active in
    let g = linked_at name t (frame_at fs i) in
    let lt : i < length (links_of fs) = (let e = length_links fs in let a = h.sound.active in omega (arith, e, a)) in
    record {
      sound = record {
        active = let e = length-set_frame fs i g in let a = h.sound.active in omega (arith, e, a);
        callers = at_set (λ j k. k.caller ≤ j) fs i g h.sound.callers (h.sound.callers i);
        tower = subst IsTower (sym (links_changed fs i name t g refl)) (linked_tower (links_of fs) i name t lt (near, free, not_own (store_of map.empty f) name t own) h.sound.tower);
      };
      levels = at_set (λ j k. k.level ≤ j) fs i g h.levels (h.levels i);
      earlier = at_set (λ j k. 0 < j → k.caller < j) fs i g h.earlier (h.earlier i);
    }

module _ (calls : List Frame) (active : ℕ) (now : Standing) (f : Frame) (view : record { frames = calls; active = active } ≡ now) (is : f ≡ get_or calls active f) (h : IsStanding (record { frames = calls; active = active })) where
  -- the list with the active frame linked
  linked_calls : (name : Text) (t : Spot) (g : Frame) → g ≡ linked_at name t f → slice_set calls active g ≡ set_frame calls active (linked_at name t (frame_at calls active))
  linked_calls name t g e = set-frames calls active g ∙ ap (set_frame calls active) (e ∙ ap (linked_at name t) (is ∙ sym (frame_at-get calls active f h.sound.active)))

  pub linked_standing : {A E : Type 0} (r : Result A E) (name : Text) (t : Spot) (g : Frame) → OnOk r (g ≡ linked_at name t f) → OnErr r (g ≡ f) → t.frame ≤ now.active → link_at (links_of now.frames) t.frame t.name ≡ None
      → is_own (store_of map.empty now) name t ≡ false → IsStanding (record { frames = slice_set calls active g; active = active })
  linked_standing (Ok x) name t g done same near free own =
      let to : List Frame → Standing = λ l. record { frames = l; active = active } in
      subst (λ l. IsStanding (to l)) (sym (linked_calls name t g done))
      (link_standing (to calls) name t h (subst (λ (s : Standing). t.frame ≤ s.active) (sym view) near) (subst (λ (s : Standing). link_at (links_of s.frames) t.frame t.name ≡ None) (sym view) free) (subst (λ (s : Standing). is_own (store_of map.empty s) name t ≡ false) (sym view) own))
  linked_standing (Err e) name t g done same near free own =
      let to : List Frame → Standing = λ l. record { frames = l; active = active } in
      subst (λ l. IsStanding (to l)) (sym (ap (slice_set calls active) (same ∙ is) ∙ set-get_or calls active f)) h

  pub linked_done : {A E : Type 0} (r : Result A E) (name : Text) (t : Spot) (g : Frame) (cs : Commands) → OnOk r (g ≡ linked_at name t f)
      → OnOk r (store_of cs (record { frames = slice_set calls active g; active = active }) ≡ with_link name t (store_of cs now))
  linked_done (Ok x) name t g cs done =
      let to : List Frame → Standing = λ l. record { frames = l; active = active } in
      ap (λ l. store_of cs (to l)) (linked_calls name t g done) ∙ ap (λ (s : Standing). with_link name t (store_of cs s)) view
  linked_done (Err e) name t g cs done = tt

-- the link of a name, by its frame
pub link_at-frame : (fs : List Frame) (i : ℕ) (n : Text) → link_at (links_of fs) i n ≡ map.get (frame_at fs i).links n
link_at-frame [] i n = sym (get-empty (slice_cmp nat_cmp) n)
link_at-frame (f ∷ fs) zero n = refl
link_at-frame (f ∷ fs) (suc i) n = link_at-frame fs i n

-- ---- levels

module _ (fs : List Frame) where
  pub up_here : (n i : ℕ) → nth 0 (chain_of n fs i) ≡ Some i
  up_here zero i = refl
  up_here (suc n) i = refl

  pub up_past : (k i : ℕ) → 0 < k → nth k (chain_of 0 fs i) ≡ None
  up_past zero i lt = absurd (omega arith)
  up_past (suc k) i lt = refl

  pub up_step : (k n i : ℕ) → 0 < k → 0 < n → nth (k - 1) (chain_of (n - 1) fs (frame_at fs i).caller) ≡ nth k (chain_of n fs i)
  up_step zero n i lt more = absurd (omega arith)
  up_step (suc k) zero i lt more = absurd (omega arith)
  up_step (suc k) (suc n) i lt more =
      let a : suc k - 1 ≡ k = omega arith in
      let b : suc n - 1 ≡ n = omega arith in
      ap (λ j. nth j (chain_of (suc n - 1) fs (frame_at fs i).caller)) a ∙ ap (λ m. nth k (chain_of m fs (frame_at fs i).caller)) b

  pub level_here : (l n i : ℕ) → (frame_at fs i).level ≡ l → of_level fs l (chain_of n fs i) ≡ Some i
  level_here l zero i e = cond-true _ _ _ (eq-eqb _ _ e)
  level_here l (suc n) i e = cond-true _ _ _ (eq-eqb _ _ e)

  pub level_past : (l i : ℕ) → ((frame_at fs i).level ≡ l → ⊥) → of_level fs l (chain_of 0 fs i) ≡ None
  level_past l i ne = cond-false _ _ _ (ne_eqb _ _ ne)

  pub level_step : (l n i : ℕ) → ((frame_at fs i).level ≡ l → ⊥) → 0 < n → of_level fs l (chain_of (n - 1) fs (frame_at fs i).caller) ≡ of_level fs l (chain_of n fs i)
  level_step l zero i ne more = absurd (omega arith)
  level_step l (suc n) i ne more =
      let b : suc n - 1 ≡ n = omega arith in
      ap (λ m. of_level fs l (chain_of m fs (frame_at fs i).caller)) b ∙ sym (cond-false _ _ _ (ne_eqb _ _ ne))

pub more_calls : (calls : List Frame) (active : ℕ) (now : Standing) → record { frames = calls; active = active } ≡ now → 1 < length now.frames → 1 < length calls
more_calls calls active now view h = subst (λ (s : Standing). 1 < length s.frames) (sym view) h
