-- Whatever a program does, the active frame is there, no frame is called by a later one, and links end.
use Rattle.std.proofs.Common.{◌≡◌, ℕ, zero, suc, ◌+◌, ◌<◌, ◌≤◌, refl, sym, ap, ◌∙◌, subst, arith, List, [], ◌∷◌, ◌++◌, length, Bool, true, false, cond, ⊎_elim, Option, Some, None}
use Rattle.std.specs.FinMap as map
use Rattle.std.specs.FinMap.{get-empty}
use Rattle.std.specs.Ordering.{nat_cmp}
use Rattle.std.specs.Cmp.Lexicographic.{slice_cmp, bytes_decides}
use Rattle.std.proofs.lemmas.Bool.{and_from}
use Rattle.std.proofs.lemmas.Bool.Decides.{eqb_tells}
use mathlib.Core.Bool.{false≢true}
use Rattle.std.specs.Prelude.{nat_eq, ◌==◌}
use Rattle.tcl_pages.specs.Texts.{Text}
use Rattle.tcl_meaning.specs.Beginnings.{calls, SameFrames, FramesStay, SoundAfter}
use Rattle.tcl_meaning.specs.Completions.{Completion}
use Rattle.tcl_meaning.specs.Effects.{Scope, Here, At, Within, Prog, Give, Look, Make, Link, Write, Take, HasEnded, Exit, Call, Got, Gives, Broke, Exits, Untold, on_got, made, linked, wrote, took, take_from, or_active, entered, returned, exec, Plan, Now, Costs, paid, start, level, outcome}
use Rattle.tcl_meaning.specs.Frames.{Variables, Spot, Frame, frame_at, chain_of, nth, of_level, Level, up, at, frame_of_level}
use Rattle.tcl_meaning.specs.Input.{Want, input_taken}
use Rattle.tcl_meaning.specs.Links.{links_of, link_at, is_own, link, link_from, spot_in, home, IsTower, IsSound}
use Rattle.tcl_meaning.specs.Names.{Name, divided_name}
use Rattle.tcl_meaning.specs.State.{Store, Change, set_variable, drop_variable, set_command, drop_command, changed, State, remains, with_units}
use Rattle.tcl_meaning.specs.Run.{first_store}
use Rattle.tcl_meaning.proofs.Frames.{changed_frames, linked_frames, returned_frames, level_stays, Leaves}
use Rattle.tcl_meaning.proofs.Linking.{link_is}
use Rattle.tcl_meaning.proofs.LinksSet.{links_changed, links_left}
use Rattle.tcl_meaning.proofs.OneLinkMore.{linked_tower, ends_none}
use Rattle.tcl_meaning.proofs.Towers.{place_ends, place_down, take_tower, more_tower}

-- ---- frames that are called as before

abbrev called_at : List (ℕ × ℕ) → ℕ → ℕ
called_at [] i = 0
called_at (c ∷ cs) zero = c.0
called_at (c ∷ cs) (suc i) = called_at cs i

called_same : (fs : List Frame) (i : ℕ) → (frame_at fs i).caller ≡ called_at (calls fs) i
called_same [] i = refl
called_same (f ∷ fs) zero = refl
called_same (f ∷ fs) (suc i) = called_same fs i

pub length_calls : (fs : List Frame) → length (calls fs) ≡ length fs
length_calls [] = refl
length_calls (f ∷ fs) = ap suc (length_calls fs)

pub length_links : (fs : List Frame) → length (links_of fs) ≡ length fs
length_links [] = refl
length_links (f ∷ fs) = ap suc (length_links fs)

sound_by : (s t : Store) → IsSound s → SameFrames s t → IsTower (links_of t.frames) → IsSound t
sound_by s t h k tower = record {
  active =
      let less = h.active in
      let same = k.active in
      let one = length_calls s.frames in
      let two = length_calls t.frames in
      let both = ap length k.stack in omega (arith, less, same, one, two, both);
  callers = λ i.
      let le = h.callers i in
      let one = called_same s.frames i in
      let two = called_same t.frames i in
      let both = ap (λ cs. called_at cs i) k.stack in omega (arith, le, one, two, both);
  tower = tower;
}

changed_links : (ch : Change) (s : Store) → links_of (changed ch s).frames ≡ links_of s.frames
changed_links (set_variable i n v) s = links_left s.frames i _ refl
changed_links (drop_variable i n) s = links_left s.frames i _ refl
changed_links (set_command n c) s = refl
changed_links (drop_command n) s = refl

-- ---- the frame of a level is no later one

some_is : (i j : ℕ) → Some i ≡ Some j → i ≡ j
some_is i j h = ap (λ (o : Option ℕ). or_active o 0) h

module _ (fs : List Frame) (callers : (i : ℕ) → (frame_at fs i).caller ≤ i) where
  nth_down : (k n i j : ℕ) → nth k (chain_of n fs i) ≡ Some j → j ≤ i
  nth_down zero zero i j h = let e = some_is i j h in omega (arith, e)
  nth_down (suc k) zero i j h = absurd cc
  nth_down zero (suc n) i j h = let e = some_is i j h in omega (arith, e)
  nth_down (suc k) (suc n) i j h =
      let c = callers i in
      let r = nth_down k n (frame_at fs i).caller j h in omega (arith, c, r)

  by_test : (b : Bool) (i j : ℕ) (o : Option ℕ) → (o ≡ Some j → j ≤ i) → cond b (Some i) o ≡ Some j → j ≤ i
  by_test true i j o k h = let e = some_is i j h in omega (arith, e)
  by_test false i j o k h = k h

  of_level_down : (l n i j : ℕ) → of_level fs l (chain_of n fs i) ≡ Some j → j ≤ i
  of_level_down l zero i j h = by_test ((frame_at fs i).level == l) i j None (λ e. absurd cc) h
  of_level_down l (suc n) i j h =
      by_test ((frame_at fs i).level == l) i j (of_level fs l (chain_of n fs (frame_at fs i).caller))
      (λ e. let c = callers i in let r = of_level_down l n (frame_at fs i).caller j e in omega (arith, c, r)) h

  found_down : (level : Level) (i j : ℕ) → frame_of_level fs i level ≡ Some j → j ≤ i
  found_down (up k) i j h = nth_down k (frame_at fs i).level i j h
  found_down (at l) i j h = of_level_down l (frame_at fs i).level i j h

  active_down : (level : Level) (i : ℕ) → or_active (frame_of_level fs i level) i ≤ i
  active_down level i = elim (frame_of_level fs i level) as (λ o. frame_of_level fs i level ≡ o → or_active o i ≤ i) [
    | None ↦ λ e. omega arith
    | Some j ↦ λ e. found_down level i j e
  ] refl

-- ---- links

same_number : (i j : ℕ) → i ≡ j → nat_eq i j ≡ true
same_number i j e = ⊎_elim (λ y. y.0) (λ n. absurd (n.1 e)) (eqb_tells i j)

pub not_own : (s : Store) (local : Text) (t : Spot) → is_own s local t ≡ false → (t.frame ≡ s.active) × (t.name ≡ local) → ⊥
not_own s local t h p = false≢true (sym h ∙ and_from _ _ (same_number t.frame s.active p.0) ((bytes_decides t.name local).1 p.1))

home_down : (i : ℕ) (n : Name) → home i n ≤ i
home_down i n = elim n.global as (λ b. cond b 0 i ≤ i) [ true ↦ omega arith | false ↦ omega arith ]

module _ (s : Store) (h : IsSound s) where
  link_tower : (o : Option ℕ) (other local : Text) → ((i : ℕ) → o ≡ Some i → i ≤ s.active) → IsTower (links_of (link_from s o other local).1.frames)
  link_tower None other local k = h.tower
  link_tower (Some i) other local k =
      let target = spot_in s.frames i (divided_name other) in
      let there : s.active < length (links_of s.frames) = let a = h.active in let e = length_links s.frames in omega (arith, a, e) in
      let near : target.frame ≤ s.active =
      let a = place_down s.frames h.tower (record { frame = home i (divided_name other); name = (divided_name other).base; part = (divided_name other).part }) in
      let b = home_down i (divided_name other) in
      let c = k i refl in omega (arith, a, b, c) in
      link_is (λ t. IsTower (links_of t.frames)) s local (divided_name local) target h.tower
      (λ own. subst IsTower (sym (links_changed s.frames s.active local target _ refl))
      (linked_tower (links_of s.frames) s.active local target there (near, place_ends s.frames h.tower _, not_own s local target own) h.tower))

link_sound : (s : State) → IsSound s.store → (level : Level) (other local : Text) → IsSound (linked level other local s).store
unfolding link
link_sound s h level other local =
    sound_by s.store (linked level other local s).store h (linked_frames s level other local)
    (link_tower s.store h (frame_of_level s.store.frames s.store.active level) other local (λ i e. found_down s.store.frames h.callers level s.store.active i e))

change_sound : (ch : Change) (s : Store) → IsSound s → IsSound (changed ch s)
change_sound ch s h = sound_by s (changed ch s) h (changed_frames ch s) (subst IsTower (sym (changed_links ch s)) h.tower)

-- ---- frames that are entered and left

more_callers : (fs : List Frame) (f : Frame) (b i : ℕ) → f.caller ≤ b + length fs → ((j : ℕ) → (frame_at fs j).caller ≤ b + j) → (frame_at (fs ++ f ∷ []) i).caller ≤ b + i
more_callers [] f b zero h k = h
more_callers [] f b (suc i) h k = omega arith
more_callers (g ∷ fs) f b zero h k = k zero
more_callers (g ∷ fs) f b (suc i) h k =
    let r = more_callers fs f (suc b) i (omega (arith, h)) (λ j. let e = k (suc j) in omega (arith, e)) in omega (arith, r)

one_more : (fs : List Frame) (f : Frame) → length fs < length (fs ++ f ∷ [])
one_more [] f = omega arith
one_more (g ∷ fs) f = let r = one_more fs f in omega (arith, r)

called_later : (fs : List Frame) (f : Frame) (i : ℕ) → f.caller ≤ length fs → ((j : ℕ) → (frame_at fs j).caller ≤ j) → (frame_at (fs ++ f ∷ []) i).caller ≤ i
called_later fs f i h k = let r = more_callers fs f 0 i (omega (arith, h)) (λ j. let e = k j in omega (arith, e)) in omega (arith, r)

entered_sound : (scope : Scope) (s : State) → IsSound s.store → IsSound (entered scope s).store
entered_sound Here s h = h
entered_sound (At level) s h = record {
  active = let a = h.active in let b = active_down s.store.frames h.callers level s.store.active in omega (arith, a, b);
  callers = h.callers;
  tower = h.tower;
}
entered_sound (Within vs) s h = record {
  active = one_more s.store.frames _;
  callers = λ i. let a = h.active in called_later s.store.frames _ i (omega (arith, a)) h.callers;
  tower = more_tower s.store.frames _ refl h.tower;
}

returned_tower : (scope : Scope) (s t : State) → IsSound t.store → IsTower (links_of (returned scope s t).store.frames)
returned_tower Here s t h = h.tower
returned_tower (At level) s t h = h.tower
returned_tower (Within vs) s t h = take_tower (length s.store.frames) t.store.frames h.tower

returned_sound : (scope : Scope) (s t : State) → IsSound s.store → SameFrames (entered scope s).store t.store → IsSound t.store → IsSound (returned scope s t).store
returned_sound scope s t h k g = sound_by s.store (returned scope s t).store h (returned_frames scope s t k) (returned_tower scope s t g)

-- ---- runs

first_frame : (fs : List Frame) → 0 < length fs → IsTower (links_of fs) → IsTower (links_of (frame_at fs 0 ∷ []))
first_frame [] h tower = absurd (omega arith)
first_frame (f ∷ fs) h tower = take_tower 1 (f ∷ fs) tower

remains_tower : (s : State) → IsSound s.store → IsTower (links_of ((remains s).globals ∷ []))
remains_tower s h = first_frame s.store.frames (let a = h.active in omega (arith, a)) h.tower

-- a way to run tasks that keeps it so
abbrev KeepsSound : {T : Type 0} → (T → State → Got Completion) → Type 0
KeepsSound {T} run = (task : T) (s : State) → IsSound s.store → SoundAfter (run task s)

on_got_sound : {A B : Type 0} (r : Got A) (f : A → State → Got B) → SoundAfter r → ((a : A) (t : State) → r ≡ Gives a t → IsSound t.store → SoundAfter (f a t)) → SoundAfter (on_got r f)
on_got_sound (Gives a t) f h k = k a t refl h
on_got_sound (Broke x) f h k = h
on_got_sound (Exits n x) f h k = h
on_got_sound (Untold x) f h k = tt

take_from_sound : {A : Type 0} (want : Want) (i : Option Text) (s : State) (f : Text → State → Got A) → ((t : Text) (u : State) → u.store ≡ s.store → SoundAfter (f t u)) → SoundAfter (take_from want i s f)
take_from_sound want None s f k = tt
take_from_sound want (Some cs) s f k = k (input_taken want cs) (took want cs s) refl

module _ {T : Type 0} (run : T → State → Got Completion) (leaves : Leaves run) (keeps : KeepsSound run) where
  exec_sound : {A : Type 0} (p : Prog T A) (s : State) → IsSound s.store → SoundAfter (exec run p s)
  exec_sound (Give a) s h = h
  exec_sound (Look f) s h = exec_sound (f s.store) s h
  exec_sound (Make ch p) s h = exec_sound p (made ch s) (change_sound ch s.store h)
  exec_sound (Link level other local f) s h = exec_sound (f (link s.store level other local).0) (linked level other local s) (link_sound s h level other local)
  exec_sound (Write o t p) s h = exec_sound p (wrote o t s) h
  exec_sound (Take want f) s h = take_from_sound want s.channels.input s (λ t after. exec run (f t) after) (λ t u e. exec_sound (f t) u (subst IsSound (sym e) h))
  exec_sound (HasEnded f) s h = exec_sound (f s.channels.met_end) s h
  exec_sound (Exit n) s h = remains_tower s h
  exec_sound (Call scope task f) s h =
      on_got_sound (run task (entered scope s)) (λ c after. exec run (f c) (returned scope s after)) (keeps task (entered scope s) (entered_sound scope s h))
      (λ c t e g. exec_sound (f c) (returned scope s t) (returned_sound scope s t h (subst (λ r. FramesStay (entered scope s).store r) e (leaves task (entered scope s))) g))

  paid_sound : (p : Prog T Completion) (s : State) (n : ℕ) → IsSound s.store → SoundAfter (paid run p s n)
  paid_sound p s zero h = remains_tower s h
  paid_sound p s (suc n) h = exec_sound p (with_units n s) h

  start_sound : (p : Plan T) (s : State) → IsSound s.store → SoundAfter (start run p s)
  start_sound (Now c) s h = h
  start_sound (Costs p) s h = paid_sound p s s.units h

module _ {T : Type 0} (plan : T → Plan T) where
  level_sound : (k : ℕ) → KeepsSound (level plan k)
  level_sound zero task s h = remains_tower s h
  level_sound (suc k) task s h = start_sound (level plan k) (level_stays plan k) (level_sound k) (plan task) s h

  pub outcome_sound : KeepsSound (outcome plan)
  unfolding outcome
  outcome_sound task s h = level_sound (suc s.units) task s h

-- ---- the beginning

no_links : (i : ℕ) (m : Text) → link_at (map.empty ∷ []) i m ≡ None
no_links zero m = get-empty (slice_cmp nat_cmp) m
no_links (suc i) m = refl

pub first_sound : (vs : Variables) → IsSound (first_store vs)
first_sound vs = record {
  active = omega arith;
  callers = λ i. first_caller i;
  tower = record { down = λ i m t at. absurd (let e : None ≡ Some t = sym (no_links i m) ∙ at in cc); end = λ i m. ends_none (map.empty ∷ []) _ i m (no_links i m) };
}
  where
    first_caller : (i : ℕ) → (frame_at (first_store vs).frames i).caller ≤ i
    first_caller zero = omega arith
    first_caller (suc i) = omega arith
