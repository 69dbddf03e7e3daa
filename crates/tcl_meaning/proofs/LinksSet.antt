-- One link more, among the links of all frames.
use Rattle.std.proofs.Common.{ℕ, zero, suc, List, [], ◌∷◌, Bool, true, false, cond, Some, ◌≡◌, ◌<◌, ◌≤◌, refl, ap, sym, ◌∙◌, ⊎_elim, ◌+◌, arith, length}
use Rattle.std.specs.Prelude.{is_some}
use Rattle.std.specs.FinMap as map
use Rattle.std.specs.FinMap.{get-insert, len-insert}
use Rattle.std.specs.Ordering.{is_eq, nat_cmp}
use Rattle.std.specs.Cmp.Lexicographic.{slice_cmp, nat_list_cmp_total, bytes_decides}
use Rattle.std.proofs.lemmas.Map.Text.{is_eq-slice_cmp}
use Rattle.std.proofs.lemmas.Bool.{cases_Bool}
use Rattle.tcl_names.specs.Named.{Named}
use Rattle.tcl_meaning.specs.Frames.{Spot, Frame, frame_at, set_frame}
use Rattle.tcl_meaning.specs.Links.{link_at, links_of, room}

-- the links once the name n of the frame i is linked to t
abbrev pub links_set : List (Named Spot) → ℕ → List ℕ → Spot → List (Named Spot)
links_set [] i n t = []
links_set (m ∷ ms) zero n t = map.insert m n t ∷ ms
links_set (m ∷ ms) (suc i) n t = m ∷ links_set ms i n t

tie : (k : List ℕ) → is_eq (slice_cmp nat_cmp k k) ≡ true
tie k = is_eq-slice_cmp k k ∙ (bytes_decides k k).1 refl

split : (q k : List ℕ) → (q ≡ k → ⊥) → is_eq (slice_cmp nat_cmp q k) ≡ false
split q k ne = ⊎_elim (λ y. absurd (ne ((bytes_decides q k).0 (sym (is_eq-slice_cmp q k) ∙ y)))) (λ n. n) (cases_Bool (is_eq (slice_cmp nat_cmp q k)))

module _ (n : List ℕ) (t : Spot) where
  pub set_here : (ls : List (Named Spot)) (f : ℕ) → f < length ls → link_at (links_set ls f n t) f n ≡ Some t
  set_here [] f lt = absurd (omega arith)
  set_here (m ∷ ms) zero lt = get-insert nat_list_cmp_total m n t n ∙ ap (λ b. cond b (Some t) (map.get m n)) (tie n)
  set_here (m ∷ ms) (suc f) lt = set_here ms f (omega arith)

  pub set_others : (ls : List (Named Spot)) (f i : ℕ) (q : List ℕ) → ((i ≡ f) × (q ≡ n) → ⊥) → link_at (links_set ls f n t) i q ≡ link_at ls i q
  set_others [] f i q d = refl
  set_others (m ∷ ms) zero zero q d = get-insert nat_list_cmp_total m n t q ∙ ap (λ b. cond b (Some t) (map.get m q)) (split q n (λ e. d (refl, e)))
  set_others (m ∷ ms) zero (suc i) q d = refl
  set_others (m ∷ ms) (suc f) zero q d = refl
  set_others (m ∷ ms) (suc f) (suc i) q d = set_others ms f i q (λ p. d (ap suc p.0, p.1))

  more : (b : Bool) (a : ℕ) → cond b a (a + 1) ≡ a + cond b 0 1
  more true a = omega arith
  more false a = refl

  pub set_above : (ls : List (Named Spot)) (f i : ℕ) → f < length ls → f ≤ i → room (links_set ls f n t) i ≡ room ls i + cond (is_some (link_at ls f n)) 0 1
  set_above [] f i lt le = absurd (omega arith)
  set_above (m ∷ ms) zero zero lt le = len-insert nat_list_cmp_total m n t ∙ more (is_some (map.get m n)) (map.len m)
  set_above (m ∷ ms) zero (suc i) lt le =
      let e = len-insert nat_list_cmp_total m n t ∙ more (is_some (map.get m n)) (map.len m) in omega (arith, e)
  set_above (m ∷ ms) (suc f) zero lt le = absurd (omega arith)
  set_above (m ∷ ms) (suc f) (suc i) lt le = let e = set_above ms f i (omega arith) (omega arith) in omega (arith, e)

  pub set_below : (ls : List (Named Spot)) (f i : ℕ) → i < f → room (links_set ls f n t) i ≡ room ls i
  set_below [] f i lt = refl
  set_below (m ∷ ms) zero i lt = absurd (omega arith)
  set_below (m ∷ ms) (suc f) zero lt = refl
  set_below (m ∷ ms) (suc f) (suc i) lt = ap (λ k. map.len m + k) (set_below ms f i (omega arith))

-- ---- the links of frames of which one is changed

pub links_changed : (fs : List Frame) (i : ℕ) (n : List ℕ) (t : Spot) (g : Frame) → g.links ≡ map.insert (frame_at fs i).links n t → links_of (set_frame fs i g) ≡ links_set (links_of fs) i n t
links_changed [] i n t g h = refl
links_changed (f ∷ fs) zero n t g h = ap (λ m. m ∷ links_of fs) h
links_changed (f ∷ fs) (suc i) n t g h = ap (λ ms. f.links ∷ ms) (links_changed fs i n t g h)

pub links_left : (fs : List Frame) (i : ℕ) (g : Frame) → g.links ≡ (frame_at fs i).links → links_of (set_frame fs i g) ≡ links_of fs
links_left [] i g h = refl
links_left (f ∷ fs) zero g h = ap (λ m. m ∷ links_of fs) h
links_left (f ∷ fs) (suc i) g h = ap (λ ms. f.links ∷ ms) (links_left fs i g h)
