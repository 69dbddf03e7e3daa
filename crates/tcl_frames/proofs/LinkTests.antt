-- Why a link is refused, among frames whose variables are kept apart.
use Rattle.std.proofs.Common.{◌≡◌, ℕ, zero, suc, ◌∷◌, [], true, false, not, List, None, Some, refl, sym, ap, ◌∙◌}
use Rattle.std.specs.Prelude.{is_some, ◌&&◌, ◌||◌, length}
use Rattle.std.specs.FinMap as map
use Rattle.std.proofs.lemmas.Bool.{cond-true, cond-false}
use Rattle.tcl_pages.specs.Texts.{Text}
use Rattle.tcl_meaning.specs.declared.refusal.LinkRefusal.TheVariants.{BadLevel, BadName, Itself, Exists}
use Rattle.tcl_meaning.specs.Frames.{Variables, Spot, Level, Frame, frame_at, set_frame, frame_of_level}
use Rattle.tcl_meaning.specs.Links.{links_of, link_at, spot_in, is_own, is_variable, link, link_to, link_from}
use Rattle.tcl_meaning.specs.Names.{divided_name, is_element}
use Rattle.tcl_meaning.specs.State.{Commands, Store, with_link}
use Rattle.tcl_frames.specs.Standing.{Standing, store_of, with_variables, joined}
use Rattle.tcl_frames.specs.Written.{variables_of}
use Rattle.tcl_frames.proofs.Joined.{links_joined, spot_joined, variables_joined, level_of_joined}
use Rattle.tcl_frames.proofs.Standings.{link_at-frame, linked_at, length-set_frame}

module _ (f : Standing) (vs : List Variables) (now : Standing) (view : joined f vs ≡ now) (even : length f.frames ≡ length vs) (cs : Commands) where
  abbrev s : Store
  s = store_of cs now

  pub variable_joined : (name : Text) → is_variable s name ≡ (not (is_some (link_at (links_of f.frames) f.active name)) && is_some (map.get (variables_of vs f.active) name))
  variable_joined name =
      let fs = with_variables f.frames vs in
      ap (λ (n : Standing). is_variable (store_of cs n) name) (sym view)
      ∙ ap (λ o. not (is_some o) && is_some (map.get (frame_at fs f.active).variables name)) (sym (link_at-frame fs f.active name) ∙ ap (λ ls. link_at ls f.active name) (links_joined f.frames vs))
      ∙ ap (λ v. not (is_some (link_at (links_of f.frames) f.active name)) && is_some (map.get v name)) (variables_joined f.frames vs f.active even)

  -- the active frame is the same
  pub active_is : (i : ℕ) → i ≡ f.active → i ≡ now.active
  active_is i e = e ∙ ap (λ (n : Standing). n.active) view

  module _ (level : Level) (other local : Text) where
    by_level : link s level other local ≡ link_from s (frame_of_level f.frames f.active level) other local
    unfolding link
    by_level = ap (λ o. link_from s o other local) (ap (λ (n : Standing). frame_of_level n.frames n.active level) (sym view) ∙ level_of_joined f.frames vs f.active level)

    pub bad_level : frame_of_level f.frames f.active level ≡ None → link s level other local ≡ (Some BadLevel, s)
    bad_level e = by_level ∙ ap (λ o. link_from s o other local) e

    module _ (i : ℕ) (p : Spot) (found : frame_of_level f.frames f.active level ≡ Some i) (leads : p ≡ spot_in f.frames i (divided_name other)) where
      by_place : link s level other local ≡ link_to s local (divided_name local) p
      by_place =
          by_level ∙ ap (λ o. link_from s o other local) found
          ∙ ap (link_to s local (divided_name local)) (ap (λ (n : Standing). spot_in n.frames i (divided_name other)) (sym view) ∙ spot_joined f.frames vs i (divided_name other) ∙ sym leads)

      pub itself : ((divided_name local).global || is_element (divided_name local).part) ≡ false → is_own s local p ≡ true → link s level other local ≡ (Some Itself, s)
      itself a b = by_place ∙ cond-false _ _ _ a ∙ cond-true _ _ _ b

      pub exists : ((divided_name local).global || is_element (divided_name local).part) ≡ false → is_own s local p ≡ false → is_variable s local ≡ true → link s level other local ≡ (Some Exists, s)
      exists a b c = by_place ∙ cond-false _ _ _ a ∙ cond-false _ _ _ b ∙ cond-true _ _ _ c

      pub linked : ((divided_name local).global || is_element (divided_name local).part) ≡ false → is_own s local p ≡ false → is_variable s local ≡ false → link s level other local ≡ (None, with_link local p s)
      linked a b c = by_place ∙ cond-false _ _ _ a ∙ cond-false _ _ _ b ∙ cond-false _ _ _ c

    pub bad_name : (i : ℕ) → frame_of_level f.frames f.active level ≡ Some i → ((divided_name local).global || is_element (divided_name local).part) ≡ true → link s level other local ≡ (Some BadName, s)
    bad_name i found a = by_place i (spot_in f.frames i (divided_name other)) found refl ∙ cond-true _ _ _ a

-- the links are the same
pub links_now : (f : Standing) (vs : List Variables) (now : Standing) → joined f vs ≡ now → links_of now.frames ≡ links_of f.frames
links_now f vs now view = ap (λ (n : Standing). links_of n.frames) (sym view) ∙ links_joined f.frames vs

-- ---- the frames once a link is made

linked_joined : (fs : List Frame) (vs : List Variables) (i : ℕ) (name : Text) (t : Spot)
    → with_variables (set_frame fs i (linked_at name t (frame_at fs i))) vs ≡ set_frame (with_variables fs vs) i (linked_at name t (frame_at (with_variables fs vs) i))
linked_joined [] vs i name t = refl
linked_joined (f ∷ fs) [] zero name t = refl
linked_joined (f ∷ fs) [] (suc i) name t = refl
linked_joined (f ∷ fs) (v ∷ vs) zero name t = refl
linked_joined (f ∷ fs) (v ∷ vs) (suc i) name t = ap (λ l. record f { variables = v } ∷ l) (linked_joined fs vs i name t)

pub link_made : (f new : Standing) (vs : List Variables) (now : Standing) (name : Text) (t : Spot) (cs : Commands) → joined f vs ≡ now → store_of cs new ≡ with_link name t (store_of cs f) → store_of cs (joined new vs) ≡ with_link name t (store_of cs now)
link_made f new vs now name t cs view done =
    let to : List Frame → ℕ → Store = λ l i. store_of cs (record { frames = l; active = i }) in
    ap (λ (s : Store). to (with_variables s.frames vs) s.active) done ∙ ap (λ l. to l f.active) (linked_joined f.frames vs f.active name t) ∙ ap (λ (n : Standing). with_link name t (store_of cs n)) view

pub link_even : (f new : Standing) (vs : List Variables) (name : Text) (t : Spot) → store_of map.empty new ≡ with_link name t (store_of map.empty f) → length f.frames ≡ length vs → length new.frames ≡ length vs
link_even f new vs name t done even = ap (λ (s : Store). length s.frames) done ∙ length-set_frame f.frames f.active _ ∙ even
