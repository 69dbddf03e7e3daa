-- Links that pages make, one after another: upvar(n), global(n).
use Rattle.std.proofs.Common.{◌≡◌, ◌≢◌, ℕ, zero, suc, ◌-◌, ◌*◌, ◌/◌, ◌%◌, ◌≤◌, ◌<◌, ◌==◌, Bool, true, false, not, ◌||◌, List, [], ◌∷◌, length, get_or, take, drop, take_all, Option, None, Some, Result, Ok, Err, refl, sym, ap, subst, ◌∙◌, arith}
use Rattle.std.proofs.lemmas.Bool.{ne_eqb}
use Rattle.std.proofs.lemmas.Option.{none-some}
use Rattle.std.specs.Prelude.{if◌then◌else◌}
use Rattle.tcl_chars.specs.Texts.{literal}
use Rattle.tcl_frames.specs.Refusals.{RefusesLink}
use Rattle.tcl_frames.specs.Standing.{Standing, store_of}
use Rattle.tcl_frames.specs.declared.fault.LinkFault.{LinkFault}
use Rattle.tcl_frames.specs.declared.fault.LinkFault.TheVariants as fault
use Rattle.tcl_meaning.specs.declared.refusal.LinkRefusal.{LinkRefusal}
use Rattle.tcl_meaning.specs.declared.refusal.LinkRefusal.TheVariants.{BadName, Itself, Exists}
use Rattle.tcl_meaning.specs.Asking.{Asks}
use Rattle.tcl_meaning.specs.Completions.{Completion, nothing}
use Rattle.tcl_meaning.specs.Effects.{does}
use Rattle.tcl_meaning.specs.Frames.{Level, frame_of_level}
use Rattle.tcl_meaning.specs.Links.{Linked, link, link_from, is_own, is_variable, spot_in}
use Rattle.tcl_meaning.specs.Names.{divided_name, is_element}
use Rattle.tcl_meaning.specs.ProcedurePages.{cant_link, if_linked, link_name, link_pairs, link_all, link_globals, global_at, global_page, upvar_by, upvar_page}
use Rattle.tcl_meaning.specs.Procedures.{is_odd}
use Rattle.tcl_meaning.specs.State.{Commands, Store, active_frame, with_store, with_link}
use Rattle.tcl_meaning.specs.Tasks.{Done}
use Rattle.tcl_meaning.specs.Value.{Has, Fails}
use Rattle.tcl_pages.specs.Texts.{Text}
use Rattle.tcl_procs.specs.Linking.{global_link}
use Rattle.tcl_steps.proofs.Endings.{has_on, fails_on, then_becomes}
use Rattle.tcl_steps.specs.Comes.{Becomes, Comes, state_of}
use Rattle.tcl_steps.specs.Ends.{Ends, EndsDone}
use Rattle.tcl_steps.specs.declared.stop.Stop.{Stop}
use Rattle.tcl_steps.specs.declared.stop.Stop.TheVariants as stop

-- ---- one link

abbrev by_tests : (named own there : Bool) → Store → Store → Linked
by_tests named own there s t = if named then (Some BadName, s) else if own then (Some Itself, s) else if there then (Some Exists, s) else (None, t)

kept_by : (named own there : Bool) (s t : Store) (r : LinkRefusal) → (by_tests named own there s t).0 ≡ Some r → (by_tests named own there s t).1 ≡ s
kept_by true own there s t r e = refl
kept_by false true there s t r e = refl
kept_by false false true s t r e = refl
kept_by false false false s t r e = absurd (none-some r e)

kept_from : (s : Store) (o : Option ℕ) (other local : Text) (r : LinkRefusal) → (link_from s o other local).0 ≡ Some r → (link_from s o other local).1 ≡ s
kept_from s None other local r e = refl
kept_from s (Some i) other local r e =
    let n = divided_name local in
    let target = spot_in s.frames i (divided_name other) in
    kept_by (n.global || is_element n.part) (is_own s local target) (is_variable s local) s (with_link local target s) r e

-- what is refused leaves what scripts keep as it was
kept : (s : Store) (level : Level) (other local : Text) (r : LinkRefusal) → (link s level other local).0 ≡ Some r → (link s level other local).1 ≡ s
unfolding link
kept s level other local r e = kept_from s (frame_of_level s.frames s.active level) other local r e

refused_by : (o : Option LinkRefusal) (r : LinkFault) (refusal : LinkRefusal) → r ≡ fault.Refused refusal → RefusesLink o r → o ≡ Some refusal
refused_by o fault.Memory refusal e h = cc
refused_by o (fault.Refused other) refusal e h = let k : other ≡ refusal = cc in h ∙ ap Some k

module _ (word : Text) (level : Level) (other local : Text) (f : Standing) where
  pub link_refused : (r : LinkFault) (refusal : LinkRefusal) → r ≡ fault.Refused refusal → ((cs : Commands) → RefusesLink (link (store_of cs f) level other local).0 r)
      → Comes (link_name word level other local) f (Fails (cant_link word local refusal)) f
  link_refused r refusal e h = record {
    same = λ cs ch n.
        let s = store_of cs f in
        let k : (link s level other local).0 ≡ Some refusal = refused_by (link s level other local).0 r refusal e (h cs) in
        ap (λ (o : Option LinkRefusal). does (if_linked word local o) (with_store (link s level other local).1 (state_of cs ch n f))) k
        ∙ ap (λ (t : Store). does (if_linked word local (Some refusal)) (with_store t (state_of cs ch n f))) (kept s level other local refusal k);
  }

-- ---- lists as code divides them

one_front : {X : Type 0} (xs : List X) (x : X) → 1 ≤ length xs → x ≡ get_or xs 0 x → xs ≡ x ∷ take (length xs - 1) (drop 1 xs)
one_front [] x h e = absurd (omega arith)
one_front (y ∷ ys) x h e = ap (λ z. z ∷ ys) (sym e) ∙ sym (ap (λ zs. x ∷ zs) (take_all (length (y ∷ ys) - 1) ys (omega arith)))

two_front : {X : Type 0} (xs : List X) (x y : X) → 2 ≤ length xs → x ≡ get_or xs 0 x → y ≡ get_or xs 1 y → xs ≡ x ∷ y ∷ take (length xs - 2) (drop 2 xs)
two_front [] x y h e k = absurd (omega arith)
two_front (a ∷ []) x y h e k = absurd (omega arith)
two_front (a ∷ b ∷ ys) x y h e k =
    ap (λ z. z ∷ b ∷ ys) (sym e) ∙ ap (λ z. x ∷ z ∷ ys) (sym k) ∙ sym (ap (λ zs. x ∷ y ∷ zs) (take_all (length (a ∷ b ∷ ys) - 2) ys (omega arith)))

-- ---- one after another

module _ (page : Asks) (word : Text) (level : Level) (left : List Text) (other local : Text) (before f g : Standing)
    (two : 2 ≤ length left) (first : other ≡ get_or left 0 other) (second : local ≡ get_or left 1 local)
    (so_far : Becomes page before (link_pairs word level left) f) where
  abbrev pairs_left : List Text
  pairs_left = take (length left - 2) (drop 2 left)

  pair_here : Becomes page before (link_pairs word level (other ∷ local ∷ pairs_left)) f
  pair_here = subst (λ (ts : List Text). Becomes page before (link_pairs word level ts) f) (two_front left other local two first second) so_far

  pub pair_linked : Comes (link_name word level other local) f (Has tt) g → Becomes page before (link_pairs word level pairs_left) g
  pair_linked h = then_becomes pair_here (has_on (link_name word level other local) (λ u. link_pairs word level pairs_left) f g tt h)

  pub pair_stops : (s : Stop) → Ends (link_name word level other local) f (Err s) g → EndsDone page before (Err s) g
  pair_stops (stop.Error c) h = then_becomes pair_here (fails_on (link_name word level other local) (λ u. link_pairs word level pairs_left) f g c h)
  pair_stops stop.Memory h = tt

-- no pair is left
pub pairs_done : (page : Asks) (word : Text) (level : Level) (left : List Text) (c : Completion) (before f : Standing) → length left < 2 → c ≡ nothing
    → Becomes page before (link_pairs word level left) f → Comes page before (Has (Done c)) f
pairs_done page word level [] c before f h e so_far = subst (λ d. Comes page before (Has (Done d)) f) (sym e) so_far
pairs_done page word level (a ∷ []) c before f h e so_far = subst (λ d. Comes page before (Has (Done d)) f) (sym e) so_far
pairs_done page word level (a ∷ b ∷ left) c before f h e so_far = absurd (omega arith)

module _ (page : Asks) (left : List Text) (name : Text) (before f g : Standing)
    (one : 1 ≤ length left) (first : name ≡ get_or left 0 name)
    (so_far : Becomes page before (link_globals left) f) where
  abbrev names_left : List Text
  names_left = take (length left - 1) (drop 1 left)

  global_here : Becomes page before (link_globals (name ∷ names_left)) f
  global_here = subst (λ (ts : List Text). Becomes page before (link_globals ts) f) (one_front left name one first) so_far

  pub global_linked : Comes (global_link name) f (Has tt) g → Becomes page before (link_globals names_left) g
  global_linked h = then_becomes global_here (has_on (global_link name) (λ u. link_globals names_left) f g tt h)

  pub global_stops : (s : Stop) → Ends (global_link name) f (Err s) g → EndsDone page before (Err s) g
  global_stops (stop.Error c) h = then_becomes global_here (fails_on (global_link name) (λ u. link_globals names_left) f g c h)
  global_stops stop.Memory h = tt

-- ---- pages

as_page : (page rest : Asks) (f g h : Standing) (r : Result Completion Stop) → Becomes page f rest g → EndsDone rest g r h → EndsDone page f r h
as_page page rest f g h (Ok c) b e = then_becomes b e
as_page page rest f g h (Err (stop.Error c)) b e = then_becomes b e
as_page page rest f g h (Err stop.Memory) b e = tt

same_page : (page rest : Asks) (f g : Standing) (r : Result Completion Stop) → page ≡ rest → EndsDone rest f r g → EndsDone page f r g
same_page page rest f g r e h = subst (λ (p : Asks). EndsDone p f r g) (sym e) h

-- global(n)

abbrev on_level : ℕ → List Text → Asks
on_level n ts = global_at (n == 0) ts

module _ (ts : List Text) (f : Standing) (n : ℕ) (is : (cs : Commands) → n ≡ (active_frame (store_of cs f)).level) where
  at_level : Becomes (global_page ts) f (on_level n ts) f
  unfolding global_page
  at_level = record { same = λ cs ch u. ap (λ (m : ℕ). does (on_level m ts) (state_of cs ch u f)) (sym (is cs)) }

  pub global_outside : n ≡ 0 → Comes (global_page ts) f (Has (Done nothing)) f
  global_outside e = then_becomes at_level (subst (λ (m : ℕ). Comes (on_level m ts) f (Has (Done nothing)) f) (sym e) (record { same = λ cs ch u. refl }))

  pub global_inside : (g : Standing) (r : Result Completion Stop) → n ≢ 0 → EndsDone (link_globals ts) f r g → EndsDone (global_page ts) f r g
  global_inside g r e h =
      let inside : Becomes (global_page ts) f (link_globals ts) f = then_becomes at_level (record { same = λ cs ch u. ap (λ (b : Bool). does (global_at b ts) (state_of cs ch u f)) (ne_eqb n 0 e) }) in
      as_page (global_page ts) (link_globals ts) f f g r inside h

-- upvar(n)

even_words : (n : ℕ) (ts : List Text) → length ts ≡ 2 * n → is_odd ts ≡ false
even_words zero [] h = refl
even_words zero (t ∷ ts) h = absurd (omega arith)
even_words (suc n) [] h = absurd (omega arith)
even_words (suc n) (t ∷ []) h = absurd (omega arith)
even_words (suc n) (a ∷ b ∷ ts) h = ap (λ z. not (not z)) (even_words n ts (omega arith))

upvar_even : (n : ℕ) (ts : List Text) → length ts ≡ 2 * n → upvar_page ts ≡ link_all (literal "1") ts
unfolding upvar_page
upvar_even n [] h = refl
upvar_even n (t ∷ ts) h = ap (λ b. upvar_by b (t ∷ ts)) (even_words n (t ∷ ts) h)

upvar_odd : (n : ℕ) (t : Text) (ts : List Text) → length ts ≡ 2 * n → upvar_page (t ∷ ts) ≡ link_all t ts
unfolding upvar_page
upvar_odd n t ts h = ap (λ b. upvar_by (not b) (t ∷ ts)) (even_words n ts h)

module _ (ws : List Text) (f g : Standing) (r : Result Completion Stop) where
  pub at_caller : length ws % 2 ≡ 0 → EndsDone (link_all (literal "1") ws) f r g → EndsDone (upvar_page ws) f r g
  at_caller e h = same_page (upvar_page ws) (link_all (literal "1") ws) f g r (upvar_even (length ws / 2) ws (omega (arith, e))) h

  pub at_named : (word : Text) → length ws % 2 ≢ 0 → 1 ≤ length ws → word ≡ get_or ws 0 word
      → EndsDone (link_all word (take (length ws - 1) (drop 1 ws))) f r g → EndsDone (upvar_page ws) f r g
  at_named word odd one first h =
      let ts = take (length ws - 1) (drop 1 ws) in
      let all : ws ≡ word ∷ ts = one_front ws word one first in
      let m : length ws ≡ suc (length ts) = ap length all in
      same_page (upvar_page ws) (link_all word ts) f g r (ap upvar_page all ∙ upvar_odd (length ws / 2) word ts (omega (arith, m, odd))) h
