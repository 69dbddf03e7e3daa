-- How pages end that change arrays.
use Rattle.std.proofs.Common.{◌≡◌, ◌≢◌, ℕ, IfOk, List, [], ◌∷◌, length, get_or, Option, Some, None, Result, Ok, Err, refl, sym, ap, subst, arith}
use Rattle.tcl_arrays.specs.Changes.{Makes, changed_if, Leaves, Finishes}
use Rattle.tcl_chars.specs.Texts.{literal, text_of}
use Rattle.tcl_chars.specs.declared.fault.Fault.{Fault}
use Rattle.tcl_chars.specs.declared.fault.Fault.TheVariants as fault
use Rattle.tcl_frames.specs.Standing.{Standing, store_of, applied}
use Rattle.tcl_meaning.specs.Arrays.{array_set, array_unset}
use Rattle.tcl_meaning.specs.Asking.{Asks, done}
use Rattle.tcl_meaning.specs.Completions.{Completion, nothing, failure, wrong_words}
use Rattle.tcl_meaning.specs.Effects.{Gives, does}
use Rattle.tcl_meaning.specs.State.{Commands, Channels, Store, Change}
use Rattle.tcl_meaning.specs.Tasks.{Done}
use Rattle.tcl_meaning.specs.Value.{◌>>=◌, judged, make}
use Rattle.tcl_meaning.specs.VariablePages.{array_set_page, array_unset_page, make_some}
use Rattle.tcl_pages.specs.Answers.{Answer}
use Rattle.tcl_pages.specs.Texts.{Text}
use Rattle.tcl_steps.specs.Comes.{Comes, state_of}
use Rattle.tcl_steps.specs.Ends.{Does, first_step}

-- ---- array set

-- what is done with the change
abbrev by_change : Answer Change → Asks
by_change a = judged a >>= λ ch. make ch >>= λ _. done nothing

abbrev store_or : Store → Result Store Text → Store
store_or s (Ok t) = t
store_or s (Err message) = s

made : (a : Answer Change) (f g : Standing) (cs : Commands) (channels : Channels) (units : ℕ) → applied a (store_of cs f) ≡ Ok (store_of cs g)
    → does (first_step (by_change a)) (state_of cs channels units f) ≡ Gives (Done nothing) (state_of cs channels units g)
made (Ok ch) f g cs channels units h = ap (λ r. Gives (Done nothing) (record { store = store_or (store_of cs f) r; channels = channels; units = units })) h
made (Err message) f g cs channels units h = absurd (no_store message (store_of cs g) h)
  where
    no_store : (m : Text) (s : Store) → Err m ≡ Ok s → ⊥
    no_store m s e = cc

set_made : (name list : Text) (f g : Standing) → ((cs : Commands) → applied (array_set (store_of cs f) name list) (store_of cs f) ≡ Ok (store_of cs g)) → Comes (first_step (array_set_page (name ∷ list ∷ []))) f (Done nothing) g
unfolding array_set_page
set_made name list f g k = record { same = λ cs ch n. made (array_set (store_of cs f) name list) f g cs ch n (k cs) }

set_fails : (name list m : Text) (f : Standing) → ((cs : Commands) → array_set (store_of cs f) name list ≡ Err m) → Comes (first_step (array_set_page (name ∷ list ∷ []))) f (Done (failure m)) f
unfolding array_set_page
set_fails name list m f k = record { same = λ cs ch n. ap (λ a. does (first_step (by_change a)) (state_of cs ch n f)) (k cs) }

pub set_does : {E : Type 0} (name list : Text) (f g : Standing) (r : Result (Unit {0}) Fault) (q : Result Completion E) → Makes (λ cs. array_set (store_of cs f) name list) f r g → Finishes r q → Does (array_set_page (name ∷ list ∷ [])) f q g
set_does name list f g r (Err refused) h e = tt
set_does name list f g (Ok u) (Ok c) h e = subst (λ d. Comes (first_step (array_set_page (name ∷ list ∷ []))) f (Done d) g) (sym e) (set_made name list f g h)
set_does name list f g (Err (fault.Error message)) (Ok c) h e =
    subst (λ d. Comes (first_step (array_set_page (name ∷ list ∷ []))) f (Done d) g) (sym e)
    (subst (λ (k : Standing). Comes (first_step (array_set_page (name ∷ list ∷ []))) f (Done (failure (text_of message))) k) (sym h.1) (set_fails name list (text_of message) f h.0))
set_does name list f g (Err fault.Memory) (Ok c) h e = absurd e

pub set_words : {E : Type 0} (ws : List Text) (name list d : Text) (f g : Standing) (r : Result (Unit {0}) Fault) (q : Result Completion E) → length ws ≡ 2 → name ≡ get_or ws 0 [] → list ≡ get_or ws 1 d
    → Makes (λ cs. array_set (store_of cs f) name list) f r g → Finishes r q → Does (array_set_page ws) f q g
set_words [] name list d f g r q l a b h e = absurd (omega arith)
set_words (w ∷ []) name list d f g r q l a b h e = absurd (omega arith)
set_words (w ∷ v ∷ []) name list d f g r q l a b h e =
    subst (λ x. Does (array_set_page (x ∷ v ∷ [])) f q g) a (subst (λ x. Does (array_set_page (name ∷ x ∷ [])) f q g) b (set_does name list f g r q h e))
set_words (w ∷ v ∷ x ∷ ws) name list d f g r q l a b h e = absurd (omega arith)

pub set_usage : (ws : List Text) (f : Standing) → length ws ≢ 2 → Comes (first_step (array_set_page ws)) f (Done (wrong_words (literal "array set arrayName list"))) f
unfolding array_set_page
set_usage [] f h = record { same = λ cs ch n. refl }
set_usage (w ∷ []) f h = record { same = λ cs ch n. refl }
set_usage (w ∷ v ∷ []) f h = absurd (h refl)
set_usage (w ∷ v ∷ x ∷ ws) f h = record { same = λ cs ch n. refl }

-- ---- array unset

abbrev by_loss : Option Change → Asks
by_loss o = make_some o >>= λ _. done nothing

lost : (o : Option Change) (f g : Standing) (cs : Commands) (channels : Channels) (units : ℕ) → changed_if o (store_of cs f) ≡ store_of cs g
    → does (first_step (by_loss o)) (state_of cs channels units f) ≡ Gives (Done nothing) (state_of cs channels units g)
lost None f g cs channels units h = ap (λ s. Gives (Done nothing) (record { store = s; channels = channels; units = units })) h
lost (Some ch) f g cs channels units h = ap (λ s. Gives (Done nothing) (record { store = s; channels = channels; units = units })) h

pub unset_whole : (ws : List Text) (name : Text) (f g : Standing) → length ws ≡ 1 → name ≡ get_or ws 0 [] → Leaves (λ cs. array_unset (store_of cs f) name None) f g → Comes (first_step (array_unset_page ws)) f (Done nothing) g
unfolding array_unset_page
unset_whole [] name f g l a h = absurd (omega arith)
unset_whole (w ∷ []) name f g l a h = record { same = λ cs ch n. lost (array_unset (store_of cs f) w None) f g cs ch n (subst (λ x. changed_if (array_unset (store_of cs f) x None) (store_of cs f) ≡ store_of cs g) a (h cs)) }
unset_whole (w ∷ v ∷ ws) name f g l a h = absurd (omega arith)

pub unset_some : (ws : List Text) (name pattern : Text) (f g : Standing) → length ws ≡ 2 → name ≡ get_or ws 0 [] → pattern ≡ get_or ws 1 []
    → Leaves (λ cs. array_unset (store_of cs f) name (Some pattern)) f g → Comes (first_step (array_unset_page ws)) f (Done nothing) g
unfolding array_unset_page
unset_some [] name pattern f g l a b h = absurd (omega arith)
unset_some (w ∷ []) name pattern f g l a b h = absurd (omega arith)
unset_some (w ∷ v ∷ []) name pattern f g l a b h = record {
  same = λ cs ch n. lost (array_unset (store_of cs f) w (Some v)) f g cs ch n (
      subst (λ x. changed_if (array_unset (store_of cs f) w (Some x)) (store_of cs f) ≡ store_of cs g) b (subst (λ x. changed_if (array_unset (store_of cs f) x (Some pattern)) (store_of cs f) ≡ store_of cs g) a (h cs)));
}
unset_some (w ∷ v ∷ x ∷ ws) name pattern f g l a b h = absurd (omega arith)

pub unset_usage : (ws : List Text) (f : Standing) → length ws ≢ 1 → length ws ≢ 2 → Comes (first_step (array_unset_page ws)) f (Done (wrong_words (literal "array unset arrayName ?pattern?"))) f
unfolding array_unset_page
unset_usage [] f h k = record { same = λ cs ch n. refl }
unset_usage (w ∷ []) f h k = absurd (h refl)
unset_usage (w ∷ v ∷ []) f h k = absurd (k refl)
unset_usage (w ∷ v ∷ x ∷ ws) f h k = record { same = λ cs ch n. refl }

-- ---- by the completion that was made

ends_so : {E : Type 0} (page : Asks) (f g : Standing) (d : Completion) (q : Result Completion E) → IfOk q (λ c. c ≡ d) → Comes (first_step page) f (Done d) g → Does page f q g
ends_so page f g d (Ok c) e h = subst (λ k. Comes (first_step page) f (Done k) g) (sym e) h
ends_so page f g d (Err refused) e h = tt

pub unset_whole_does : {E : Type 0} (ws : List Text) (name : Text) (f g : Standing) (q : Result Completion E) → length ws ≡ 1 → name ≡ get_or ws 0 [] → Leaves (λ cs. array_unset (store_of cs f) name None) f g
    → IfOk q (λ c. c ≡ nothing) → Does (array_unset_page ws) f q g
unset_whole_does ws name f g q l a h e = ends_so (array_unset_page ws) f g nothing q e (unset_whole ws name f g l a h)

pub unset_some_does : {E : Type 0} (ws : List Text) (name pattern : Text) (f g : Standing) (q : Result Completion E) → length ws ≡ 2 → name ≡ get_or ws 0 [] → pattern ≡ get_or ws 1 []
    → Leaves (λ cs. array_unset (store_of cs f) name (Some pattern)) f g → IfOk q (λ c. c ≡ nothing) → Does (array_unset_page ws) f q g
unset_some_does ws name pattern f g q l a b h e = ends_so (array_unset_page ws) f g nothing q e (unset_some ws name pattern f g l a b h)

pub unset_usage_does : {E : Type 0} (ws : List Text) (f : Standing) (q : Result Completion E) → length ws ≢ 1 → length ws ≢ 2 → IfOk q (λ c. c ≡ wrong_words (literal "array unset arrayName ?pattern?")) → Does (array_unset_page ws) f q f
unset_usage_does ws f q h k e = ends_so (array_unset_page ws) f f _ q e (unset_usage ws f h k)

pub set_usage_does : {E : Type 0} (ws : List Text) (f : Standing) (q : Result Completion E) → length ws ≢ 2 → IfOk q (λ c. c ≡ wrong_words (literal "array set arrayName list")) → Does (array_set_page ws) f q f
set_usage_does ws f q h e = ends_so (array_set_page ws) f f _ q e (set_usage ws f h)
