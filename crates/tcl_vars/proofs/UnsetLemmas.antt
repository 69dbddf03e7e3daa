-- unset(n): the names from left to right.
use Rattle.std.proofs.Common.{◌≡◌, ◌≢◌, ℕ, ◌+◌, ◌≤◌, ◌<◌, Bool, true, false, List, [], ◌∷◌, length, drop, get_or, Result, Ok, Err, OnOk, OnErr, refl, sym, ap, subst, ◌∙◌, arith}
use Rattle.std.specs.Prelude.{IfErr, if◌then◌else◌}
use Rattle.tcl_chars.specs.Texts.{literal, same_text}
use Rattle.tcl_pages.specs.Texts.{Text}
use Rattle.tcl_meaning.specs.declared.refusal.Refusal.{Refusal}
use Rattle.tcl_meaning.specs.Asking.{Asks, done}
use Rattle.tcl_meaning.specs.Completions.{Completion, nothing}
use Rattle.tcl_meaning.specs.Effects.{does, Got, Gives}
use Rattle.tcl_meaning.specs.State.{Commands, Channels, Store, Change}
use Rattle.tcl_meaning.specs.Tasks.{Done}
use Rattle.tcl_meaning.specs.Value.{Value, Has, Fails}
use Rattle.tcl_meaning.specs.Variables.{remove_change, unset}
use Rattle.tcl_meaning.specs.VariablePages.{unset_all, unset_if, make_if, behind_dashes, unset_page}
use Rattle.tcl_frames.specs.Standing.{Standing, store_of, applied}
use Rattle.tcl_steps.proofs.Endings.{has_on, fails_on, then_becomes}
use Rattle.tcl_steps.proofs.WordLemmas.{word_and_rest, none_left}
use Rattle.tcl_steps.specs.Comes.{Becomes, Comes, state_of}
use Rattle.tcl_steps.specs.Ends.{Ends, EndsDone}
use Rattle.tcl_vars.specs.Unsetting.{unset_quietly}
use Rattle.tcl_steps.specs.declared.stop.Stop.{Stop}
use Rattle.tcl_steps.specs.declared.stop.Stop.TheVariants as stop

module _ (ws : List Text) (n : ℕ) (name : Text) (p : Asks) (before f g : Standing) (there : n < length ws) (is : name ≡ get_or ws n []) where
  here : drop n ws ≡ name ∷ drop (n + 1) ws
  here = word_and_rest ws n there ∙ ap (λ (w : Text). w ∷ drop (n + 1) ws) (sym is)

  pub unset_one : Becomes p before (unset_all (drop n ws)) f → Comes (unset name) f (Has tt) g → Becomes p before (unset_all (drop (n + 1) ws)) g
  unset_one so_far h =
      then_becomes so_far (subst (λ (vs : List Text). Becomes (unset_all vs) f (unset_all (drop (n + 1) ws)) g) (sym here) (has_on (unset name) (λ u. unset_all (drop (n + 1) ws)) f g tt h))

  pub unset_stops : (s : Stop) → Becomes p before (unset_all (drop n ws)) f → Ends (unset name) f (Err s) g → EndsDone p before (Err s) g
  unset_stops (stop.Error c) so_far h =
      then_becomes so_far (subst (λ (vs : List Text). Comes (unset_all vs) f (Fails c) g) (sym here) (fails_on (unset name) (λ u. unset_all (drop (n + 1) ws)) f g c h))
  unset_stops stop.Memory so_far h = tt

  pub unset_one_quietly : Becomes p before (unset_if (drop n ws)) f → Comes (unset_quietly name) f (Has tt) g → Becomes p before (unset_if (drop (n + 1) ws)) g
  unset_one_quietly so_far h =
      then_becomes so_far (subst (λ (vs : List Text). Becomes (unset_if vs) f (unset_if (drop (n + 1) ws)) g) (sym here) (has_on (unset_quietly name) (λ u. unset_if (drop (n + 1) ws)) f g tt h))

pub all_unset : (ws : List Text) (n : ℕ) (p : Asks) (before f : Standing) (c : Completion) → length ws ≤ n → c ≡ nothing → Becomes p before (unset_all (drop n ws)) f → Comes p before (Has (Done c)) f
all_unset ws n p before f c h e so_far =
    then_becomes so_far (subst (λ (vs : List Text). Comes (unset_all vs) f (Has (Done c)) f) (sym (none_left ws n h)) (subst (λ (d : Completion). Comes (done nothing) f (Has (Done d)) f) (sym e) (record { same = λ cs ch n. refl })))

pub all_unset_quietly : (ws : List Text) (n : ℕ) (p : Asks) (before f : Standing) (c : Completion) → length ws ≤ n → c ≡ nothing → Becomes p before (unset_if (drop n ws)) f → Comes p before (Has (Done c)) f
all_unset_quietly ws n p before f c h e so_far =
    then_becomes so_far (subst (λ (vs : List Text). Comes (unset_if vs) f (Has (Done c)) f) (sym (none_left ws n h)) (subst (λ (d : Completion). Comes (done nothing) f (Has (Done d)) f) (sym e) (record { same = λ cs ch n. refl })))

pub begins_there : (p : Asks) (f : Standing) → Becomes p f p f
begins_there p f = record { same = λ cs ch n. refl }

-- ---- one name, quietly

by_store : Commands → Channels → ℕ → Standing → Result Store Refusal → Got (Value (Unit {0}))
by_store cs ch n f (Ok s) = Gives (Has tt) (record (state_of cs ch n f) { store = s })
by_store cs ch n f (Err refusal) = Gives (Has tt) (state_of cs ch n f)

change_made : (cs : Commands) (ch : Channels) (n : ℕ) (f g : Standing) (r : Result Change Refusal) → applied r (store_of cs f) ≡ Ok (store_of cs g) → does (make_if r) (state_of cs ch n f) ≡ Gives (Has tt) (state_of cs ch n g)
unfolding by_store
change_made cs ch n f g (Ok c) e = ap (by_store cs ch n f) e
change_made cs ch n f g (Err refusal) e = cc

pub quietly : {X : Type 0} (r : Result X Refusal) (name : Text) (f g : Standing) → ((cs : Commands) → OnOk r (applied (remove_change (store_of cs f) name) (store_of cs f) ≡ Ok (store_of cs g)))
    → ((cs : Commands) → IfErr r (λ refusal. remove_change (store_of cs f) name ≡ Err refusal)) → OnErr r (g ≡ f) → Comes (unset_quietly name) f (Has tt) g
quietly (Ok x) name f g done refused same = record { same = λ cs ch n. change_made cs ch n f g (remove_change (store_of cs f) name) (done cs) }
quietly (Err refusal) name f g done refused same =
    subst (λ (h : Standing). Comes (unset_quietly name) f (Has tt) h) (sym same) (record { same = λ cs ch n. ap (λ (r : Result Change Refusal). does (make_if r) (state_of cs ch n f)) (refused cs) })

-- ---- the words

pub dashes_passed : (ws : List Text) (n m : ℕ) → n < length ws → true ≡ same_text (get_or ws n []) (literal "--") → m ≡ n + 1 → drop m ws ≡ behind_dashes (drop n ws)
dashes_passed ws n m h e em =
    ap (λ (k : ℕ). drop k ws) em
    ∙ sym (ap behind_dashes (word_and_rest ws n h) ∙ ap (λ (b : Bool). if b then drop (n + 1) ws else get_or ws n [] ∷ drop (n + 1) ws) (sym e))

pub no_dashes : (ws : List Text) (n : ℕ) → n < length ws → false ≡ same_text (get_or ws n []) (literal "--") → drop n ws ≡ behind_dashes (drop n ws)
no_dashes ws n h e =
    word_and_rest ws n h
    ∙ sym (ap behind_dashes (word_and_rest ws n h) ∙ ap (λ (b : Bool). if b then drop (n + 1) ws else get_or ws n [] ∷ drop (n + 1) ws) (sym e))

pub no_names : (ws : List Text) (n : ℕ) → length ws ≤ n → drop n ws ≡ behind_dashes (drop n ws)
no_names ws n h = none_left ws n h ∙ sym (ap behind_dashes (none_left ws n h))

pub nothing_named : (ws : List Text) → length ws ≡ 0 → unset_page ws ≡ done nothing
unfolding unset_page
nothing_named [] h = refl
nothing_named (w ∷ ws) h = absurd (omega arith)

pub page_is_quiet : (ws vs : List Text) → length ws ≢ 0 → true ≡ same_text (get_or ws 0 []) (literal "-nocomplain") → vs ≡ behind_dashes (drop 1 ws) → unset_page ws ≡ unset_if vs
unfolding unset_page
page_is_quiet [] vs h e v = absurd (h refl)
page_is_quiet (w ∷ ws) vs h e v = ap (λ (b : Bool). if b then unset_if (behind_dashes ws) else unset_all (behind_dashes (w ∷ ws))) (sym e) ∙ ap unset_if (sym v)

pub page_complains : (ws vs : List Text) → length ws ≢ 0 → false ≡ same_text (get_or ws 0 []) (literal "-nocomplain") → vs ≡ behind_dashes ws → unset_page ws ≡ unset_all vs
unfolding unset_page
page_complains [] vs h e v = absurd (h refl)
page_complains (w ∷ ws) vs h e v = ap (λ (b : Bool). if b then unset_if (behind_dashes ws) else unset_all (behind_dashes (w ∷ ws))) (sym e) ∙ ap unset_all (sym v)

-- ---- the page

ends_so : (p q : Asks) (f g : Standing) (r : Result Completion Stop) → p ≡ q → EndsDone q f r g → EndsDone p f r g
ends_so p q f g r e h = subst (λ (x : Asks). EndsDone x f r g) (sym e) h

pub quiet_ends : (ws vs : List Text) (n : ℕ) (f g : Standing) (r : Result Completion Stop) → length ws ≢ 0 → true ≡ same_text (get_or ws 0 []) (literal "-nocomplain") → vs ≡ ws → drop n ws ≡ behind_dashes (drop 1 ws)
    → EndsDone (unset_if (drop n vs)) f r g → EndsDone (unset_page ws) f r g
quiet_ends ws vs n f g r some e same names h = ends_so (unset_page ws) (unset_if (drop n vs)) f g r (page_is_quiet ws (drop n vs) some e (ap (λ (us : List Text). drop n us) same ∙ names)) h

pub loud_ends : (ws vs : List Text) (n : ℕ) (f g : Standing) (r : Result Completion Stop) → length ws ≢ 0 → false ≡ same_text (get_or ws 0 []) (literal "-nocomplain") → vs ≡ ws → drop n ws ≡ behind_dashes ws
    → EndsDone (unset_all (drop n vs)) f r g → EndsDone (unset_page ws) f r g
loud_ends ws vs n f g r some e same names h = ends_so (unset_page ws) (unset_all (drop n vs)) f g r (page_complains ws (drop n vs) some e (ap (λ (us : List Text). drop n us) same ∙ names)) h

pub none_named : (ws : List Text) (f : Standing) (c : Completion) → length ws ≡ 0 → c ≡ nothing → Comes (unset_page ws) f (Has (Done c)) f
none_named ws f c h e = ends_so (unset_page ws) (done nothing) f f (Ok c) (nothing_named ws h) (subst (λ (d : Completion). Comes (done nothing) f (Has (Done d)) f) (sym e) (record { same = λ cs ch n. refl }))
