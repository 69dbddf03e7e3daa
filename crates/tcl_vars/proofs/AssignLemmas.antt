-- Variables get texts, from left to right: catch(n), lassign(n).
use Rattle.std.proofs.Common.{◌≡◌, ◌≢◌, ℕ, zero, suc, ◌-◌, ◌≤◌, ◌<◌, List, [], ◌∷◌, ◌++◌, length, drop, take, get_or, Result, Ok, Err, refl, sym, ap, subst, ◌∙◌, arith}
use Rattle.std.proofs.lemmas.List.{take_all}
use Rattle.tcl_pages.specs.Lists.{values_for, rest_behind}
use Rattle.tcl_pages.specs.Texts.{Text, number_text}
use Rattle.tcl_chars.specs.Answers.{Stops}
use Rattle.tcl_chars.specs.Texts.{literal, text_of}
use Rattle.tcl_chars.specs.declared.fault.Fault.{Fault}
use Rattle.tcl_chars.specs.declared.fault.Fault.TheVariants as fault
use Rattle.tcl_list.specs.Elements.{elements_of}
use Rattle.tcl_list.specs.Written.{written}
use Rattle.tcl_meaning.specs.Asking.{Asks, done}
use Rattle.tcl_meaning.specs.Completions.{Completion, normal, failure, wrong_words, code_now, code_number, options_text}
use Rattle.tcl_meaning.specs.CodePages.{after_catch}
use Rattle.tcl_meaning.specs.Tasks.{Done}
use Rattle.tcl_meaning.specs.Value.{Has, Fails, ◌>>=◌, judged}
use Rattle.tcl_meaning.specs.Variables.{set_all}
use Rattle.tcl_meaning.specs.VariablePages.{lassign_page}
use Rattle.tcl_frames.specs.Standing.{Standing}
use Rattle.tcl_steps.proofs.Endings.{has_on, fails_on}
use Rattle.tcl_steps.proofs.WordLemmas.{none_left}
use Rattle.tcl_steps.specs.Comes.{Comes}
use Rattle.tcl_steps.specs.Ends.{Ends, EndsDone, stop_of}
use Rattle.tcl_steps.specs.declared.stop.Stop.{Stop}
use Rattle.tcl_steps.specs.declared.stop.Stop.TheVariants as stop
use Rattle.tcl_vars.specs.Assigning.{lassign_of}

-- ---- lassign(n)

pub values_are : (es : List Text) (n i : ℕ) → i < n → get_or es i [] ≡ get_or (values_for n es) i []
values_are es zero i h = absurd (omega arith)
values_are [] (suc n) zero h = refl
values_are [] (suc n) (suc i) h = values_are [] n i (omega arith)
values_are (e ∷ es) (suc n) zero h = refl
values_are (e ∷ es) (suc n) (suc i) h = values_are es n i (omega arith)

pub lassign_is : (ws es : List Text) → length ws ≢ 0 → elements_of (get_or ws 0 []) ≡ Ok es → lassign_page ws ≡ lassign_of (drop 1 ws) es
unfolding lassign_page
lassign_is [] es h e = absurd (h refl)
lassign_is (list ∷ names) es h e = ap (λ (r : Result (List Text) Text). judged r >>= lassign_of names) e

pub elements_given : (names es : List Text) (f g : Standing) (t : Text) → t ≡ rest_behind (length names) es → Comes (set_all names (values_for (length names) es)) f (Has tt) g → Comes (lassign_of names es) f (Has (Done (normal t))) g
elements_given names es f g t e h =
    subst (λ (u : Text). Comes (lassign_of names es) f (Has (Done (normal u))) g) (sym e)
    (has_on (set_all names (values_for (length names) es)) (λ u. done (normal (rest_behind (length names) es))) f g tt h)

module _ (ws es : List Text) (f g : Standing) (some : length ws ≢ 0) (read : elements_of (get_or ws 0 []) ≡ Ok es) where
  pub lassign_done : (t : Text) → t ≡ rest_behind (length (drop 1 ws)) es → Comes (set_all (drop 1 ws) (values_for (length (drop 1 ws)) es)) f (Has tt) g → Comes (lassign_page ws) f (Has (Done (normal t))) g
  lassign_done t e h = subst (λ (p : Asks). Comes p f (Has (Done (normal t))) g) (sym (lassign_is ws es some read)) (elements_given (drop 1 ws) es f g t e h)

  pub lassign_stops : (s : Stop) → Ends (set_all (drop 1 ws) (values_for (length (drop 1 ws)) es)) f (Err s) g → EndsDone (lassign_page ws) f (Err s) g
  lassign_stops (stop.Error c) h =
      subst (λ (p : Asks). Comes p f (Fails c) g) (sym (lassign_is ws es some read))
      (fails_on (set_all (drop 1 ws) (values_for (length (drop 1 ws)) es)) (λ u. done (normal (rest_behind (length (drop 1 ws)) es))) f g c h)
  lassign_stops stop.Memory h = tt

lassign_refused : (ws : List Text) (message : Text) (f : Standing) → length ws ≢ 0 → elements_of (get_or ws 0 []) ≡ Err message → Comes (lassign_page ws) f (Fails (failure message)) f
unfolding lassign_page
lassign_refused [] message f h e = absurd (h refl)
lassign_refused (list ∷ names) message f h e = subst (λ (r : Result (List Text) Text). Comes (judged r >>= lassign_of names) f (Fails (failure message)) f) (sym e) (record { same = λ cs ch n. refl })

pub not_a_list : (ws : List Text) (f : Standing) (fault : Fault) → length ws ≢ 0 → Stops fault (elements_of (get_or ws 0 [])) → EndsDone (lassign_page ws) f (Err (stop_of fault)) f
not_a_list ws f (fault.Error message) h e = lassign_refused ws (text_of message) f h e
not_a_list ws f fault.Memory h e = tt

pub lassign_usage : (ws : List Text) (f : Standing) → length ws ≡ 0 → Comes (lassign_page ws) f (Fails (wrong_words (literal "lassign list ?varName ...?"))) f
unfolding lassign_page
lassign_usage [] f h = record { same = λ cs ch n. refl }
lassign_usage (w ∷ ws) f h = absurd (omega arith)

-- ---- catch(n)

module _ (names : List Text) (c : Completion) (f g : Standing) where
  pub caught_is : (t : Text) → t ≡ number_text (code_number (code_now c)) → Comes (set_all names (c.result ∷ options_text c ∷ [])) f (Has tt) g → Comes (after_catch names c) f (Has (Done (normal t))) g
  caught_is t e h =
      subst (λ (u : Text). Comes (after_catch names c) f (Has (Done (normal u))) g) (sym e)
      (has_on (set_all names (c.result ∷ options_text c ∷ [])) (λ u. done (normal (number_text (code_number (code_now c))))) f g tt h)

  pub caught_stops : (s : Stop) → Ends (set_all names (c.result ∷ options_text c ∷ [])) f (Err s) g → EndsDone (after_catch names c) f (Err s) g
  caught_stops (stop.Error d) h = fails_on (set_all names (c.result ∷ options_text c ∷ [])) (λ u. done (normal (number_text (code_number (code_now c))))) f g d h
  caught_stops stop.Memory h = tt

-- the values that are made are those that are meant, as far as there are names
pub one_value : (values : List Text) (first other : Text) (n i : ℕ) → n ≤ 1 → values ≡ [] ++ first ∷ [] → i < n → get_or values i [] ≡ get_or (first ∷ other ∷ []) i []
one_value values first other n zero h e lt = ap (λ (vs : List Text). get_or vs 0 []) e
one_value values first other n (suc i) h e lt = absurd (omega arith)

pub two_values : (values so_far : List Text) (first other : Text) (i : ℕ) → so_far ≡ [] ++ first ∷ [] → values ≡ so_far ++ other ∷ [] → get_or values i [] ≡ get_or (first ∷ other ∷ []) i []
two_values values so_far first other i e g = ap (λ (vs : List Text). get_or vs i []) (g ∙ ap (λ (vs : List Text). vs ++ other ∷ []) e)

pub past_end : (ts : List Text) (n : ℕ) → length ts ≤ n → get_or ts n [] ≡ []
past_end [] zero h = refl
past_end [] (suc n) h = refl
past_end (t ∷ ts) zero h = absurd (omega arith)
past_end (t ∷ ts) (suc n) h = past_end ts n (omega arith)

pub no_rest : (es : List Text) (n : ℕ) (t : Text) → length es ≤ n → t ≡ [] → t ≡ rest_behind n es
no_rest es n t h e = e ∙ sym (ap written (none_left es n h))

take_rest : (ws : List Text) → take (length ws - 1) (drop 1 ws) ≡ drop 1 ws
take_rest [] = take_all (length {A = Text} [] - 1) (drop 1 []) (omega arith)
take_rest (w ∷ ws) = take_all (length (w ∷ ws) - 1) ws (omega arith)

pub names_are : (ws vs : List Text) → vs ≡ ws → take (length vs - 1) (drop 1 vs) ≡ drop 1 ws
names_are ws vs e = take_rest vs ∙ ap (λ (us : List Text). drop 1 us) e
