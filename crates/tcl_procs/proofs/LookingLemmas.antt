-- Commands that look at the command table: info(n).
use Rattle.std.proofs.Common.{◌≡◌, ◌<◌, ◌+◌, ℕ, Bool, true, false, List, [], ◌∷◌, ◌++◌, length, drop, get_or, map as each, Option, Ok, Err, refl, sym, ap, ◌∙◌, append_assoc}
use Rattle.std.proofs.lemmas.Bool.{cond-true, cond-false}
use Rattle.std.proofs.lemmas.List.{drop_more}
use Rattle.std.specs.FinMap as map
use Rattle.std.specs.Prelude.{◌&&◌, if◌then◌else◌}
use Rattle.tcl_chars.specs.Texts.{literal}
use Rattle.tcl_list.specs.Written.{written}
use Rattle.tcl_meaning.specs.Arrays.{name_fits}
use Rattle.tcl_meaning.specs.Asking.{Asks, done}
use Rattle.tcl_meaning.specs.Completions.{Completion, normal, failure}
use Rattle.tcl_meaning.specs.Effects.{does, Give}
use Rattle.tcl_meaning.specs.SeenPages.{commands_among, info_args, info_body, info_commands, info_procs, procedure_named, seen_answer}
use Rattle.tcl_meaning.specs.State.{Channels, Command, State, Store}
use Rattle.tcl_meaning.specs.Tasks.{Done}
use Rattle.tcl_meaning.specs.Value.{◌>>=◌, judged}
use Rattle.tcl_meaning.specs.VariablePages.{seen_page}
use Rattle.tcl_meaning.specs.declared.page.SeenPage.{SeenPage}
use Rattle.tcl_pages.specs.Answers.{Answer, ◌>>=◌ as andthen}
use Rattle.tcl_pages.specs.Arguments.{one_argument}
use Rattle.tcl_pages.specs.Texts.{Text}
use Rattle.tcl_arguments.specs.UpToOne.{up_to_one}
use Rattle.tcl_procs.specs.Looking.{of_kind}
use Rattle.tcl_steps.specs.Comes.{BecomesIn}
use Rattle.tcl_steps.specs.Ends.{first_step}

-- ---- the names that are listed, one after another

module _ {X : Type 0} (view : X → Text × Command) (is : Command → Bool) (p : Option Text) (xs : List X) (i : ℕ) (x : X) (found more : List Text) (h : i < length xs) (e : x ≡ get_or xs i x) where
  abbrev rest : List Text
  rest = commands_among is p (each view (drop (i + 1) xs))

  first_left : found ++ commands_among is p (each view (drop i xs)) ≡ found ++ (if is (view x).1 && name_fits p (view x).0 then (view x).0 ∷ rest else rest)
  first_left = ap (λ l. found ++ commands_among is p (each view l)) (drop_more xs i x h ∙ ap (λ y. y ∷ drop (i + 1) xs) (sym e))

  pub name_listed : (is (view x).1 && name_fits p (view x).0) ≡ true → more ≡ found ++ (view x).0 ∷ [] → more ++ rest ≡ found ++ commands_among is p (each view (drop i xs))
  name_listed t m = ap (λ l. l ++ rest) m ∙ append_assoc found ((view x).0 ∷ []) rest ∙ sym (first_left ∙ ap (λ l. found ++ l) (cond-true _ _ _ t))

  pub name_left_out : (is (view x).1 && name_fits p (view x).0) ≡ false → more ≡ found → more ++ rest ≡ found ++ commands_among is p (each view (drop i xs))
  name_left_out t m = ap (λ l. l ++ rest) m ∙ sym (first_left ∙ ap (λ l. found ++ l) (cond-false _ _ _ t))

-- ---- pages, by the readings of their words

pub commands_is : (s : Store) (ws : List Text) → info_commands s ws ≡ andthen (up_to_one (literal "info commands ?pattern?") ws) (λ p. Ok (written (commands_among (of_kind false) p (map.entries s.commands))))
commands_is s [] = refl
commands_is s (a ∷ []) = refl
commands_is s (a ∷ b ∷ ws) = refl

pub procs_is : (s : Store) (ws : List Text) → info_procs s ws ≡ andthen (up_to_one (literal "info procs ?pattern?") ws) (λ p. Ok (written (commands_among (of_kind true) p (map.entries s.commands))))
procs_is s [] = refl
procs_is s (a ∷ []) = refl
procs_is s (a ∷ b ∷ ws) = refl

pub args_is : (s : Store) (ws : List Text) → info_args s ws ≡ andthen (one_argument (literal "info args procname") ws) (λ name. andthen (procedure_named s name) (λ p. Ok (written (each (λ f. f.name) p.formals))))
args_is s [] = refl
args_is s (a ∷ []) = refl
args_is s (a ∷ b ∷ ws) = refl

pub body_is : (s : Store) (ws : List Text) → info_body s ws ≡ andthen (one_argument (literal "info body procname") ws) (λ name. andthen (procedure_named s name) (λ p. Ok p.body))
body_is s [] = refl
body_is s (a ∷ []) = refl
body_is s (a ∷ b ∷ ws) = refl

-- ---- how they end

-- what is done with an answer
abbrev answered : Answer Text → Asks
answered a = judged a >>= λ t. done (normal t)

abbrev state_in : Store → Channels → ℕ → State
state_in s channels units = record { store = s; channels = channels; units = units }

pub seen_ok : (page : SeenPage) (ws : List Text) (s : Store) (t : Text) (c : Completion) → seen_answer page s ws ≡ Ok t → c ≡ normal t → BecomesIn (first_step (seen_page page ws)) s (Give (Done c)) s
unfolding seen_page
seen_ok page ws s t c h e = record { same = λ ch n. ap (λ b. does (first_step (answered b)) (state_in s ch n)) h ∙ ap (λ d. does (first_step (done d)) (state_in s ch n)) (sym e) }

pub seen_refused : (page : SeenPage) (ws : List Text) (s : Store) (m : Text) (c : Completion) → seen_answer page s ws ≡ Err m → c ≡ failure m → BecomesIn (first_step (seen_page page ws)) s (Give (Done c)) s
unfolding seen_page
seen_refused page ws s m c h e = record { same = λ ch n. ap (λ b. does (first_step (answered b)) (state_in s ch n)) h ∙ ap (λ d. does (first_step (done d)) (state_in s ch n)) (sym e) }
