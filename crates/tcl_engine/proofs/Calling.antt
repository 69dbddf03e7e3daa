-- Commands by their names and pages.
use Rattle.std.proofs.Common.{◌≡◌, List, [], ◌∷◌, Option, None, Result, length, sym, subst}
use Rattle.std.specs.FinMap as map
use Rattle.tcl_chars.specs.declared.numbers.Dialect.{Dialect}
use Rattle.tcl_meaning.specs.Asking.{done}
use Rattle.tcl_meaning.specs.Channels.{gets_page}
use Rattle.tcl_meaning.specs.CodePages.{exit_page}
use Rattle.tcl_meaning.specs.Completions.{nothing}
use Rattle.tcl_meaning.specs.Ensembles.{subcommands, page_among}
use Rattle.tcl_meaning.specs.Names.{without_colons}
use Rattle.tcl_meaning.specs.Pages.{page_asks, subcommand_asks, ensemble_asks, command_asks, invoked}
use Rattle.tcl_meaning.specs.State.{Command, State}
use Rattle.tcl_meaning.specs.VariablePages.{seen_page}
use Rattle.tcl_meaning.specs.declared.page.Ensemble.{Ensemble}
use Rattle.tcl_meaning.specs.declared.page.Page.{Page}
use Rattle.tcl_meaning.specs.declared.page.Page.TheVariants as page
use Rattle.tcl_meaning.specs.declared.page.SeenPage.{SeenPage}
use Rattle.tcl_pages.specs.Texts.{Text}
use Rattle.tcl_steps.specs.declared.step.Step.{Step}
use Rattle.tcl_steps.specs.declared.step.Scope.{Scope}
use Rattle.tcl_steps.specs.declared.step.Owes.{Owes}
use Rattle.tcl_steps.specs.declared.step.Loop.{Loop}
use Rattle.tcl_vm.specs.declared.engine.Stop.{Stop}
use Rattle.tcl_engine.specs.Answered.{Answered}

abbrev Told : Type 0
Told = Result (Step Scope Owes Loop) Stop

module _ (dialect : Dialect) (s : State) (r : Told) (t : State) where
  pub seen_answers : (p : Page) (q : SeenPage) (ws : List Text) → p ≡ page.Seen q → Answered (seen_page q ws) s r t → Answered (page_asks dialect p ws) s r t
  unfolding page_asks
  seen_answers p q ws is h = subst (λ x. Answered (page_asks dialect x ws) s r t) (sym is) h

  pub exit_answers : (p : Page) (ws : List Text) → p ≡ page.Exit → Answered (exit_page dialect ws) s r t → Answered (page_asks dialect p ws) s r t
  unfolding page_asks
  exit_answers p ws is h = subst (λ x. Answered (page_asks dialect x ws) s r t) (sym is) h

  pub gets_answers : (p : Page) (ws : List Text) → p ≡ page.Gets → Answered (gets_page ws) s r t → Answered (page_asks dialect p ws) s r t
  unfolding page_asks
  gets_answers p ws is h = subst (λ x. Answered (page_asks dialect x ws) s r t) (sym is) h

  pub none_answers : (e : Ensemble) (w : Text) (ws : List Text) → None ≡ page_among w (subcommands e) → Answered (subcommand_asks dialect e w None ws) s r t → Answered (ensemble_asks dialect e (w ∷ ws)) s r t
  none_answers e w ws none h = subst (λ o. Answered (subcommand_asks dialect e w o ws) s r t) none h

  -- the first word is looked up
  looked_up : (w : Text) (ws : List Text) → Answered (command_asks dialect (map.get s.store.commands (without_colons w)) w ws) s r t → Answered (invoked dialect (w ∷ ws)) s r t
  unfolding invoked
  looked_up w ws h = record { answers = h.answers; onward = h.onward; free = h.free; frames = h.frames }

  pub command_answers : (w : Text) (ws : List Text) (o : Option Command) → o ≡ map.get s.store.commands (without_colons w) → Answered (command_asks dialect o w ws) s r t → Answered (invoked dialect (w ∷ ws)) s r t
  command_answers w ws o is h = looked_up w ws (subst (λ x. Answered (command_asks dialect x w ws) s r t) is h)

  pub empty_answers : (ws : List Text) → length ws ≡ 0 → Answered (done nothing) s r t → Answered (invoked dialect ws) s r t
  unfolding invoked
  empty_answers [] none h = h
  empty_answers (w ∷ ws) none h = absurd cc

  pub bare_answers : (e : Ensemble) (ws : List Text) → length ws ≡ 0 → Answered (ensemble_asks dialect e []) s r t → Answered (ensemble_asks dialect e ws) s r t
  bare_answers e [] none h = h
  bare_answers e (w ∷ ws) none h = absurd cc
