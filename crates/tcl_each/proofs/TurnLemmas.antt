-- The variables of a turn, and what follows.
use Rattle.std.proofs.Common.{◌≡◌, ℕ, zero, suc, ◌+◌, ◌<◌, ◌≤◌, List, [], ◌∷◌, length, drop, take, get_or, Result, Ok, Err, sym, ap, subst, ◌∙◌, arith}
use Rattle.std.proofs.lemmas.List.{drop_all, get_or-take, get_or-drop}
use Rattle.std.specs.declared.alloc.AllocError.{AllocError}
use Rattle.tcl_steps.specs.Asked.{IsAsked}
use Rattle.tcl_each.specs.Turns.{GoesOn}
use Rattle.tcl_frames.specs.Standing.{Standing}
use Rattle.tcl_meaning.specs.Asking.{Asks}
use Rattle.tcl_meaning.specs.Control.{each_set, behind_turns}
use Rattle.tcl_meaning.specs.Completions.{Completion}
use Rattle.tcl_meaning.specs.Effects.{Here}
use Rattle.tcl_meaning.specs.Tasks as tasks
use Rattle.tcl_meaning.specs.Value.{Has, Fails}
use Rattle.tcl_meaning.specs.Variables.{set_all}
use Rattle.tcl_steps.specs.Views.{loop_list_of, loop_lists_of, step_of}
use Rattle.tcl_steps.specs.declared.step.LoopList.{LoopList}
use Rattle.tcl_steps.specs.declared.step.Step.{Step}
use Rattle.tcl_steps.specs.declared.step.Scope.{Scope}
use Rattle.tcl_steps.specs.declared.step.Owes.{Owes}
use Rattle.tcl_steps.specs.declared.step.Loop.{Loop}
use Rattle.tcl_steps.proofs.Endings.{gives_on, has_on, fails_on, then_becomes}
use Rattle.tcl_steps.specs.Comes.{Becomes, Comes}
use Rattle.tcl_steps.specs.Ends.{Ends, DoesAsk, first_step}
use Rattle.tcl_steps.specs.declared.stop.Stop.{Stop}
use Rattle.tcl_steps.specs.declared.stop.Stop.TheVariants as stop

list_from : (ls : List LoopList) (i : ℕ) (l : LoopList) → i < length ls → l ≡ get_or ls i l → drop i ls ≡ l ∷ drop (suc i) ls
list_from [] i l h e = absurd (omega arith)
list_from (x ∷ ls) zero l h e = ap (λ (z : LoopList). z ∷ ls) (sym e)
list_from (x ∷ ls) (suc i) l h e = list_from ls i l (omega arith) e

list_and_rest : (ls : List LoopList) (i : ℕ) (l : LoopList) → i < length ls → l ≡ get_or ls i l → drop i ls ≡ l ∷ drop (i + 1) ls
list_and_rest ls i l h e =
    let one : suc i ≡ i + 1 = omega arith in
    list_from ls i l h e ∙ ap (λ (k : ℕ). l ∷ drop k ls) one

module _ (e : tasks.Each) (p : Asks) (ls : List LoopList) (i : ℕ) (l : LoopList) (before f g : Standing) (there : i < length ls) (is : l ≡ get_or ls i l)
    (so_far : Becomes p before (each_set e (loop_lists_of (drop i ls))) f) where
  here : Becomes p before (each_set e (loop_list_of l ∷ loop_lists_of (drop (i + 1) ls))) f
  here = subst (λ (ks : List LoopList). Becomes p before (each_set e (loop_lists_of ks)) f) (list_and_rest ls i l there is) so_far

  pub list_set : Comes (set_all l.names.items (take (length l.names.items) (drop l.gone l.elements))) f (Has tt) g → Becomes p before (each_set e (loop_lists_of (drop (i + 1) ls))) g
  list_set h = then_becomes here (has_on (set_all l.names.items (take (length l.names.items) (drop l.gone l.elements))) (λ u. each_set e (loop_lists_of (drop (i + 1) ls))) f g tt h)

  pub list_stops : (s : Stop) → Ends (set_all l.names.items (take (length l.names.items) (drop l.gone l.elements))) f (Err s) g → GoesOn {A = Unit {0}} p (each_set e []) before (Err s) g
  list_stops (stop.Error c) h = then_becomes here (fails_on (set_all l.names.items (take (length l.names.items) (drop l.gone l.elements))) (λ u. each_set e (loop_lists_of (drop (i + 1) ls))) f g c h)
  list_stops stop.Memory h = tt

pub lists_end : (e : tasks.Each) (p : Asks) (ls : List LoopList) (i : ℕ) (before f : Standing) → length ls ≤ i → Becomes p before (each_set e (loop_lists_of (drop i ls))) f → Becomes p before (each_set e []) f
lists_end e p ls i before f h so_far = subst (λ (ks : List LoopList). Becomes p before (each_set e (loop_lists_of ks)) f) (drop_all i ls h) so_far

-- ---- the page

-- the text of a name is the element at its place
pub its_text : (es : List (List ℕ)) (count gone i : ℕ) (t : List ℕ) → i < count → t ≡ get_or es (gone + i) [] → t ≡ get_or (take count (drop gone es)) i []
its_text es count gone i t h e = e ∙ sym (get_or-take count (drop gone es) i [] h ∙ get_or-drop gone es i [])

-- ---- a turn

module _ (e : tasks.Each) (now ls : List LoopList) (f g : Standing) (same : now ≡ ls) where
  -- the body is asked for where the variables are set
  pub turn_asks : (r : Result (Step Scope Owes Loop) AllocError) → Becomes (each_set e (loop_lists_of now)) f (each_set e []) g → IsAsked r (each_set e []) → DoesAsk (each_set e (loop_lists_of ls)) f r g
  turn_asks (Ok step) h i =
      let body : tasks.Step = tasks.Run Here e.body (tasks.EachBody (record e { lists = behind_turns e.lists })) in
      let is : body ≡ step_of step = cc in
      let set : Comes (each_set e (loop_lists_of ls)) f (Has body) g = subst (λ (ks : List LoopList). Becomes (each_set e (loop_lists_of ks)) f (each_set e []) g) same h in
      subst (λ (s : tasks.Step). Comes (first_step (each_set e (loop_lists_of ls))) f s g) is (gives_on (each_set e (loop_lists_of ls)) _ f g (Has body) set)
  turn_asks (Err refused) h i = tt

  pub turn_fails : (c : Completion) → Comes (each_set e (loop_lists_of now)) f (Fails c) g → Comes (first_step (each_set e (loop_lists_of ls))) f (tasks.Done c) g
  turn_fails c h = gives_on (each_set e (loop_lists_of ls)) _ f g (Fails c) (subst (λ (ks : List LoopList). Comes (each_set e (loop_lists_of ks)) f (Fails c) g) same h)
