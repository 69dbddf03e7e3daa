-- What the pages of throw(n) and try(n) ask for.
use Rattle.std.proofs.Common.{◌≡◌, ◌≢◌, ◌<◌, ◌≤◌, List, [], ◌∷◌, length, drop, take, get_or, Some, None, Ok, Err, sym, ap, subst, ◌∙◌, refl, arith}
use Rattle.std.specs.Prelude.{Option, Result}
use Rattle.std.specs.declared.alloc.AllocError.{AllocError}
use Rattle.tcl_arguments.specs.WordAt.{word}
use Rattle.tcl_chars.specs.declared.numbers.Dialect.{Dialect}
use Rattle.tcl_chars.specs.Texts.{literal}
use Rattle.tcl_frames.specs.Standing.{Standing}
use Rattle.tcl_list.specs.Elements.{elements_of}
use Rattle.tcl_meaning.specs.Asking.{usage, ask}
use Rattle.tcl_meaning.specs.Completions.{Completion, failure, options_text}
use Rattle.tcl_meaning.specs.Effects.{Here}
use Rattle.tcl_meaning.specs.Handlers.{try_shape, try_usage, handler_for}
use Rattle.tcl_meaning.specs.Tasks.{Handler, Handlers, Done, Run, Trying, Handling}
use Rattle.tcl_meaning.specs.Trying.{throw_page, thrown, try_page, finish, handle, handle_by, after_try}
use Rattle.tcl_meaning.specs.Value.{Value, Has, Fails, ◌>>=◌, judged}
use Rattle.tcl_meaning.specs.Variables.{set, set_all}
use Rattle.tcl_pages.specs.Texts.{Text}
use Rattle.tcl_steps.proofs.AskLemmas.{asks_over, asks_on}
use Rattle.tcl_steps.proofs.Endings.{has_on, fails_on, then_becomes}
use Rattle.tcl_steps.specs.Asked.{IsAsked, at_once}
use Rattle.tcl_steps.specs.Comes.{Comes}
use Rattle.tcl_steps.specs.Ends.{DoesAsk, Ends, first_step}
use Rattle.tcl_steps.specs.Views.{owes_of}
use Rattle.tcl_steps.specs.declared.step.Step.{Step}
use Rattle.tcl_steps.specs.declared.step.Step.TheVariants as step
use Rattle.tcl_steps.specs.declared.step.Scope.{Scope}
use Rattle.tcl_steps.specs.declared.step.Scope.TheVariants as scope
use Rattle.tcl_steps.specs.declared.step.Owes.{Owes}
use Rattle.tcl_steps.specs.declared.step.Loop.{Loop}
use Rattle.tcl_steps.specs.declared.stop.Stop.{Stop}
use Rattle.tcl_steps.specs.declared.stop.Stop.TheVariants as stop

abbrev Asked : Type 0
Asked = Result (Step Scope Owes Loop) AllocError

-- ---- throw

throw_usage : (ws : List Text) → length ws ≢ 2 → throw_page ws ≡ usage (literal "throw type message")
unfolding throw_page
throw_usage [] h = refl
throw_usage (a ∷ []) h = refl
throw_usage (a ∷ b ∷ []) h = absurd (h refl)
throw_usage (a ∷ b ∷ c ∷ ws) h = refl

throw_by : (ws : List Text) → length ws ≡ 2 → throw_page ws ≡ (judged (elements_of (word ws 0)) >>= thrown (word ws 0) (word ws 1))
unfolding throw_page
throw_by [] h = absurd (omega arith)
throw_by (a ∷ []) h = absurd (omega arith)
throw_by (a ∷ b ∷ []) h = refl
throw_by (a ∷ b ∷ c ∷ ws) h = absurd (omega arith)

pub throw_none : (ws : List Text) (r : Asked) → length ws ≢ 2 → IsAsked r (usage (literal "throw type message")) → IsAsked r (throw_page ws)
throw_none ws r h is = subst (IsAsked r) (sym (throw_usage ws h)) is

throw_is : (ws es : List Text) → length ws ≡ 2 → elements_of (word ws 0) ≡ Ok es → throw_page ws ≡ thrown (word ws 0) (word ws 1) es
throw_is ws es h e = throw_by ws h ∙ ap (λ r. judged r >>= thrown (word ws 0) (word ws 1)) e

pub throw_asks : (ws es : List Text) (t u : Text) (r : Asked) → length ws ≡ 2 → t ≡ word ws 0 → u ≡ word ws 1 → elements_of t ≡ Ok es → IsAsked r (thrown t u es) → IsAsked r (throw_page ws)
throw_asks ws es t u r h i j e is =
    subst (IsAsked r) (sym (throw_is ws es h (ap elements_of (sym i) ∙ e))) (subst (λ v. IsAsked r (thrown (word ws 0) v es)) j (subst (λ v. IsAsked r (thrown v u es)) i is))

pub throw_fails : (ws : List Text) (t m : Text) → length ws ≡ 2 → t ≡ word ws 0 → elements_of t ≡ Err m → at_once (throw_page ws) ≡ Some (Done (failure m))
throw_fails ws t m h i e = ap at_once (throw_by ws h ∙ ap (λ r. judged r >>= thrown (word ws 0) (word ws 1)) (ap elements_of (sym i) ∙ e))

-- ---- the words of a try

module _ (dialect : Dialect) where
  pub try_none : (ws : List Text) (r : Asked) → length ws ≡ 0 → IsAsked r (usage try_usage) → IsAsked r (try_page dialect ws)
  unfolding try_page
  try_none [] r h is = is
  try_none (w ∷ ws) r h is = absurd (omega arith)

  try_by : (ws : List Text) → length ws ≢ 0 → try_page dialect ws ≡ (judged (try_shape dialect (drop 1 ws)) >>= λ hs. ask (Run Here (word ws 0) (Trying hs)))
  unfolding try_page
  try_by [] h = absurd (h refl)
  try_by (w ∷ ws) h = refl

  pub try_is : (ws : List Text) (hs : Handlers) (body : Text) → length ws ≢ 0 → body ≡ word ws 0 → try_shape dialect (drop 1 ws) ≡ Ok hs → at_once (try_page dialect ws) ≡ Some (Run Here body (Trying hs))
  try_is ws hs body h i e = rw i (ap at_once (try_by ws h ∙ ap (λ r. judged r >>= λ hs. ask (Run Here (word ws 0) (Trying hs))) e))

  pub try_fails : (ws : List Text) (m : Text) → length ws ≢ 0 → try_shape dialect (drop 1 ws) ≡ Err m → at_once (try_page dialect ws) ≡ Some (Done (failure m))
  try_fails ws m h e = ap at_once (try_by ws h ∙ ap (λ r. judged r >>= λ hs. ask (Run Here (word ws 0) (Trying hs))) e)

-- ---- the variables of a handler

pub set_none : (names : List Text) (t u : Text) (f : Standing) → length names < 1 → Comes (set_all (take 2 names) (t ∷ u ∷ [])) f (Has tt) f
set_none [] t u f h = record { same = λ cs ch n. refl }
set_none (name ∷ names) t u f h = absurd (omega arith)

module _ (name : Text) (t u : Text) (f g : Standing) where
  first_stops : (names : List Text) (s : Stop) → Ends (set name t) f (Err s) g → Ends (set_all (take 2 (name ∷ names)) (t ∷ u ∷ [])) f (Err s) g
  first_stops names (stop.Error c) h = fails_on (set name t) (λ _. set_all (take 1 names) (u ∷ [])) f g c h
  first_stops names stop.Memory h = tt

  only_first : (names : List Text) → length names ≡ 0 → Comes (set name t) f (Has tt) g → Comes (set_all (take 2 (name ∷ names)) (t ∷ u ∷ [])) f (Has tt) g
  only_first [] e h = has_on (set name t) (λ _. set_all [] (u ∷ [])) f g tt h
  only_first (n ∷ names) e h = absurd (omega arith)

  second_ends : (second : Text) (names : List Text) (r : Result (Unit {0}) Stop) (h : Standing) → Comes (set name t) f (Has tt) g → Ends (set second u) g r h → Ends (set_all (take 2 (name ∷ second ∷ names)) (t ∷ u ∷ [])) f r h
  second_ends second names (Ok v) h i j =
      then_becomes (has_on (set name t) (λ _. set_all (second ∷ []) (u ∷ [])) f g tt i) (has_on (set second u) (λ _. set_all [] []) g h tt j)
  second_ends second names (Err (stop.Error c)) h i j =
      then_becomes (has_on (set name t) (λ _. set_all (second ∷ []) (u ∷ [])) f g tt i) (fails_on (set second u) (λ _. set_all [] []) g h c j)
  second_ends second names (Err stop.Memory) h i j = tt

module _ (names : List Text) (name t u v : Text) (f g : Standing) (is : name ≡ get_or names 0 name) (same : v ≡ t) where
  -- the first one can't be set
  pub set_first : (s : Stop) → 1 ≤ length names → Ends (set name v) f (Err s) g → Ends (set_all (take 2 names) (t ∷ u ∷ [])) f (Err s) g
  set_first s h ends = by names h is
    where
      by : (ns : List Text) → 1 ≤ length ns → name ≡ get_or ns 0 name → Ends (set_all (take 2 ns) (t ∷ u ∷ [])) f (Err s) g
      by [] i e = absurd (omega arith)
      by (n ∷ ns) i e = first_stops n t u f g ns s (subst (λ x. Ends (set x t) f (Err s) g) e (subst (λ x. Ends (set name x) f (Err s) g) same ends))

  -- there is no second one
  pub set_only : 1 ≤ length names → length names < 2 → Comes (set name v) f (Has tt) g → Comes (set_all (take 2 names) (t ∷ u ∷ [])) f (Has tt) g
  set_only h k comes = by names h k is
    where
      by : (ns : List Text) → 1 ≤ length ns → length ns < 2 → name ≡ get_or ns 0 name → Comes (set_all (take 2 ns) (t ∷ u ∷ [])) f (Has tt) g
      by [] i j e = absurd (omega arith)
      by (n ∷ []) i j e = only_first n t u f g [] refl (subst (λ x. Comes (set x t) f (Has tt) g) e (subst (λ x. Comes (set name x) f (Has tt) g) same comes))
      by (n ∷ m ∷ ns) i j e = absurd (omega arith)

  -- and the second one is set, or can't be
  pub set_second : (second w : Text) (r : Result (Unit {0}) Stop) (h : Standing) → 2 ≤ length names → second ≡ get_or names 1 second → w ≡ u → Comes (set name v) f (Has tt) g → Ends (set second w) g r h
      → Ends (set_all (take 2 names) (t ∷ u ∷ [])) f r h
  set_second second w r h k e i comes ends = by names k is e
    where
      by : (ns : List Text) → 2 ≤ length ns → name ≡ get_or ns 0 name → second ≡ get_or ns 1 second → Ends (set_all (take 2 ns) (t ∷ u ∷ [])) f r h
      by [] j d e = absurd (omega arith)
      by (n ∷ []) j d e = absurd (omega arith)
      by (n ∷ m ∷ ns) j d e =
          second_ends n t u f g m ns r h (subst (λ x. Comes (set x t) f (Has tt) g) d (subst (λ x. Comes (set name x) f (Has tt) g) same comes))
          (subst (λ x. Ends (set x u) g r h) e (subst (λ x. Ends (set second x) g r h) i ends))

-- ---- what is run

module _ (finally : Option Text) (c : Completion) (handler : Handler) (f g : Standing) where
  pub handles : (r : Asked) (v : Value (Unit {0})) → Comes (set_all (take 2 handler.names) (c.result ∷ options_text c ∷ [])) f v g → IsAsked r (handle_by finally handler.script v) → DoesAsk (handle finally c handler) f r g
  handles r v h is =
      asks_on (set_all (take 2 handler.names) (c.result ∷ options_text c ∷ [])) (handle_by finally handler.script) f g v r h (asks_over r (handle_by finally handler.script v) g is)

module _ (finally : Option Text) (c : Completion) (h : Handler) (f g : Standing) (names : List Text) (are : names ≡ h.names) where
  pub handled : (script : Text) (o : Owes) → owes_of o ≡ Handling finally → script ≡ h.script → Comes (set_all (take 2 names) (c.result ∷ options_text c ∷ [])) f (Has tt) g
      → Comes (first_step (handle finally c h)) f (Run Here script (owes_of o)) g
  handled script o owed e comes =
      handles finally c h f g (Ok (step.Run scope.Here script o)) (Has tt) (subst (λ ns. Comes (set_all (take 2 ns) (c.result ∷ options_text c ∷ [])) f (Has tt) g) are comes)
      (ap (λ t. Some (Run Here t (Handling finally))) (sym e) ∙ ap (λ p. Some (Run Here script p)) (sym owed))

  pub unhandled : (r : Asked) (s : Stop) (fault : Completion) → s ≡ stop.Error fault → Ends (set_all (take 2 names) (c.result ∷ options_text c ∷ [])) f (Err s) g → IsAsked r (finish finally fault) → DoesAsk (handle finally c h) f r g
  unhandled r s fault e ends is =
      handles finally c h f g r (Fails fault)
      (subst (λ ns. Comes (set_all (take 2 ns) (c.result ∷ options_text c ∷ [])) f (Fails fault) g) are (subst (λ x. Ends (set_all (take 2 names) (c.result ∷ options_text c ∷ [])) f (Err x) g) e ends)) is

pub tries_none : (hs : Handlers) (c : Completion) (r : Asked) (f : Standing) → handler_for hs.clauses c ≡ None → IsAsked r (finish hs.finally c) → DoesAsk (after_try hs c) f r f
tries_none hs c r f e is = asks_over r (after_try hs c) f (rw e is)

pub tries_some : (hs : Handlers) (c : Completion) (h : Handler) (r : Asked) (f g : Standing) → handler_for hs.clauses c ≡ Some h → DoesAsk (handle hs.finally c h) f r g → DoesAsk (after_try hs c) f r g
tries_some hs c h r f g e does_ask = rw e does_ask
