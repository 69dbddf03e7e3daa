-- What the code of commands and scripts does, wherever it stands.
use Rattle.std.proofs.Common.{◌≡◌, ℕ, zero, suc, ◌+◌, ◌-◌, ◌≤◌, Bool, true, false, List, [], ◌∷◌, ◌++◌, length, Result, Ok, Err, refl, sym, ap, ◌∙◌, subst, arith, append-nil, length-append}
use Rattle.tcl_chars.specs.declared.numbers.Dialect.{Dialect}
use Rattle.tcl_list.specs.Elements.{elements_of}
use Rattle.tcl_words.specs.Parts.{Shape}
use Rattle.tcl_words.specs.First.{none, malformed, command, first_command, most_levels}
use Rattle.tcl_words.specs.Syntax.{syntax_text}
use Rattle.tcl_words.specs.declared.fault.Syntax.{Syntax}
use Rattle.tcl_pages.specs.Texts.{Text}
use Rattle.tcl_meaning.specs.declared.code.Code.{Code}
use Rattle.tcl_meaning.specs.declared.code.Code.TheVariants as ending
use Rattle.tcl_meaning.specs.Completions.{Completion, nothing, code_now}
use Rattle.tcl_meaning.specs.State.{State, with_units}
use Rattle.tcl_meaning.specs.Effects.{Prog, Got, Gives, Broke, Exits, Untold, on_got, exec, paid, ◌>>=◌ as andthen}
use Rattle.tcl_meaning.specs.Script.{Run, most_depth, run_command, rest_by, sequence, with_words, page_in}
use Rattle.tcl_meaning.specs.Pages.{invoked}
use Rattle.tcl_meaning.specs.Substitution.{pieces_text, expanded, words_text}
use Rattle.tcl_meaning.specs.Tasks.{Task, Script}
use Rattle.tcl_meaning.specs.Value.{Value, Has, Fails, ◌>>=◌, on_value, judged}
use Rattle.tcl_meaning.proofs.Runs.{exec_bind}
use Rattle.tcl_meaning.proofs.Reaching.{on_got_give}
use Rattle.tcl_meaning.proofs.ScriptRules.{script_end, script_bad, script_broke, script_plan, words_start, words_next, words_after, shape_words}
use Rattle.tcl_code.specs.Instructions.{Instruction, Spend, Call, Gather, Add, AddAll, CallGathered, Raise}
use Rattle.tcl_code.specs.Machine.{Loop, Texts, Stack, stack_of, with_text, with_result, text_at, result_at, on_answer, Spot, spot, Move, To, taken, on_taken, spend, Next, landed, landed_by, follow, exec_code}
use Rattle.tcl_code.specs.Machine as M
use Rattle.tcl_code.specs.Parts.{HasAt, Fits, Adds, Lands, Does, Runs}
use Rattle.tcl_code.specs.Valid.{Ahead, shape, IsFine, ways_of}
use Rattle.tcl_code.proofs.Shapes.{fits_one, fits_stop, fits_none, fits_same, fits_joined}
use Rattle.tcl_code.proofs.Place.{has_front, has_back}
use Rattle.tcl_code.proofs.Steps.{one_done, final_done, here_done, moved_done, same_done}
use Rattle.tcl_compile.specs.Fragments.{words_value, stacked, gathered, Calls, Gathers, adding, Follows}
use Rattle.tcl_compile.proofs.Failing.{finishing, landed_stops, pieces_fail, then_done}
use Rattle.tcl_compile.proofs.Pieces.{taken_all, stacked_more}

shapes_same : {h h' l l' d p p' o : ℕ} → h ≡ h' → l ≡ l' → p ≡ p' → shape h l d p o ≡ shape h' l' d p' o
shapes_same {h} {h'} {l} {l'} {d} {p} {p'} {o} e f g = ap (λ n. shape n l d p o) e ∙ ap (λ n. shape h' n d p o) f ∙ ap (λ n. shape h' l' d n o) g

module _ (dialect : Dialect) where
  -- ---- what is left of a command

  -- words and their command, as what follows a value
  with_words_is : (d : ℕ) (v : Value (List Text)) (s : State) → exec (Run dialect) (with_words dialect d v) s ≡ exec (Run dialect) (finishing (λ ws. page_in dialect d (invoked dialect ws)) v) s
  with_words_is d (Has ws) s = refl
  with_words_is d (Fails c) s = refl

  -- a value in two steps, and then a command's completion
  bound : {A B : Type 0} (m : Prog Task (Value A)) (g : A → Prog Task (Value B)) (f : Value B → Prog Task Completion) → ((c : Completion) (s : State) → exec (Run dialect) (f (Fails c)) s ≡ Gives c s) → (s : State) → exec (Run dialect) (andthen (m >>= g) f) s ≡ exec (Run dialect) (andthen m (finishing (λ a. andthen (g a) f))) s
  bound {A} {B} m g f h s =
      exec_bind (Run dialect) (m >>= g) f s
      ∙ ap (λ r. on_got r (λ v u. exec (Run dialect) (f v) u)) (exec_bind (Run dialect) m (on_value g) s)
      ∙ go (exec (Run dialect) m s)
      ∙ sym (exec_bind (Run dialect) m (finishing (λ a. andthen (g a) f)) s)
    where
      go : (r : Got (Value A)) → on_got (on_got r (λ v u. exec (Run dialect) (on_value g v) u)) (λ v u. exec (Run dialect) (f v) u) ≡ on_got r (λ v u. exec (Run dialect) (finishing (λ a. andthen (g a) f) v) u)
      go (Gives (Has a) u) = sym (exec_bind (Run dialect) (g a) f u)
      go (Gives (Fails c) u) = h c u
      go (Broke x) = refl
      go (Exits n x) = refl
      go (Untold x) = refl

  fails_as : (d : ℕ) (c : Completion) (s : State) → exec (Run dialect) (with_words dialect d (Fails c)) s ≡ Gives c s
  fails_as d c s = refl

  -- the words of a command from one on, by its text
  words_split : (d : ℕ) (ts : Texts) (w : Shape) (ws : List Shape) (s : State) → exec (Run dialect) (words_value dialect d ts (w ∷ ws)) s ≡ exec (Run dialect) (andthen (pieces_text d w.pieces) (finishing (λ t. andthen (expanded w.expands t) (finishing (λ us. words_value dialect d (ts ++ us) ws))))) s
  words_split d ts w ws s =
      exec_bind (Run dialect) (words_after d ts (w ∷ ws)) (with_words dialect d) s
      ∙ ap (λ g. on_got g (λ v u. exec (Run dialect) (with_words dialect d v) u)) (words_next dialect d ts w ws s)
      ∙ sym (exec_bind (Run dialect) (shape_words d w >>= (λ us. words_after d (ts ++ us) ws)) (with_words dialect d) s)
      ∙ bound (shape_words d w) (λ us. words_after d (ts ++ us) ws) (with_words dialect d) (fails_as d) s
      ∙ bound (pieces_text d w.pieces) (expanded w.expands) (finishing (λ us. words_value dialect d (ts ++ us) ws)) (λ c u. refl) s

  -- a word is one, or the elements of its text
  pub words_one : (d : ℕ) (ts : Texts) (w : Shape) (ws : List Shape) (s : State) → w.expands ≡ false → exec (Run dialect) (words_value dialect d ts (w ∷ ws)) s ≡ exec (Run dialect) (andthen (pieces_text d w.pieces) (finishing (λ t. words_value dialect d (ts ++ t ∷ []) ws))) s
  words_one d ts w ws s e = words_split d ts w ws s ∙ ap (λ b. exec (Run dialect) (andthen (pieces_text d w.pieces) (finishing (λ t. andthen (expanded b t) (finishing (λ us. words_value dialect d (ts ++ us) ws))))) s) e

  pub words_all : (d : ℕ) (ts : Texts) (w : Shape) (ws : List Shape) (s : State) → w.expands ≡ true
      → exec (Run dialect) (words_value dialect d ts (w ∷ ws)) s ≡ exec (Run dialect) (andthen (pieces_text d w.pieces) (finishing (λ t. andthen (judged (elements_of t)) (finishing (λ us. words_value dialect d (ts ++ us) ws))))) s
  words_all d ts w ws s e = words_split d ts w ws s ∙ ap (λ b. exec (Run dialect) (andthen (pieces_text d w.pieces) (finishing (λ t. andthen (expanded b t) (finishing (λ us. words_value dialect d (ts ++ us) ws))))) s) e

  pub words_last : (d : ℕ) (ts : Texts) (s : State) → exec (Run dialect) (words_value dialect d ts []) s ≡ exec (Run dialect) (page_in dialect d (invoked dialect ts)) s
  words_last d ts s = ap (λ x. exec (Run dialect) (page_in dialect d (invoked dialect x)) s) (append-nil ts)

  pub command_is : (d : ℕ) (ws : List Shape) (s : State) → exec (Run dialect) (words_value dialect d [] ws) s ≡ exec (Run dialect) (run_command dialect d ws) s
  command_is d ws s =
      exec_bind (Run dialect) (words_after d [] ws) (with_words dialect d) s
      ∙ ap (λ g. on_got g (λ v u. exec (Run dialect) (with_words dialect d v) u)) (sym (words_start dialect d ws s))
      ∙ sym (exec_bind (Run dialect) (words_text d ws) (with_words dialect d) s)

  -- ---- commands

  pub calls_end : (n : ℕ) → Calls dialect n (Call n ∷ []) []
  calls_end n = record {
    from = λ code at ts r stack d s e has.
        final_done dialect code (Call n) has.0
        (λ next. ap (λ x. follow dialect next stack.loops (on_taken x (λ words below. M.Calls words (spot (at + 1) (stack_of below stack.lists stack.results stack.loops) d) s))) (taken_all n ts stack.texts e)
        ∙ ap (landed next stack.loops (result_at (at + 1) stack d)) (sym (words_last d ts s)));
    pays = λ h k l d p o e. fits_one (Call n) (shape (h + k) l d (p + 1) o) (shape h l d p o) _ (omega arith, omega arith) refl (shapes_same (omega arith) refl (omega arith));
  }

  pub calls_next : (n : ℕ) (w : Shape) (ws : List Shape) (c more : List Instruction) → w.expands ≡ false → Does dialect c (λ d. pieces_text d w.pieces) → Calls dialect n more ws → Calls dialect n (c ++ more) (w ∷ ws)
  calls_next n w ws c more plain f g = record {
    from = λ code at ts r stack d s e has.
        let back = has_back code at c more has in
        same_done dialect code (sym (words_one d ts w ws s plain))
        (then_done dialect code (pieces_text d w.pieces) (λ t. words_value dialect d (ts ++ t ∷ []) ws) (pieces_fail dialect d w.pieces) (f.from code at (stacked ts (with_result r stack)) d s (has_front code at c more has))
        (λ t u. moved_done dialect code (omega (arith, length-append c more))
        (subst (λ st. Lands dialect code stack.loops (spot (at + length c) st d) u (result_at (at + length c + length more) stack d) (exec (Run dialect) (words_value dialect d (ts ++ t ∷ []) ws) u)) (stacked_more ts t (with_result r stack))
        (g.from code (at + length c) (ts ++ t ∷ []) r stack d u (omega (arith, e, length-append ts (t ∷ []))) back))));
    pays = λ h k l d p o e. fits_joined c more (shape (h + k) l d (p + 1) o) (shape (h + k + 1) l d (p + 1) o) (shape h l d p o) (f.adds (h + k) l d (p + 1) o) (fits_same (ap (λ m. shape m l d (p + 1) o) (omega arith)) refl (g.pays h (k + 1) l d p o (omega arith)));
  }

  pub command_does : (ws : List Shape) (c : List Instruction) → Calls dialect (length ws) c ws → Runs dialect c (λ d. run_command dialect d ws)
  command_does ws c f = record {
    from = λ code at r stack d s has. same_done dialect code (command_is d ws s) (f.from code at [] r stack d s (omega arith) has);
    pays = λ h l d p o. fits_same (ap (λ m. shape m l d (p + 1) o) (omega arith)) refl (f.pays h 0 l d p o (omega arith));
  }

  -- ---- commands with words that are expanded

  pub gathers_end : Gathers dialect (CallGathered ∷ []) []
  gathers_end = record {
    from = λ code at ts r stack d s has. final_done dialect code CallGathered has.0 (λ next. ap (landed next stack.loops (result_at (at + 1) stack d)) (sym (words_last d ts s)));
    pays = λ h l d p o. fits_one CallGathered (shape h (l + 1) d (p + 1) o) (shape h l d p o) _ (omega arith, omega arith) refl (shapes_same refl (omega arith) (omega arith));
  }

  pub taken_word : (i : Instruction) (c more : List Instruction) (h l d p o : ℕ) → IsFine i (shape (h + 1) (l + 1) d (p + 1) o) → ways_of i (shape (h + 1) (l + 1) d (p + 1) o) ≡ (Ahead 0, shape (h + 1 - 1 + 0) (l + 1) d (p + 1) o) ∷ [] → Adds c → Fits more (shape h (l + 1) d (p + 1) o) (shape h l d p o) → Fits (c ++ i ∷ more) (shape h (l + 1) d (p + 1) o) (shape h l d p o)
  taken_word i c more h l d p o f w a b =
      fits_joined c (i ∷ more) (shape h (l + 1) d (p + 1) o) (shape (h + 1) (l + 1) d (p + 1) o) (shape h l d p o) (a h (l + 1) d (p + 1) o)
      (fits_joined (i ∷ []) more (shape (h + 1) (l + 1) d (p + 1) o) (shape h (l + 1) d (p + 1) o) (shape h l d p o)
      (fits_one i (shape (h + 1) (l + 1) d (p + 1) o) (shape h (l + 1) d (p + 1) o) _ f w (ap (λ n. shape n (l + 1) d (p + 1) o) (omega arith))) b)

  gathers_one : (w : Shape) (ws : List Shape) (c more : List Instruction) → w.expands ≡ false → Does dialect c (λ d. pieces_text d w.pieces) → Gathers dialect more ws → Gathers dialect (c ++ Add ∷ more) (w ∷ ws)
  gathers_one w ws c more plain f g = record {
    from = λ code at ts r stack d s has.
        let back = has_back code at c (Add ∷ more) has in
        same_done dialect code (sym (words_one d ts w ws s plain))
        (then_done dialect code (pieces_text d w.pieces) (λ t. words_value dialect d (ts ++ t ∷ []) ws) (pieces_fail dialect d w.pieces) (f.from code at (gathered ts (with_result r stack)) d s (has_front code at c _ has))
        (λ t u. moved_done dialect code (omega (arith, length-append c (Add ∷ more)))
        (one_done dialect code Add back.0 refl (g.from code (at + length c + 1) (ts ++ t ∷ []) r stack d u back.1))));
    pays = λ h l d p o. taken_word Add c more h l d p o (omega arith, omega arith) refl f.adds (g.pays h l d p o);
  }

  gathers_all : (w : Shape) (ws : List Shape) (c more : List Instruction) → w.expands ≡ true → Does dialect c (λ d. pieces_text d w.pieces) → Gathers dialect more ws → Gathers dialect (c ++ AddAll ∷ more) (w ∷ ws)
  gathers_all w ws c more all f g = record {
    from = λ code at ts r stack d s has.
        let back = has_back code at c (AddAll ∷ more) has in
        same_done dialect code (sym (words_all d ts w ws s all))
        (then_done dialect code (pieces_text d w.pieces) (λ t. andthen (judged (elements_of t)) (finishing (λ us. words_value dialect d (ts ++ us) ws))) (pieces_fail dialect d w.pieces) (f.from code at (gathered ts (with_result r stack)) d s (has_front code at c _ has))
        (λ t u. moved_done dialect code (omega (arith, length-append c (AddAll ∷ more))) (go code (at + length c) ts r stack d t u back (elements_of t) refl)));
    pays = λ h l d p o. taken_word AddAll c more h l d p o (omega arith, omega arith) refl f.adds (g.pays h l d p o);
  }
    where
      go : (code : List Instruction) (at : ℕ) (ts : Texts) (o : Completion) (stack : Stack) (d : ℕ) (t : Text) (u : State) → HasAt code at (AddAll ∷ more) → (r : Result Texts Text) → elements_of t ≡ r
          → Lands dialect code stack.loops (spot at (with_text t (gathered ts (with_result o stack))) d) u (result_at (at + 1 + length more) stack d) (exec (Run dialect) (andthen (judged r) (finishing (λ us. words_value dialect d (ts ++ us) ws))) u)
      go code at ts o stack d t u back (Ok us) e =
          one_done dialect code AddAll back.0 (ap (λ x. on_answer x (λ vs. spot (at + 1) (gathered (ts ++ vs) (with_result o stack)) d) u) e) (g.from code (at + 1) (ts ++ us) o stack d u back.1)
      go code at ts o stack d t u back (Err m) e =
          final_done dialect code AddAll back.0 (λ next. ap (λ x. follow dialect next stack.loops (on_answer x (λ vs. spot (at + 1) (gathered (ts ++ vs) (with_result o stack)) d) u)) e)

  pub gathers_next : (w : Shape) (ws : List Shape) (c more : List Instruction) → Does dialect c (λ d. pieces_text d w.pieces) → Gathers dialect more ws → Gathers dialect (c ++ adding w.expands ∷ more) (w ∷ ws)
  gathers_next w ws c more f g = go w.expands refl
    where
      go : (b : Bool) → w.expands ≡ b → Gathers dialect (c ++ adding w.expands ∷ more) (w ∷ ws)
      go true e = subst (λ b. Gathers dialect (c ++ adding b ∷ more) (w ∷ ws)) (sym e) (gathers_all w ws c more e f g)
      go false e = subst (λ b. Gathers dialect (c ++ adding b ∷ more) (w ∷ ws)) (sym e) (gathers_one w ws c more e f g)

  pub gathered_does : (ws : List Shape) (c : List Instruction) → Gathers dialect c ws → Runs dialect (Gather ∷ c) (λ d. run_command dialect d ws)
  gathered_does ws c f = record {
    from = λ code at r stack d s has. same_done dialect code (command_is d ws s) (one_done dialect code Gather has.0 refl (moved_done dialect code (omega arith) (f.from code (at + 1) [] r stack d s has.1)));
    pays = λ h l d p o. fits_joined (Gather ∷ []) c (shape h l d (p + 1) o) (shape h (l + 1) d (p + 1) o) (shape h l d p o) (fits_one Gather (shape h l d (p + 1) o) (shape h (l + 1) d (p + 1) o) _ tt refl refl) (f.pays h l d p o);
  }

  -- ---- scripts

  pub follows_end : (t rest : Text) → first_command most_levels t ≡ none rest → Follows dialect [] t
  follows_end t rest e = record {
    from = λ code at v stack d s fine le has. same_done dialect code (sym (script_end dialect d v t s rest le e)) (here_done dialect code (omega arith) fine);
    keeps = λ h l d p o. fits_none (shape h l d p o);
  }

  pub follows_bad : (t : Text) (m : Syntax) → first_command most_levels t ≡ malformed m → Follows dialect (Raise (syntax_text m) ∷ []) t
  follows_bad t m e = record {
    from = λ code at v stack d s fine le has. final_done dialect code (Raise (syntax_text m)) has.0 (λ next. ap (landed next stack.loops (result_at (at + 1) stack d)) (sym (script_bad dialect d v t s m le e)));
    keeps = λ h l d p o. fits_stop (Raise (syntax_text m)) (shape h l d p o) (shape h l d p o) tt refl;
  }

  -- a command, and then the rest of its script
  module _ (code : List Instruction) (d : ℕ) (rest : Text) {os : List Loop} {r : Completion → Spot} where
    stops : {p : Spot} {s : State} {q : Completion → Spot} (c : Completion) (u : State) → (code_now c ≡ ending.Ok → ⊥) → Lands dialect code os p s q (Gives c u) → Lands dialect code os p s r (Gives c u)
    stops {q = q} c u h l = record { by = λ k. let a = l.by k in (a.0, a.1, a.2 ∙ landed_stops (exec_code dialect code k) os q (code_now c) c u h ∙ sym (landed_stops (exec_code dialect code k) os r (code_now c) c u h)) }

    go_on : {p : Spot} {s : State} {q : Completion → Spot} (c : Completion) (u : State) (k : Code) → code_now c ≡ k → Lands dialect code os p s q (Gives c u) → (code_now c ≡ ending.Ok → Lands dialect code os (q c) u r (Run dialect (Script d c rest) u)) → Lands dialect code os p s r (exec (Run dialect) (rest_by d rest k c) u)
    go_on {q = q} c u ending.Ok e l n = record {
      by = λ k.
          let b = (same_done dialect code (sym (on_got_give (Run dialect (Script d c rest) u))) (n e)).by k in
          let a = l.by b.0 in
          (a.0, omega (arith, a.1, b.1), a.2 ∙ ap (λ m. landed_by (exec_code dialect code b.0) os q m c u) e ∙ b.2);
    }
    go_on {q = q} c u ending.Error e l n = stops c u (λ z. cc) l
    go_on {q = q} c u ending.Return e l n = stops c u (λ z. cc) l
    go_on {q = q} c u ending.Break e l n = stops c u (λ z. cc) l
    go_on {q = q} c u ending.Continue e l n = stops c u (λ z. cc) l
    go_on {q = q} c u (ending.Other z) e l n = stops c u (λ y. cc) l

    after_command : {p : Spot} {s : State} {q : Completion → Spot} (g : Got Completion) → Lands dialect code os p s q g → ((c : Completion) (u : State) → code_now c ≡ ending.Ok → Lands dialect code os (q c) u r (Run dialect (Script d c rest) u)) → Lands dialect code os p s r (on_got g (λ c u. exec (Run dialect) (rest_by d rest (code_now c) c) u))
    after_command (Gives c u) l n = go_on c u (code_now c) refl l (n c u)
    after_command (Broke x) l n = record { by = l.by }
    after_command (Exits m x) l n = record { by = l.by }
    after_command (Untold x) l n = record { by = l.by }

  pub follows_command : (t : Text) (ws : List Shape) (rest : Text) (c more : List Instruction) → first_command most_levels t ≡ command ws rest → Runs dialect c (λ d. run_command dialect d ws) → Follows dialect more rest → Follows dialect (Spend ∷ (c ++ more)) t
  follows_command t ws rest c more e f g = record { from = λ code at v stack d s fine le has. go code at v stack d s le has s.units refl; keeps = fits }
    where
      fits : (h l d p o : ℕ) → Fits (Spend ∷ (c ++ more)) (shape h l d p o) (shape h l d p o)
      fits h l d p o =
          fits_joined (Spend ∷ []) (c ++ more) (shape h l d p o) (shape h l d (p + 1) o) (shape h l d p o)
          (fits_one Spend (shape h l d p o) (shape h l d (p + 1) o) _ tt refl refl)
          (fits_joined c more (shape h l d (p + 1) o) (shape h l d p o) (shape h l d p o) (f.pays h l d p o) (g.keeps h l d p o))

      go : (code : List Instruction) (at : ℕ) (v : Completion) (stack : Stack) (d : ℕ) (s : State) → d ≤ most_depth → HasAt code at (Spend ∷ (c ++ more)) → (n : ℕ) → s.units ≡ n
          → Lands dialect code stack.loops (spot at (with_result v stack) d) s (result_at (at + length (Spend ∷ (c ++ more))) stack d) (Run dialect (Script d v t) s)
      go code at v stack d s le has zero z =
          final_done dialect code Spend has.0
          (λ next. ap (λ n. follow dialect next stack.loops (spend n (spot (at + 1) (with_result nothing stack) d) s)) z ∙ ap (λ x. landed next stack.loops (result_at (at + length (Spend ∷ (c ++ more))) stack d) x) (sym (script_broke dialect d v t s ws rest le e z)))
      go code at v stack d s le has (suc n) z =
          let back = has_back code (at + 1) c more has.1 in
          let whole = script_plan dialect d v t s (command ws rest) le e ∙ ap (paid (Run dialect) (sequence dialect d ws rest) s) z in
          one_done dialect code Spend has.0 (ap (λ m. spend m (spot (at + 1) (with_result nothing stack) d) s) z)
          (same_done dialect code (sym (whole ∙ exec_bind (Run dialect) (run_command dialect d ws) (λ c. rest_by d rest (code_now c) c) (with_units n s)))
          (after_command code d rest (exec (Run dialect) (run_command dialect d ws) (with_units n s)) (f.from code (at + 1) nothing stack d (with_units n s) (has_front code (at + 1) c more has.1))
          (λ r u fine. moved_done dialect code (omega (arith, length-append c more)) (g.from code (at + 1 + length c) r stack d u fine le back))))
