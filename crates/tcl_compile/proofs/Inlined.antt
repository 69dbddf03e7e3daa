-- The commands that are inlined, but for loops.
use Rattle.std.proofs.Common.{◌≡◌, ℕ, suc, ◌+◌, ◌-◌, false, List, [], ◌∷◌, ◌++◌, length, None, Option, Some, refl, sym, ap, ◌∙◌, subst, arith, length-append}
use Rattle.tcl_chars.specs.declared.numbers.Dialect.{Dialect}
use Rattle.tcl_chars.specs.Texts.{literal}
use Rattle.tcl_pages.specs.Texts.{Text}
use Rattle.tcl_pages.specs.Updates.{update_words, old_of, updated}
use Rattle.tcl_pages.specs.declared.pages.UpdatePage.TheVariants as update
use Rattle.tcl_words.specs.Parts.{Shape}
use Rattle.tcl_meaning.specs.declared.code.Code.{Code}
use Rattle.tcl_meaning.specs.declared.code.Code.TheVariants as ending
use Rattle.tcl_meaning.specs.Asking.{Asks, answered, all_answered, asked, value_step, done}
use Rattle.tcl_meaning.specs.CodePages.{break_page, continue_page}
use Rattle.tcl_meaning.specs.Completions.{Completion, normal, ended, code_now}
use Rattle.tcl_meaning.specs.Control.{expr_page, if_page, if_shaped, next_clause}
use Rattle.tcl_meaning.specs.Shapes.{if_shape}
use Rattle.tcl_meaning.specs.State.{State}
use Rattle.tcl_meaning.specs.Effects.{Plain, Got, Gives, Broke, Exits, Untold, on_got, exec, does, nothing_runs, plainly, ◌>>=◌ as andthen}
use Rattle.tcl_meaning.specs.Expressions.{expression}
use Rattle.tcl_meaning.specs.Pages.{owed, invoked, page_asks}
use Rattle.tcl_meaning.specs.Script.{Run, page_in, run_command}
use Rattle.tcl_meaning.specs.Substitution.{pieces_text}
use Rattle.tcl_meaning.specs.Tasks.{Step, Done, Run as Runs_script, Evaluate, Pay, Nothing}
use Rattle.tcl_meaning.specs.Value.{Value, Has, Fails, ◌>>=◌, on_value, judged, look}
use Rattle.tcl_meaning.specs.Variables.{get, set}
use Rattle.tcl_meaning.specs.VariablePages.{set_page, update_page, old_text}
use Rattle.tcl_meaning.proofs.Runs.{exec_bind}
use Rattle.tcl_meaning.proofs.Plain.{plainly_does}
use Rattle.tcl_code.specs.declared.inlined.Inlined.{Inlined}
use Rattle.tcl_code.specs.declared.inlined.Inlined.TheVariants as inlined
use Rattle.tcl_code.specs.Guards.{name_of}
use Rattle.tcl_code.specs.Instructions.{Instruction, Push, Call, Guard, Under, Write, Bump, Break, Continue, Answer as AnswerTop}
use Rattle.tcl_code.specs.Machine as M
use Rattle.tcl_code.specs.Machine.{Loop, Next, Spot, Stack, spot, with_text, with_result, result_at, on_page, on_code, landed, landed_by, follow}
use Rattle.tcl_code.specs.Parts.{HasAt, Fits, Lands, Does, Runs}
use Rattle.tcl_code.specs.Valid.{Ahead, IsFine, ways_of, shape}
use Rattle.tcl_code.proofs.Place.{has_front, has_back}
use Rattle.tcl_code.proofs.Shapes.{fits_one, fits_stop, fits_joined}
use Rattle.tcl_code.proofs.Steps.{same, one_done, final_done, here_done, moved_done, same_done}
use Rattle.tcl_compile.specs.Forms.{page_does, ClausesCode}
use Rattle.tcl_compile.specs.Inlining.{Says, AllSay, Makes, asking}
use Rattle.tcl_compile.proofs.Commands.{words_one, command_is, calls_end, calls_next, command_does}
use Rattle.tcl_compile.proofs.Guarded.{fork, said_next, command_said, guarded, guarded_runs, word_runs}
use Rattle.tcl_compile.proofs.Failing.{finishing, landed_stops}
use Rattle.tcl_compile.specs.Fragments.{Calls}
use Rattle.tcl_compile.proofs.Pieces.{push_does}
use Rattle.tcl_compile.proofs.Conditions.{tested, evaluated_is, expression_fails}

-- a page is over at once
abbrev IsOver : Got (Value Step) → Type 0
IsOver (Gives (Has (Done c)) s) = Unit {0}
IsOver (Gives (Has (Runs_script scope script owes)) s) = ⊥
IsOver (Gives (Has (Evaluate expr owes)) s) = ⊥
IsOver (Gives (Has (Pay loop)) s) = ⊥
IsOver _ = Unit {0}

over_bind : {A : Type 0} (p : Plain (Value A)) (f : A → Asks) → ((a : A) (u : State) → IsOver (does (f a) u)) → (s : State) → IsOver (does (p >>= f) s)
over_bind {A} p f h s = subst IsOver (sym (exec_bind nothing_runs p (on_value f) s)) (go (does p s))
  where
    go : (g : Got (Value A)) → IsOver (on_got g (λ v u. exec nothing_runs (on_value f v) u))
    go (Gives (Has a) u) = h a u
    go (Gives (Fails c) u) = tt
    go (Broke r) = tt
    go (Exits n r) = tt
    go (Untold c) = tt

module _ (dialect : Dialect) where
  -- ---- a page that is over at once

  coded : (next : Next) (os : List Loop) (to : Completion → Spot) (k : Code) (c : Completion) (u : State) → code_now c ≡ k → follow dialect next os (on_code k c to u) ≡ landed_by next os to k c u
  coded next os to ending.Ok c u e = refl
  coded next os to ending.Error c u e = ap (λ k. M.thrown_by next os k c u) e
  coded next os to ending.Return c u e = ap (λ k. M.thrown_by next os k c u) e
  coded next os to ending.Break c u e = ap (λ k. M.thrown_by next os k c u) e
  coded next os to ending.Continue c u e = ap (λ k. M.thrown_by next os k c u) e
  coded next os to (ending.Other z) c u e = ap (λ k. M.thrown_by next os k c u) e

  page_over : (next : Next) (os : List Loop) (to : Completion → Spot) (page : Asks) (d : ℕ) (s : State) → IsOver (does page s) → follow dialect next os (on_page (does page s) to) ≡ landed next os to (exec (Run dialect) (page_in dialect d page) s)
  unfolding asked all_answered answered
  page_over next os to page d s h =
      go (does page s) h
      ∙ sym (ap (landed next os to) (exec_bind (Run dialect) (plainly page) (λ v. all_answered dialect (owed dialect) d (value_step v)) s ∙ ap (λ g. on_got g (λ v u. exec (Run dialect) (all_answered dialect (owed dialect) d (value_step v)) u)) (plainly_does (Run dialect) page s)))
    where
      go : (g : Got (Value Step)) → IsOver g → follow dialect next os (on_page g to) ≡ landed next os to (on_got g (λ v u. exec (Run dialect) (all_answered dialect (owed dialect) d (value_step v)) u))
      go (Gives (Has (Done c)) u) h = coded next os to (code_now c) c u refl
      go (Gives (Has (Runs_script scope script owes)) u) h = absurd h
      go (Gives (Has (Evaluate expr owes)) u) h = absurd h
      go (Gives (Has (Pay loop)) u) h = absurd h
      go (Gives (Fails c) u) h = coded next os to (code_now c) c u refl
      go (Broke r) h = refl
      go (Exits n r) h = refl
      go (Untold c) h = refl

  -- ---- set, incr

  set_over : (name t : Text) (s : State) → IsOver (does (set_page (name ∷ t ∷ [])) s)
  unfolding set_page
  set_over name t s = over_bind (set name t) (λ z. done (normal t)) (λ z u. tt) s

  incr_over : (name t : Text) (s : State) → IsOver (does (update_page dialect update.Incr (name ∷ t ∷ [])) s)
  unfolding update_page
  incr_over name t s =
      over_bind (judged (update_words update.Incr (name ∷ t ∷ []))) (λ w. look >>= λ st. old_text (old_of update.Incr w.words) w.name (get st w.name) >>= λ old. judged (updated dialect update.Incr old w.words) >>= λ new. set w.name new >>= λ x. done (normal new))
      (λ w u. over_bind look (λ st. old_text (old_of update.Incr w.words) w.name (get st w.name) >>= λ old. judged (updated dialect update.Incr old w.words) >>= λ new. set w.name new >>= λ x. done (normal new))
      (λ st v. over_bind (old_text (old_of update.Incr w.words) w.name (get st w.name)) (λ old. judged (updated dialect update.Incr old w.words) >>= λ new. set w.name new >>= λ x. done (normal new))
      (λ old z. over_bind (judged (updated dialect update.Incr old w.words)) (λ new. set w.name new >>= λ x. done (normal new)) (λ new y. over_bind (set w.name new) (λ x. done (normal new)) (λ x q. tt {0}) y) z) v) u) s

  -- with the text on top
  pub write_lands : (code : List Instruction) (at : ℕ) (name t : Text) (last : Completion) (stack : Stack) (d : ℕ) (s : State) → HasAt code at (Write name ∷ []) → Lands dialect code stack.loops (spot at (with_text t (with_result last stack)) d) s (result_at (at + 1) stack d) (exec (Run dialect) (page_does dialect inlined.Set (name ∷ t ∷ []) d) s)
  unfolding page_asks
  write_lands code at name t last stack d s has = final_done dialect code (Write name) has.0 (λ next. page_over next stack.loops (result_at (at + 1) stack d) (set_page (name ∷ t ∷ [])) d s (set_over name t s))

  pub bump_lands : (code : List Instruction) (at : ℕ) (name t : Text) (last : Completion) (stack : Stack) (d : ℕ) (s : State) → HasAt code at (Bump name ∷ []) → Lands dialect code stack.loops (spot at (with_text t (with_result last stack)) d) s (result_at (at + 1) stack d) (exec (Run dialect) (page_does dialect inlined.Incr (name ∷ t ∷ []) d) s)
  unfolding page_asks
  bump_lands code at name t last stack d s has = final_done dialect code (Bump name) has.0 (λ next. page_over next stack.loops (result_at (at + 1) stack d) (update_page dialect update.Incr (name ∷ t ∷ [])) d s (incr_over name t s))

  pub incr_makes : (name : Text) → Makes dialect (Push (literal "1") ∷ Bump name ∷ []) (page_does dialect inlined.Incr (name ∷ []))
  unfolding page_asks update_page
  incr_makes name = record {
    from = λ code at last stack d s has. one_done dialect code (Push (literal "1")) has.0 refl (moved_done dialect code (omega arith) (bump_lands code (at + 1) name (literal "1") last stack d s has.1));
    keeps = λ h l d p o. fits_joined (Push (literal "1") ∷ []) (Bump name ∷ []) (shape h l d p o) (shape (h + 1) l d p o) (shape h l d p o) (fits_one (Push (literal "1")) (shape h l d p o) (shape (h + 1) l d p o) _ tt refl (ap (λ n. shape n l d p o) (omega arith))) (fits_one (Bump name) (shape (h + 1) l d p o) (shape h l d p o) _ (omega arith) refl (ap (λ n. shape n l d p o) (omega arith)));
  }

  -- ---- break, continue

  pub broken : (next : Next) (os : List Loop) (to : Completion → Spot) (c : Completion) (u : State) → (code_now c ≡ ending.Ok → ⊥) → follow dialect next os (M.Fails c u) ≡ landed next os to (Gives c u)
  broken next os to c u h = sym (landed_stops next os to (code_now c) c u h)

  break_is : (d : ℕ) (s : State) → exec (Run dialect) (page_does dialect inlined.Break [] d) s ≡ Gives (ended ending.Break []) s
  unfolding page_asks break_page asked all_answered answered
  break_is d s = refl

  continue_is : (d : ℕ) (s : State) → exec (Run dialect) (page_does dialect inlined.Continue [] d) s ≡ Gives (ended ending.Continue []) s
  unfolding page_asks continue_page asked all_answered answered
  continue_is d s = refl

  pub break_makes : Makes dialect (Break ∷ []) (page_does dialect inlined.Break [])
  break_makes = record {
    from = λ code at last stack d s has. same_done dialect code (sym (break_is d s)) (final_done dialect code {os = stack.loops} {p = spot at (with_result last stack) d} {s = s} {r = result_at (at + 1) stack d} {g = Gives (ended ending.Break []) s} Break has.0 (λ next. broken next stack.loops (result_at (at + 1) stack d) (ended ending.Break []) s (λ z. cc)));
    keeps = λ h l d p o. fits_stop Break (shape h l d p o) (shape h l d p o) tt refl;
  }

  pub continue_makes : Makes dialect (Continue ∷ []) (page_does dialect inlined.Continue [])
  continue_makes = record {
    from = λ code at last stack d s has. same_done dialect code (sym (continue_is d s)) (final_done dialect code {os = stack.loops} {p = spot at (with_result last stack) d} {s = s} {r = result_at (at + 1) stack d} {g = Gives (ended ending.Continue []) s} Continue has.0 (λ next. broken next stack.loops (result_at (at + 1) stack d) (ended ending.Continue []) s (λ z. cc)));
    keeps = λ h l d p o. fits_stop Continue (shape h l d p o) (shape h l d p o) tt refl;
  }

  -- ---- expr of one word

  pub expr_makes : (e : Text) (t : List Instruction) → Does dialect t (λ d. expression dialect d e) → Makes dialect (t ++ AnswerTop ∷ []) (page_does dialect inlined.Expr (e ∷ []))
  unfolding page_asks expr_page asked all_answered answered owed
  expr_makes e t x = record {
    from = λ code at last stack d s has.
        let back = has_back code at t (AnswerTop ∷ []) has in
        same_done dialect code (sym (evaluated_is dialect 0 d e Nothing s))
        (tested dialect code (λ c u. Gives c u) (λ c u h. refl) (exec (Run dialect) (expression dialect d e) s) ((expression_fails dialect d e).fails s)
        (x.from code at (with_result last stack) d s (has_front code at t (AnswerTop ∷ []) has))
        (λ v u k. one_done dialect code AnswerTop back.0 refl (here_done dialect code (omega (arith, length-append t (AnswerTop ∷ []))) refl)));
    keeps = λ h l d p o. fits_joined t (AnswerTop ∷ []) (shape h l d p o) (shape (h + 1) l d p o) (shape h l d p o) (x.adds h l d p o) (fits_one AnswerTop (shape (h + 1) l d p o) (shape h l d p o) _ (omega arith) refl (ap (λ n. shape n l d p o) (omega arith)));
  }

  -- ---- if

  pub clauses_are : (cs : List (Text × Text)) (o : Option Text) (d : ℕ) (s : State) → exec (Run dialect) (page_in dialect d (next_clause cs o)) s ≡ exec (Run dialect) (asking dialect (suc (length cs)) (next_clause cs o) d) s
  unfolding asked all_answered answered
  clauses_are [] None d s = refl
  clauses_are [] (Some body) d s = refl
  clauses_are (c ∷ cs) o d s = refl

  pub if_makes : (ws : List Text) (cs : List (Text × Text)) (o : Option Text) (g : List Instruction) → if_shape ws ≡ Some (record { clauses = cs; otherwise = o }) → ClausesCode dialect cs o g → Makes dialect g (page_does dialect inlined.If ws)
  unfolding page_asks if_page asked all_answered
  if_makes ws cs o g e x = record {
    from = λ code at last stack d s has. same_done dialect code (sym (ap (λ z. exec (Run dialect) (page_in dialect d (if_shaped z)) s) e ∙ clauses_are cs o d s)) (x.from code at last stack d s has);
    keeps = x.keeps;
  }

  -- ---- a variable's change by the text of a word

  -- what changes it
  abbrev pub Changing : Inlined → Text → Instruction → Type 0
  Changing p name i = (code : List Instruction) (at : ℕ) (t : Text) (last : Completion) (stack : Stack) (d : ℕ) (s : State) → HasAt code at (i ∷ []) → Lands dialect code stack.loops (spot at (with_text t (with_result last stack)) d) s (result_at (at + 1) stack d) (exec (Run dialect) (page_does dialect p (name ∷ t ∷ []) d) s)

  abbrev pub general : Inlined → Text → List Instruction
  general p name = Under (name_of p) ∷ Under name ∷ Call 3 ∷ []

  abbrev pub update_code : Inlined → Text → Instruction → List Instruction → List Instruction
  update_code p name i c = c ++ fork (Guard p 2) (i ∷ []) (general p name)

  update_is : (p : Inlined) (name : Text) (w0 w1 w : Shape) (d : ℕ) (s : State) → Says w0 (name_of p) → Says w1 name → w.expands ≡ false
      → exec (Run dialect) (run_command dialect d (w0 ∷ w1 ∷ w ∷ [])) s ≡ exec (Run dialect) (andthen (pieces_text d w.pieces) (finishing (λ t. page_in dialect d (invoked dialect (name_of p ∷ name ∷ t ∷ []))))) s
  update_is p name w0 w1 w d s x0 x1 one =
      sym (command_is dialect d (w0 ∷ w1 ∷ w ∷ []) s)
      ∙ said_next dialect d [] w0 (w1 ∷ w ∷ []) (name_of p) s x0
      ∙ said_next dialect d (name_of p ∷ []) w1 (w ∷ []) name s x1
      ∙ words_one dialect d (name_of p ∷ name ∷ []) w [] s one

  pub update_runs : (p : Inlined) (name : Text) (i : Instruction) (w0 w1 w : Shape) (c : List Instruction) → Says w0 (name_of p) → Says w1 name → w.expands ≡ false → Changing p name i → ((h l d q o : ℕ) → Fits (i ∷ []) (shape (h + 1) l d q o) (shape h l d q o)) → Does dialect c (λ d. pieces_text d w.pieces)
      → Runs dialect (update_code p name i c) (λ d. run_command dialect d (w0 ∷ w1 ∷ w ∷ []))
  update_runs p name i w0 w1 w c x0 x1 one ch fits f =
      word_runs dialect p (λ t. name ∷ t ∷ []) (w0 ∷ w1 ∷ w ∷ []) w c (i ∷ []) (general p name) (λ d s. update_is p name w0 w1 w d s x0 x1 one) f
      (record { from = λ code at t last stack d s has. ch code at t last stack d s has; fits = λ h l d q o. fits h l d (q + 0) o })
      (record { from = called; fits = fits_called })
    where
      called : (code : List Instruction) (at : ℕ) (t : Text) (last : Completion) (stack : Stack) (d : ℕ) (u : State) → HasAt code at (general p name) → Lands dialect code stack.loops (spot at (with_text t (with_result last stack)) d) u (result_at (at + length (general p name)) stack d) (exec (Run dialect) (page_in dialect d (invoked dialect (name_of p ∷ name ∷ t ∷ []))) u)
      called code at t last stack d u has =
          one_done dialect code (Under (name_of p)) has.0 refl (one_done dialect code (Under name) has.1.0 refl
          (moved_done dialect code (omega arith) (final_done dialect code {os = stack.loops} {p = spot (at + 1 + 1) (with_text t (with_text name (with_text (name_of p) (with_result last stack)))) d} {s = u} {r = result_at (at + 1 + 1 + 1) stack d} (Call 3) has.1.1.0 (λ next. refl))))

      fits_called : (h l d q o : ℕ) → Fits (general p name) (shape (h + 1) l d (q + 1) o) (shape h l d (q + 0) o)
      fits_called h l d q o =
          fits_joined (Under (name_of p) ∷ []) (Under name ∷ Call 3 ∷ []) (shape (h + 1) l d (q + 1) o) (shape (h + 2) l d (q + 1) o) (shape h l d (q + 0) o)
          (fits_one (Under (name_of p)) (shape (h + 1) l d (q + 1) o) (shape (h + 2) l d (q + 1) o) _ (omega arith) refl (ap (λ n. shape n l d (q + 1) o) (omega arith)))
          (fits_joined (Under name ∷ []) (Call 3 ∷ []) (shape (h + 2) l d (q + 1) o) (shape (h + 3) l d (q + 1) o) (shape h l d (q + 0) o)
          (fits_one (Under name) (shape (h + 2) l d (q + 1) o) (shape (h + 3) l d (q + 1) o) _ (omega arith) refl (ap (λ n. shape n l d (q + 1) o) (omega arith)))
          (fits_one (Call 3) (shape (h + 3) l d (q + 1) o) (shape h l d (q + 0) o) _ (omega arith, omega arith) refl (ap (λ n. shape n l d (q + 1 - 1) o) (omega arith) ∙ ap (λ n. shape h l d n o) (omega arith))))

  pop_fits : (i : Instruction) → ((h l d q o : ℕ) → IsFine i (shape (h + 1) l d q o)) → ((h l d q o : ℕ) → ways_of i (shape (h + 1) l d q o) ≡ (Ahead 0, shape (h + 1 - 1 + 0) l d q o) ∷ []) → (h l d q o : ℕ) → Fits (i ∷ []) (shape (h + 1) l d q o) (shape h l d q o)
  pop_fits i f w h l d q o = fits_one i (shape (h + 1) l d q o) (shape h l d q o) _ (f h l d q o) (w h l d q o) (ap (λ n. shape n l d q o) (omega arith))

  pub set_runs : (name : Text) (w0 w1 w : Shape) (c : List Instruction) → Says w0 (name_of inlined.Set) → Says w1 name → w.expands ≡ false → Does dialect c (λ d. pieces_text d w.pieces) → Runs dialect (update_code inlined.Set name (Write name) c) (λ d. run_command dialect d (w0 ∷ w1 ∷ w ∷ []))
  set_runs name w0 w1 w c x0 x1 one f = update_runs inlined.Set name (Write name) w0 w1 w c x0 x1 one (λ code at t last stack d s has. write_lands code at name t last stack d s has) (pop_fits (Write name) (λ h l d q o. omega arith) (λ h l d q o. refl)) f

  pub bump_runs : (name : Text) (w0 w1 w : Shape) (c : List Instruction) → Says w0 (name_of inlined.Incr) → Says w1 name → w.expands ≡ false → Does dialect c (λ d. pieces_text d w.pieces) → Runs dialect (update_code inlined.Incr name (Bump name) c) (λ d. run_command dialect d (w0 ∷ w1 ∷ w ∷ []))
  bump_runs name w0 w1 w c x0 x1 one f = update_runs inlined.Incr name (Bump name) w0 w1 w c x0 x1 one (λ code at t last stack d s has. bump_lands code at name t last stack d s has) (pop_fits (Bump name) (λ h l d q o. omega arith) (λ h l d q o. refl)) f

  -- ---- a command of literal words

  says_does : (w : Shape) (u : Text) → Says w u → Does dialect (Push u ∷ []) (λ d. pieces_text d w.pieces)
  says_does w u said = record {
    from = λ code at stack d s has. same dialect code (sym (said.text dialect d s)) ((push_does dialect u).from code at stack d s has);
    adds = (push_does dialect u).adds;
  }

  abbrev pub pushes : List Text → ℕ → List Instruction
  pushes [] n = Call n ∷ []
  pushes (u ∷ us) n = Push u ∷ pushes us n

  call_said : (n : ℕ) (ws : List Shape) (us : List Text) → AllSay ws us → Calls dialect n (pushes us n) ws
  call_said n [] [] h = calls_end dialect n
  call_said n [] (u ∷ us) h = absurd h
  call_said n (w ∷ ws) [] h = absurd h
  call_said n (w ∷ ws) (u ∷ us) h = let said = h.0 in calls_next dialect n w ws (Push u ∷ []) (pushes us n) said.one (says_does w u h.0) (call_said n ws us h.1)

  -- a page for such a command, and the call beside it
  pub literal_runs : (p : Inlined) (ws : List Shape) (us : List Text) (c : List Instruction) → AllSay ws (name_of p ∷ us) → Makes dialect c (page_does dialect p us) → Runs dialect (guarded p c (pushes (name_of p ∷ us) (length ws))) (λ d. run_command dialect d ws)
  literal_runs p ws us c h x = guarded_runs dialect p us (λ d. run_command dialect d ws) c (pushes (name_of p ∷ us) (length ws)) (λ d s. command_said dialect d ws (name_of p ∷ us) s h) x (command_does dialect ws (pushes (name_of p ∷ us) (length ws)) (call_said (length ws) ws (name_of p ∷ us) h))
