-- A command that is inlined, with the general call beside it.
use Rattle.std.proofs.Common.{◌≡◌, ℕ, ◌+◌, ◌≤◌, Bool, true, false, List, [], ◌∷◌, ◌++◌, length, refl, sym, ap, ◌∙◌, subst, arith, append_assoc, length-append, cond}
use Rattle.tcl_chars.specs.declared.numbers.Dialect.{Dialect}
use Rattle.tcl_words.specs.Parts.{Shape}
use Rattle.tcl_pages.specs.Texts.{Text}
use Rattle.tcl_meaning.specs.declared.code.Code.{Code}
use Rattle.tcl_meaning.specs.declared.code.Code.TheVariants as ending
use Rattle.tcl_meaning.specs.Asking.{asked, all_answered, value_step}
use Rattle.tcl_meaning.specs.Completions.{Completion, code_now}
use Rattle.tcl_meaning.specs.State.{State}
use Rattle.tcl_meaning.specs.Effects.{Prog, Got, Gives, Broke, Exits, Untold, on_got, exec, plainly, ◌>>=◌ as andthen}
use Rattle.tcl_meaning.specs.Pages.{owed, invoked, page_asks, command_asks}
use Rattle.tcl_meaning.specs.Script.{Run, run_command, page_in}
use Rattle.tcl_meaning.specs.Substitution.{pieces_text}
use Rattle.tcl_meaning.specs.Tasks.{Task}
use Rattle.tcl_meaning.proofs.Runs.{exec_bind}
use Rattle.tcl_meaning.proofs.Reaching.{on_got_give}
use Rattle.tcl_code.specs.declared.inlined.Inlined.{Inlined}
use Rattle.tcl_code.specs.Guards.{name_of, page_of, stands}
use Rattle.tcl_code.specs.Instructions.{Instruction, Guard, Skip}
use Rattle.tcl_code.specs.Machine.{Loop, Texts, Stack, with_text, with_result, result_at, Spot, spot, To, landed, landed_by, exec_code}
use Rattle.tcl_code.specs.Parts.{HasAt, Fits, Lands, Does, Runs}
use Rattle.tcl_code.specs.Valid.{Ahead, Ways, shape, IsFine, ways_of, EachWay}
use Rattle.tcl_code.specs.declared.shape.Shape.{Shape as Standing}
use Rattle.tcl_code.proofs.Guarding.{stands_is}
use Rattle.tcl_code.proofs.Shapes.{Leads, fits_same, fits_joined, joined_back, fits_before, before_at}
use Rattle.tcl_code.proofs.Place.{has_front, has_back}
use Rattle.tcl_code.proofs.Steps.{one_done, here_done, moved_done, same_done}
use Rattle.tcl_compile.specs.Forms.{page_does}
use Rattle.tcl_compile.specs.Fragments.{words_value}
use Rattle.tcl_compile.specs.Inlining.{Says, AllSay, Makes, Uses}
use Rattle.tcl_compile.proofs.Commands.{words_one, command_is}
use Rattle.tcl_compile.proofs.Failing.{finishing, landed_stops, pieces_fail, then_done}

-- ---- two ways that come together

-- an instruction that leads on, or past a part to another one
abbrev pub fork : Instruction → List Instruction → List Instruction → List Instruction
fork i c g = i ∷ (c ++ Skip (length g) ∷ g)

module _ (i : Instruction) (c g : List Instruction) (v s s1 t : Standing) (x : Fits c s t) (y : Fits g s1 t) (fine : IsFine i v) where
  past : Fits (Skip (length g) ∷ g) t t
  past = fits_before (Skip (length g)) g t s1 t y tt ((omega arith, y.ends), tt)

  past_one : past.at 1 ≡ s1
  unfolding past
  past_one = before_at (Skip (length g)) g t s1 t y tt ((omega arith, y.ends), tt) 0 ∙ y.starts

  both : Fits (c ++ Skip (length g) ∷ g) s t
  both = fits_joined c (Skip (length g) ∷ g) s t t x past

  both_past : both.at (length c + 1) ≡ s1
  unfolding both
  both_past = joined_back c (Skip (length g) ∷ g) s t t x past 1 (length c + 1) refl ∙ past_one

  -- past the first one, or on
  pub past_fits : ways_of i v ≡ (Ahead (length c + 1), s1) ∷ (Ahead 0, s) ∷ [] → Fits (fork i c g) v t
  past_fits ways =
      fits_before i (c ++ Skip (length g) ∷ g) v s t both fine
      (subst (λ (ws : Ways). EachWay (Leads (λ k u. (k ≤ length (c ++ Skip (length g) ∷ g)) × (both.at k ≡ u))) ws) (sym ways)
      ((omega (arith, length-append c (Skip (length g) ∷ g)), both_past), ((omega arith, both.starts), tt)))

  -- on, or past the first one
  pub on_fits : ways_of i v ≡ (Ahead 0, s) ∷ (Ahead (length c + 1), s1) ∷ [] → Fits (fork i c g) v t
  on_fits ways =
      fits_before i (c ++ Skip (length g) ∷ g) v s t both fine
      (subst (λ (ws : Ways). EachWay (Leads (λ k u. (k ≤ length (c ++ Skip (length g) ∷ g)) × (both.at k ≡ u))) ws) (sym ways)
      ((omega arith, both.starts), ((omega (arith, length-append c (Skip (length g) ∷ g)), both_past), tt)))

-- behind a guard, and past it
abbrev pub guarded : Inlined → List Instruction → List Instruction → List Instruction
guarded p c g = fork (Guard p (length c + 1)) c g

module _ (dialect : Dialect) where
  -- ---- a completion that is ok comes further

  module _ (code : List Instruction) {os : List Loop} {q r : Completion → Spot} where
    -- what follows it, where any other one stays
    module _ (A : Completion → State → Got Completion) (bad : (c : Completion) (u : State) → (code_now c ≡ ending.Ok → ⊥) → A c u ≡ Gives c u) where
      stops : {p : Spot} {s : State} (c : Completion) (u : State) → (code_now c ≡ ending.Ok → ⊥) → Lands dialect code os p s q (Gives c u) → Lands dialect code os p s r (A c u)
      stops c u h l = record {
        by = λ k.
            let a = l.by k in
            (a.0, a.1, a.2 ∙ landed_stops (exec_code dialect code k) os q (code_now c) c u h ∙ sym (landed_stops (exec_code dialect code k) os r (code_now c) c u h) ∙ ap (landed (exec_code dialect code k) os r) (sym (bad c u h)));
      }

      by_code : {p : Spot} {s : State} (c : Completion) (u : State) (k : Code) → code_now c ≡ k → Lands dialect code os p s q (Gives c u) → (code_now c ≡ ending.Ok → Lands dialect code os (q c) u r (A c u)) → Lands dialect code os p s r (A c u)
      by_code c u ending.Ok e l n = record {
        by = λ k.
            let b = (n e).by k in
            let a = l.by b.0 in
            (a.0, omega (arith, a.1, b.1), a.2 ∙ ap (λ m. landed_by (exec_code dialect code b.0) os q m c u) e ∙ b.2);
      }
      by_code c u ending.Error e l n = stops c u (λ z. cc) l
      by_code c u ending.Return e l n = stops c u (λ z. cc) l
      by_code c u ending.Break e l n = stops c u (λ z. cc) l
      by_code c u ending.Continue e l n = stops c u (λ z. cc) l
      by_code c u (ending.Other z) e l n = stops c u (λ y. cc) l

      pub goes_further : {p : Spot} {s : State} (g : Got Completion) → Lands dialect code os p s q g → ((c : Completion) (u : State) → code_now c ≡ ending.Ok → Lands dialect code os (q c) u r (A c u)) → Lands dialect code os p s r (on_got g A)
      goes_further (Gives c u) l n = by_code c u (code_now c) refl l (n c u)
      goes_further (Broke x) l n = record { by = l.by }
      goes_further (Exits m x) l n = record { by = l.by }
      goes_further (Untold x) l n = record { by = l.by }

    pub further : {p : Spot} {s : State} (g : Got Completion) → Lands dialect code os p s q g → ((c : Completion) (u : State) → code_now c ≡ ending.Ok → Lands dialect code os (q c) u r (Gives c u)) → Lands dialect code os p s r g
    further g l n = same_done dialect code (on_got_give g) (goes_further (λ c u. Gives c u) (λ c u h. refl) g l n)

  -- ---- words whose texts are the same in every state

  pub said_next : (d : ℕ) (ts : Texts) (w : Shape) (ws : List Shape) (u : Text) (s : State) → Says w u → exec (Run dialect) (words_value dialect d ts (w ∷ ws)) s ≡ exec (Run dialect) (words_value dialect d (ts ++ u ∷ []) ws) s
  said_next d ts w ws u s said =
      words_one dialect d ts w ws s said.one
      ∙ exec_bind (Run dialect) (pieces_text d w.pieces) (finishing (λ t. words_value dialect d (ts ++ t ∷ []) ws)) s
      ∙ ap (λ r. on_got r (λ v z. exec (Run dialect) (finishing (λ t. words_value dialect d (ts ++ t ∷ []) ws) v) z)) (said.text dialect d s)

  pub all_said : (d : ℕ) (ts : Texts) (ws : List Shape) (us : Texts) (s : State) → AllSay ws us → exec (Run dialect) (words_value dialect d ts ws) s ≡ exec (Run dialect) (page_in dialect d (invoked dialect (ts ++ us))) s
  all_said d ts [] [] s h = refl
  all_said d ts [] (u ∷ us) s h = absurd h
  all_said d ts (w ∷ ws) [] s h = absurd h
  all_said d ts (w ∷ ws) (u ∷ us) s h =
      said_next d ts w ws u s h.0
      ∙ all_said d (ts ++ u ∷ []) ws us s h.1
      ∙ ap (λ x. exec (Run dialect) (page_in dialect d (invoked dialect x)) s) (append_assoc ts (u ∷ []) us)

  pub command_said : (d : ℕ) (ws : List Shape) (us : Texts) (s : State) → AllSay ws us → exec (Run dialect) (run_command dialect d ws) s ≡ exec (Run dialect) (page_in dialect d (invoked dialect us)) s
  command_said d ws us s h = sym (command_is dialect d ws s) ∙ all_said d [] ws us s h

  -- ---- a name that stands for its page

  pub invoked_stands : (p : Inlined) (ws : Texts) (d : ℕ) (s : State) → stands p s.store ≡ true → exec (Run dialect) (page_in dialect d (invoked dialect (name_of p ∷ ws))) s ≡ exec (Run dialect) (page_in dialect d (page_asks dialect (page_of p) ws)) s
  unfolding invoked asked
  invoked_stands p ws d s e = ap (λ o. exec (Run dialect) (andthen (plainly (command_asks dialect o (name_of p) ws)) (λ v. all_answered dialect (owed dialect) d (value_step v))) s) (stands_is p s.store e)

  -- ---- the guard

  -- where a command's words are there, its page where the name stands for it, and the call beside
  pub guarded_runs : (p : Inlined) (ws : Texts) (f : ℕ → Prog Task Completion) (c g : List Instruction) → ((d : ℕ) (s : State) → exec (Run dialect) (f d) s ≡ exec (Run dialect) (page_in dialect d (invoked dialect (name_of p ∷ ws))) s) → Makes dialect c (page_does dialect p ws) → Runs dialect g f → Runs dialect (guarded p c g) f
  guarded_runs p ws f c g same x y = record {
    from = λ code at last stack d s has. go code at last stack d s has (stands p s.store) refl;
    pays = λ h l d q o. past_fits (Guard p (length c + 1)) c g (shape h l d (q + 1) o) (shape h l d q o) (shape h l d (q + 1) o) (shape h l d q o) (x.keeps h l d q o) (y.pays h l d q o) (omega arith) (ap (λ n. (Ahead (length c + 1), shape h l d (q + 1) o) ∷ (Ahead 0, shape h l d n o) ∷ []) (omega arith));
  }
    where
      go : (code : List Instruction) (at : ℕ) (last : Completion) (stack : Stack) (d : ℕ) (s : State) → HasAt code at (guarded p c g) → (b : Bool) → stands p s.store ≡ b → Lands dialect code stack.loops (spot at (with_result last stack) d) s (result_at (at + length (guarded p c g)) stack d) (exec (Run dialect) (f d) s)
      go code at last stack d s has true e =
          let back = has_back code (at + 1) c (Skip (length g) ∷ g) has.1 in
          one_done dialect code (Guard p (length c + 1)) has.0 (ap (λ b. To (spot (cond b (at + 1) (at + 1 + (length c + 1))) (with_result last stack) d) s) e)
          (same_done dialect code (sym (same d s ∙ invoked_stands p ws d s e))
          (further code (exec (Run dialect) (page_does dialect p ws d) s) (x.from code (at + 1) last stack d s (has_front code (at + 1) c (Skip (length g) ∷ g) has.1))
          (λ r u fine. one_done dialect code (Skip (length g)) back.0 refl (here_done dialect code (omega (arith, length-append c (Skip (length g) ∷ g))) fine))))
      go code at last stack d s has false e =
          let back = has_back code (at + 1) c (Skip (length g) ∷ g) has.1 in
          let n : at + 1 + length c + 1 ≡ at + 1 + (length c + 1) = omega arith in
          one_done dialect code (Guard p (length c + 1)) has.0 (ap (λ b. To (spot (cond b (at + 1) (at + 1 + (length c + 1))) (with_result last stack) d) s) e)
          (moved_done dialect code (omega (arith, length-append c (Skip (length g) ∷ g)))
          (y.from code (at + 1 + (length c + 1)) last stack d s (subst (λ m. HasAt code m g) n back.1)))

  -- ---- the guard, where the text of a word is there

  -- a word, and behind it the page where the name stands for it, and the call beside
  pub word_runs : (p : Inlined) (us : Text → List Text) (ws : List Shape) (w : Shape) (c e g : List Instruction)
      → ((d : ℕ) (s : State) → exec (Run dialect) (run_command dialect d ws) s ≡ exec (Run dialect) (andthen (pieces_text d w.pieces) (finishing (λ t. page_in dialect d (invoked dialect (name_of p ∷ us t))))) s)
      → Does dialect c (λ d. pieces_text d w.pieces) → Uses dialect 0 0 e (λ d t. page_does dialect p (us t) d) → Uses dialect 1 0 g (λ d t. page_in dialect d (invoked dialect (name_of p ∷ us t))) → Runs dialect (c ++ fork (Guard p (length e + 1)) e g) (λ d. run_command dialect d ws)
  word_runs p us ws w c e g is f x y = record {
    from = λ code at last stack d s has.
        same_done dialect code (sym (is d s))
        (then_done dialect code (pieces_text d w.pieces) (λ t. page_in dialect d (invoked dialect (name_of p ∷ us t))) (pieces_fail dialect d w.pieces) (f.from code at (with_result last stack) d s (has_front code at c whole has))
        (λ t u. moved_done dialect code (omega (arith, length-append c whole)) (go code (at + length c) t last stack d u (has_back code at c whole has) (stands p u.store) refl)));
    pays = λ h l d q o.
        fits_joined c whole (shape h l d (q + 1) o) (shape (h + 1) l d (q + 1) o) (shape h l d q o) (f.adds h l d (q + 1) o)
        (past_fits (Guard p (length e + 1)) e g (shape (h + 1) l d (q + 1) o) (shape (h + 1) l d q o) (shape (h + 1) l d (q + 1) o) (shape h l d q o)
        (fits_same (ap (λ n. shape (h + 1) l d n o) (omega arith)) (ap (λ n. shape h l d n o) (omega arith)) (x.fits h l d q o))
        (fits_same refl (ap (λ n. shape h l d n o) (omega arith)) (y.fits h l d q o)) (omega arith)
        (ap (λ n. (Ahead (length e + 1), shape (h + 1) l d (q + 1) o) ∷ (Ahead 0, shape (h + 1) l d n o) ∷ []) (omega arith)));
  }
    where
      whole : List Instruction
      whole = fork (Guard p (length e + 1)) e g

      go : (code : List Instruction) (at : ℕ) (t : Text) (last : Completion) (stack : Stack) (d : ℕ) (u : State) → HasAt code at (fork (Guard p (length e + 1)) e g) → (b : Bool) → stands p u.store ≡ b
          → Lands dialect code stack.loops (spot at (with_text t (with_result last stack)) d) u (result_at (at + length (fork (Guard p (length e + 1)) e g)) stack d) (exec (Run dialect) (page_in dialect d (invoked dialect (name_of p ∷ us t))) u)
      go code at t last stack d u has true k =
          let back = has_back code (at + 1) e (Skip (length g) ∷ g) has.1 in
          one_done dialect code (Guard p (length e + 1)) has.0 (ap (λ b. To (spot (cond b (at + 1) (at + 1 + (length e + 1))) (with_text t (with_result last stack)) d) u) k)
          (same_done dialect code (sym (invoked_stands p (us t) d u k))
          (further code (exec (Run dialect) (page_does dialect p (us t) d) u) (x.from code (at + 1) t last stack d u (has_front code (at + 1) e (Skip (length g) ∷ g) has.1))
          (λ r v fine. one_done dialect code (Skip (length g)) back.0 refl (here_done dialect code (omega (arith, length-append e (Skip (length g) ∷ g))) fine))))
      go code at t last stack d u has false k =
          let back = has_back code (at + 1) e (Skip (length g) ∷ g) has.1 in
          let n : at + 1 + length e + 1 ≡ at + 1 + (length e + 1) = omega arith in
          one_done dialect code (Guard p (length e + 1)) has.0 (ap (λ b. To (spot (cond b (at + 1) (at + 1 + (length e + 1))) (with_text t (with_result last stack)) d) u) k)
          (moved_done dialect code (omega (arith, length-append e (Skip (length g) ∷ g)))
          (y.from code (at + 1 + (length e + 1)) t last stack d u (subst (λ m. HasAt code m g) n back.1)))
