-- Loops with a condition, inlined.
use Rattle.std.proofs.Common.{◌≡◌, ℕ, zero, suc, ◌+◌, ◌-◌, ◌<◌, ◌≤◌, false, List, [], ◌∷◌, ◌++◌, length, refl, sym, ap, ◌∙◌, subst, arith, length-append}
use Rattle.tcl_chars.specs.declared.numbers.Dialect.{Dialect}
use Rattle.tcl_pages.specs.Texts.{Text}
use Rattle.tcl_meaning.specs.Asking.{Asks, answered, done, ask}
use Rattle.tcl_meaning.specs.Beginnings.{units_of}
use Rattle.tcl_meaning.specs.Completions.{Completion, nothing}
use Rattle.tcl_meaning.specs.Control.{if_true, turned}
use Rattle.tcl_meaning.specs.State.{State, with_units}
use Rattle.tcl_meaning.specs.Effects.{Prog, Gives, exec, paid}
use Rattle.tcl_meaning.specs.Expressions.{expression}
use Rattle.tcl_meaning.specs.Pages.{owed}
use Rattle.tcl_meaning.specs.Script.{Run, plan, page_in}
use Rattle.tcl_meaning.specs.Tasks.{Task, Owes, Evaluate, Turn as turn_task, Pay}
use Rattle.tcl_meaning.specs.Tasks as tasks
use Rattle.tcl_meaning.proofs.Runs.{exec_goes, outcome_law}
use Rattle.tcl_meaning.proofs.Reaching.{on_got_give}
use Rattle.tcl_meaning.proofs.ScriptRules.{run_onward}
use Rattle.tcl_code.specs.Instructions.{Instruction, Push, Answer as AnswerTop, Skip, SkipWhen, Turn}
use Rattle.tcl_code.specs.Machine.{Stack, with_result, result_at, Spot, spot, landed, spend, follow}
use Rattle.tcl_code.specs.Parts.{HasAt, Fits, Lands, Does}
use Rattle.tcl_code.specs.Valid.{shape}
use Rattle.tcl_code.specs.declared.shape.Shape.{Shape as Standing}
use Rattle.tcl_code.proofs.Place.{has_front, has_back}
use Rattle.tcl_code.proofs.Placing.{Stands, Placed, placed_joined, placed_fits, fits_placed}
use Rattle.tcl_code.proofs.Steps.{one_done, final_done, here_done, same_done}
use Rattle.tcl_compile.specs.Inlining.{Makes, asking}
use Rattle.tcl_compile.proofs.Bodies.{Opens, piece, piece_front, piece_back, stands_at}
use Rattle.tcl_compile.proofs.Conditions.{condition_is, test_stops, forks, tested, expression_fails}

-- to the test; what is run in a turn, and behind it what follows a `break`; the test, and a turn back; an empty result
abbrev pub loop_code : List Instruction → List Instruction → List Instruction
loop_code c t = Skip (length c + 1) ∷ (c ++ Skip (length t + 2) ∷ (t ++ SkipWhen false 1 ∷ Turn (length c + length t + 2) ∷ Push [] ∷ AnswerTop ∷ []))

module _ (dialect : Dialect) where
  -- A turn of a loop that has been paid for: past one more instruction to what is asked next, and at that one after `break`.
  pub record Turns (c : List Instruction) (loop : tasks.Loop) (next : Asks) : Type 0 where
    pub from : (code : List Instruction) (at : ℕ) (last : Completion) (stack : Stack) (d : ℕ) (r : Completion → Spot) (u : State) → HasAt code at c → ((v : State) → v.units ≤ u.units → Lands dialect code stack.loops (spot (at + length c + 1) (with_result last stack) d) v r (exec (Run dialect) (asking dialect 1 next d) v))
        → ((v : State) → Lands dialect code stack.loops (spot (at + length c) (with_result last stack) d) v r (Gives nothing v)) → Lands dialect code stack.loops (spot at (with_result last stack) d) u r (exec (Run dialect) (page_in dialect d (turned loop)) u)
    pub opens : (h l d p o : ℕ) → Opens c (shape h l d p o)

  pub turn_is : (d : ℕ) (loop : tasks.Loop) (u : State) → exec (Run dialect) (asking dialect 0 (ask (Pay loop)) d) u ≡ paid (Run dialect) (page_in dialect d (turned loop)) u u.units
  unfolding answered plan
  turn_is d loop u = on_got_give (Run dialect (turn_task d loop) u) ∙ outcome_law (plan dialect) (turn_task d loop) u

  module _ (loop : tasks.Loop) (test : Text) (owes : Owes) (owe : (c : Completion) → owed dialect owes c ≡ if_true dialect c (ask (Pay loop)) (done nothing)) (t c : List Instruction) (x : Does dialect t (λ d. expression dialect d test)) (f : Turns c loop (ask (Evaluate test owes))) where
    abbrev next_test : ℕ → Prog Task Completion
    next_test d = asking dialect 1 (ask (Evaluate test owes)) d

    module _ (code : List Instruction) (at : ℕ) (stack : Stack) (d : ℕ) (has : HasAt code at (loop_code c t)) where
      abbrev Tail : List Instruction
      Tail = SkipWhen false 1 ∷ Turn (length c + length t + 2) ∷ Push [] ∷ AnswerTop ∷ []

      abbrev top : ℕ
      top = at + 1 + length c + 1

      abbrev end : Completion → Spot
      end = result_at (at + length (loop_code c t)) stack d

      behind_turn : HasAt code (at + 1 + length c) (Skip (length t + 2) ∷ (t ++ Tail))
      behind_turn = has_back code (at + 1) c (Skip (length t + 2) ∷ (t ++ Tail)) has.1

      behind_test : HasAt code (top + length t) Tail
      behind_test = has_back code top t Tail behind_turn.1

      -- how far the whole goes
      long : length (loop_code c t) ≡ length c + length t + 6
      long = omega (arith, length-append c (Skip (length t + 2) ∷ (t ++ Tail)), length-append t Tail)

      out : (last : Completion) (u : State) (p : ℕ) → p ≡ top + length t + 1 + 1 → Lands dialect code stack.loops (spot p (with_result last stack) d) u end (Gives nothing u)
      out last u p e =
          let h = subst (λ n. HasAt code n (Push [] ∷ AnswerTop ∷ [])) (sym e) behind_test.1.1 in
          one_done dialect code (Push []) h.0 refl (one_done dialect code AnswerTop h.1.0 refl (here_done dialect code (omega (arith, e, long)) refl))

      ended : (last : Completion) (u : State) → Lands dialect code stack.loops (spot (top + length t + 1 + 1) (with_result last stack) d) u end (exec (Run dialect) (asking dialect 0 (done nothing) d) u)
      unfolding answered
      ended last u = out last u (top + length t + 1 + 1) refl

      abbrev Tests : ℕ → Type 0
      Tests n = (last : Completion) (s : State) → s.units < n → Lands dialect code stack.loops (spot top (with_result last stack) d) s end (exec (Run dialect) (next_test d) s)

      turned_back : (n : ℕ) → Tests n → (last : Completion) (u : State) → u.units < suc n → (m : ℕ) → u.units ≡ m → Lands dialect code stack.loops (spot (top + length t + 1) (with_result last stack) d) u end (exec (Run dialect) (asking dialect 0 (ask (Pay loop)) d) u)
      turned_back n ih last u lt zero z =
          final_done dialect code (Turn (length c + length t + 2)) behind_test.1.0
          (λ next. ap (λ k. follow dialect next stack.loops (spend k (spot (top + length t + 1 - (length c + length t + 2)) (with_result last stack) d) u)) z
          ∙ ap (landed next stack.loops end) (sym (turn_is d loop u ∙ ap (paid (Run dialect) (page_in dialect d (turned loop)) u) z)))
      turned_back n ih last u lt (suc m) z =
          let e : at + 1 ≡ top + length t + 1 - (length c + length t + 2) = omega arith in
          one_done dialect code (Turn (length c + length t + 2)) behind_test.1.0 (ap (λ k. spend k (spot (top + length t + 1 - (length c + length t + 2)) (with_result last stack) d) u) z)
          (same_done dialect code (sym (turn_is d loop u ∙ ap (paid (Run dialect) (page_in dialect d (turned loop)) u) z))
          (subst (λ p. Lands dialect code stack.loops (spot p (with_result last stack) d) (with_units m u) end (exec (Run dialect) (page_in dialect d (turned loop)) (with_units m u))) e
          (f.from code (at + 1) last stack d end (with_units m u) (has_front code (at + 1) c (Skip (length t + 2) ∷ (t ++ Tail)) has.1)
          (λ v le. ih last v (omega (arith, lt, z, le)))
          (λ v. one_done dialect code (Skip (length t + 2)) behind_turn.0 refl (out last v _ (omega arith))))))

      tests : (n : ℕ) → Tests n
      tests zero last s lt = absurd (omega (arith, lt))
      tests (suc n) last s lt =
          same_done dialect code (sym (condition_is dialect 0 test owes (ask (Pay loop)) (done nothing) owe d s))
          (tested dialect code (λ r u. exec (Run dialect) (asking dialect 0 (if_true dialect r (ask (Pay loop)) (done nothing)) d) u) (λ r u h. test_stops dialect d 0 (ask (Pay loop)) (done nothing) r u h) (exec (Run dialect) (expression dialect d test) s) ((expression_fails dialect d test).fails s)
          (x.from code top (with_result last stack) d s (has_front code top t Tail behind_turn.1))
          (λ v u k. let less = (exec_goes (Run dialect) (run_onward dialect) (expression dialect d test) s).spends in
          let same = ap units_of k in
          forks dialect code (top + length t) 1 0 d (with_result last stack) (ask (Pay loop)) (done nothing) behind_test.0 v u
          (turned_back n (tests n) last u (omega (arith, less, same, lt)) u.units refl)
          (ended last u)))

      loop_lands : (last : Completion) (s : State) → Lands dialect code stack.loops (spot at (with_result last stack) d) s end (exec (Run dialect) (next_test d) s)
      loop_lands last s =
          let e : top ≡ at + 1 + (length c + 1) = omega arith in
          one_done dialect code (Skip (length c + 1)) has.0 refl
          (subst (λ p. Lands dialect code stack.loops (spot p (with_result last stack) d) s end (exec (Run dialect) (next_test d) s)) e (tests (suc s.units) last s (omega arith)))

-- ---- the shapes of a loop

module _ (t c : List Instruction) (h l d p o : ℕ) (x : Fits t (shape h l d p o) (shape (h + 1) l d p o)) (y : Opens c (shape h l d p o)) where
  abbrev Base : Standing
  Base = shape h l d p o

  abbrev More : Standing
  More = shape (h + 1) l d p o

  last3 : ℕ → Standing
  last3 = piece 2 (λ n. Base) (piece 1 (λ n. More) (λ n. Base))

  table : ℕ → Standing
  table = piece 1 (λ n. Base) (piece (length c + 1) y.shapes (piece (length t + 1) x.at last3))

  abbrev count : ℕ
  count = length c + length t + 6

  in_front : (n : ℕ) → n ≡ 0 → table n ≡ Base
  unfolding table
  in_front n e = piece_front 1 (λ n. Base) (piece (length c + 1) y.shapes (piece (length t + 1) x.at last3)) n (omega arith)

  in_turn : (n m : ℕ) → n ≡ 1 + m → m ≤ length c → table n ≡ y.shapes m
  unfolding table
  in_turn n m e le = piece_back 1 (λ n. Base) (piece (length c + 1) y.shapes (piece (length t + 1) x.at last3)) m n e ∙ piece_front (length c + 1) y.shapes (piece (length t + 1) x.at last3) m (omega arith)

  behind : (n k : ℕ) → n ≡ length c + 2 + k → table n ≡ piece (length t + 1) x.at last3 k
  unfolding table
  behind n k e = piece_back 1 (λ n. Base) (piece (length c + 1) y.shapes (piece (length t + 1) x.at last3)) (length c + 1 + k) n (omega arith) ∙ piece_back (length c + 1) y.shapes (piece (length t + 1) x.at last3) k (length c + 1 + k) refl

  in_test : (n m : ℕ) → n ≡ length c + 2 + m → m ≤ length t → table n ≡ x.at m
  in_test n m e le = behind n m e ∙ piece_front (length t + 1) x.at last3 m (omega arith)

  at_last : (n k : ℕ) → n ≡ length c + length t + 3 + k → table n ≡ last3 k
  at_last n k e = behind n (length t + 1 + k) (omega arith) ∙ piece_back (length t + 1) x.at last3 k (length t + 1 + k) refl

  at_turn : (n k : ℕ) → n ≡ length c + length t + 3 + k → k < 2 → table n ≡ Base
  unfolding last3
  at_turn n k e lt = at_last n k e ∙ piece_front 2 (λ n. Base) (piece 1 (λ n. More) (λ n. Base)) k lt

  at_answer : (n : ℕ) → n ≡ length c + length t + 5 → table n ≡ More
  unfolding last3
  at_answer n e = at_last n 2 (omega arith) ∙ piece_back 2 (λ n. Base) (piece 1 (λ n. More) (λ n. Base)) 0 2 refl ∙ piece_front 1 (λ n. More) (λ n. Base) 0 (omega arith)

  at_finish : (n : ℕ) → n ≡ length c + length t + 6 → table n ≡ Base
  unfolding last3
  at_finish n e = at_last n 3 (omega arith) ∙ piece_back 2 (λ n. Base) (piece 1 (λ n. More) (λ n. Base)) 1 3 refl ∙ piece_back 1 (λ n. More) (λ n. Base) 0 1 refl

  same_height : (i : ℕ) → h ≡ i → Base ≡ shape i l d p o
  same_height i e = ap (λ n. shape n l d p o) e

  loop_fits : Fits (loop_code c t) Base Base
  loop_fits =
      let tail = SkipWhen false 1 ∷ Turn (length c + length t + 2) ∷ Push [] ∷ AnswerTop ∷ [] in
      let long = length-append c (Skip (length t + 2) ∷ (t ++ tail)) in
      let long2 = length-append t tail in
      let size : count ≡ length (loop_code c t) = omega (arith, long, long2) in
      let pc = 1 + length c in
      let pt = pc + 1 in
      let ps = pt + length t in
      let on_test : Stands table count ps (SkipWhen false 1) = stands_at table count ps (SkipWhen false 1) More (in_test ps (length t) (omega arith) (omega arith) ∙ x.ends) (omega arith)
      ((omega arith, at_turn (ps + 1 + 0) 0 (omega arith) (omega arith) ∙ same_height _ (omega arith)), ((omega arith, at_turn (ps + 1 + 1) 1 (omega arith) (omega arith) ∙ same_height _ (omega arith)), tt)) in
      let on_turn : Stands table count (ps + 1) (Turn (length c + length t + 2)) = stands_at table count (ps + 1) (Turn (length c + length t + 2)) Base (at_turn (ps + 1) 0 (omega arith) (omega arith)) tt
      ((omega arith, in_turn (ps + 1 - (length c + length t + 2)) 0 (omega arith) (omega arith) ∙ y.starts), tt) in
      let on_push : Stands table count (ps + 1 + 1) (Push []) = stands_at table count (ps + 1 + 1) (Push []) Base (at_turn (ps + 1 + 1) 1 (omega arith) (omega arith)) tt ((omega arith, at_answer (ps + 1 + 1 + 1 + 0) (omega arith) ∙ ap (λ m. shape m l d p o) (omega arith)), tt) in
      let on_answer : Stands table count (ps + 1 + 1 + 1) AnswerTop = stands_at table count (ps + 1 + 1 + 1) AnswerTop More (at_answer (ps + 1 + 1 + 1) (omega arith)) (omega arith) ((omega arith, at_finish (ps + 1 + 1 + 1 + 1 + 0) (omega arith) ∙ same_height _ (omega arith)), tt) in
      let of_tail : Placed table count ps tail = (on_test, (on_turn, (on_push, (on_answer, tt)))) in
      let of_test : Placed table count pt (t ++ tail) = placed_joined table count pt t tail (placed_fits table count t Base More x pt (omega arith) (λ m le. in_test (pt + m) m (omega arith) le)) of_tail in
      let on_out : Stands table count pc (Skip (length t + 2)) = stands_at table count pc (Skip (length t + 2)) Base (in_turn pc (length c) refl (omega arith) ∙ y.ends) tt ((omega arith, at_turn (pc + 1 + (length t + 2)) 1 (omega arith) (omega arith)), tt) in
      let of_turn : Placed table count 1 (c ++ Skip (length t + 2) ∷ (t ++ tail)) = placed_joined table count 1 c (Skip (length t + 2) ∷ (t ++ tail)) (y.placed table count 1 (omega arith) (λ n le. in_turn (1 + n) n refl le) (in_test (1 + length c + 1) 0 (omega arith) (omega arith) ∙ x.starts)) (on_out, of_test) in
      let on_skip : Stands table count 0 (Skip (length c + 1)) = stands_at table count 0 (Skip (length c + 1)) Base (in_front 0 refl) tt ((omega arith, in_test (0 + 1 + (length c + 1)) 0 (omega arith) (omega arith) ∙ x.starts), tt) in
      fits_placed table count (loop_code c t) Base Base size (in_front 0 refl) (at_finish (length (loop_code c t)) (omega (arith, long, long2))) (on_skip, of_turn)

module _ (dialect : Dialect) where
  -- a loop from its first condition on
  pub loop_makes : (loop : tasks.Loop) (test : Text) (owes : Owes) → ((c : Completion) → owed dialect owes c ≡ if_true dialect c (ask (Pay loop)) (done nothing)) → (t c : List Instruction) → Does dialect t (λ d. expression dialect d test) → Turns dialect c loop (ask (Evaluate test owes)) → Makes dialect (loop_code c t) (asking dialect 1 (ask (Evaluate test owes)))
  loop_makes loop test owes owe t c x f = record {
    from = λ code at last stack d s has. loop_lands dialect loop test owes owe t c x f code at stack d has last s;
    keeps = λ h l d p o. loop_fits t c h l d p o (x.adds h l d p o) (f.opens h l d p o);
  }
