-- `while` and `for`, inlined.
use Rattle.std.proofs.Common.{◌≡◌, ℕ, suc, ◌+◌, ◌≤◌, true, false, List, [], ◌∷◌, ◌++◌, length, Option, Some, None, refl, sym, ap, ◌∙◌, subst, arith, length-append}
use Rattle.tcl_chars.specs.declared.numbers.Dialect.{Dialect}
use Rattle.tcl_pages.specs.Texts.{Text}
use Rattle.tcl_meaning.specs.declared.code.Code.{Code}
use Rattle.tcl_meaning.specs.declared.code.Code.TheVariants as ending
use Rattle.tcl_meaning.specs.Asking.{answered, all_answered, asked, done, ask}
use Rattle.tcl_meaning.specs.Beginnings.{units_of}
use Rattle.tcl_meaning.specs.Completions.{Completion, nothing, code_now}
use Rattle.tcl_meaning.specs.Control.{if_ok, while_next, while_page, for_next, for_page, after_for_next}
use Rattle.tcl_meaning.specs.State.{State}
use Rattle.tcl_meaning.specs.Effects.{Here, Got, Gives, on_got, exec}
use Rattle.tcl_meaning.specs.Expressions.{expression}
use Rattle.tcl_meaning.specs.Pages.{owed, page_asks}
use Rattle.tcl_meaning.specs.Script.{Run, page_in}
use Rattle.tcl_meaning.specs.Tasks.{Script, Run as Runs_script, Nothing, While, For, WhileTest, WhileBody, ForTest, ForStart, ForBody, ForNext}
use Rattle.tcl_meaning.proofs.ScriptRules.{run_onward}
use Rattle.tcl_code.specs.declared.inlined.Inlined.TheVariants as inlined
use Rattle.tcl_code.specs.Instructions.{Instruction, Skip}
use Rattle.tcl_code.specs.Machine.{Stack, with_result, Spot, spot}
use Rattle.tcl_code.specs.Parts.{HasAt, Lands, Does}
use Rattle.tcl_code.specs.Valid.{shape}
use Rattle.tcl_code.proofs.Place.{has_front, has_back}
use Rattle.tcl_code.proofs.Shapes.{fits_joined}
use Rattle.tcl_code.proofs.Steps.{one_done, moved_done, same_done}
use Rattle.tcl_compile.specs.Forms.{page_does, bodied, TurnCode, LoopCode}
use Rattle.tcl_compile.specs.Fragments.{Follows}
use Rattle.tcl_compile.specs.Inlining.{Makes, asking}
use Rattle.tcl_compile.proofs.Bodies.{goes_on, stays_is, bodied_lands, bodied_opens, both_open}
use Rattle.tcl_compile.proofs.Conditions.{body_is, ran_deeper, ok_stops}
use Rattle.tcl_compile.proofs.Guarded.{goes_further}
use Rattle.tcl_compile.proofs.Looping.{loop_code, loop_makes}

-- a turn of a `for`: its body, and what it runs between turns
abbrev pub turn_code : List Instruction → List Instruction → List Instruction
turn_code b n = bodied false false b ++ Skip (length (bodied true false n)) ∷ bodied true false n

module _ (dialect : Dialect) where
  body_spends : (d : ℕ) (body : Text) (u v : State) (c : Completion) → Run dialect (Script (suc d) nothing body) u ≡ Gives c v → v.units ≤ u.units
  body_spends d body u v c e = omega (arith, (run_onward dialect (Script (suc d) nothing body) u).spends, ap units_of e)

  -- ---- turns

  while_turn : (test body : Text) (b code : List Instruction) (at : ℕ) (last : Completion) (stack : Stack) (d : ℕ) (r : Completion → Spot) (u : State) → Follows dialect b body → HasAt code at (bodied false false b)
      → ((v : State) → v.units ≤ u.units → Lands dialect code stack.loops (spot (at + length (bodied false false b) + 1) (with_result last stack) d) v r (exec (Run dialect) (asking dialect 1 (while_next dialect test body) d) v))
      → ((v : State) → Lands dialect code stack.loops (spot (at + length (bodied false false b)) (with_result last stack) d) v r (Gives nothing v)) → Lands dialect code stack.loops (spot at (with_result last stack) d) u r (exec (Run dialect) (page_in dialect d (ask (Runs_script Here body (WhileBody test body)))) u)
  unfolding asked all_answered answered owed
  while_turn test body b code at last stack d r u f has n x =
      let on = while_next dialect test body in
      bodied_lands dialect code at false false body b f has last stack d 1 (WhileBody test body) (λ c. on) on (done nothing) (λ c. stays_is (code_now c) c on (done nothing)) r u (λ c v e. n v (body_spends d body u v c e)) (λ c v e. n v (body_spends d body u v c e)) x

  passes_is : (test next body : Text) (k : Code) (c : Completion) → after_for_next dialect test next body k c ≡ goes_on true k c (for_next dialect test next body) (for_next dialect test next body) (done nothing)
  passes_is test next body ending.Ok c = refl
  passes_is test next body ending.Error c = refl
  passes_is test next body ending.Return c = refl
  passes_is test next body ending.Break c = refl
  passes_is test next body ending.Continue c = refl
  passes_is test next body (ending.Other z) c = refl

  for_turn : (test next body : Text) (b n code : List Instruction) (at : ℕ) (last : Completion) (stack : Stack) (d : ℕ) (r : Completion → Spot) (u : State) → Follows dialect b body → Follows dialect n next → HasAt code at (turn_code b n)
      → ((v : State) → v.units ≤ u.units → Lands dialect code stack.loops (spot (at + length (turn_code b n) + 1) (with_result last stack) d) v r (exec (Run dialect) (asking dialect 1 (for_next dialect test next body) d) v))
      → ((v : State) → Lands dialect code stack.loops (spot (at + length (turn_code b n)) (with_result last stack) d) v r (Gives nothing v)) → Lands dialect code stack.loops (spot at (with_result last stack) d) u r (exec (Run dialect) (page_in dialect d (ask (Runs_script Here body (ForBody test next body)))) u)
  unfolding asked all_answered answered owed
  for_turn test next body b n code at last stack d r u f g has go x =
      let first = bodied false false b in
      let second = bodied true false n in
      let back = has_back code at first (Skip (length second) ∷ second) has in
      let long = length-append first (Skip (length second) ∷ second) in
      let out : at + length (turn_code b n) ≡ at + length first + 1 + length second = omega (arith, long) in
      let past : at + length (turn_code b n) + 1 ≡ at + length first + 1 + length second + 1 = omega (arith, long) in
      let on = for_next dialect test next body in
      let between = ask (Runs_script Here next (ForNext test next body)) in
      let further : (v w : State) → v.units ≤ u.units → w.units ≤ v.units → Lands dialect code stack.loops (spot (at + length first + 1 + length second + 1) (with_result last stack) d) w r (exec (Run dialect) (asking dialect 1 on d) w) = λ v w i j. subst (λ p. Lands dialect code stack.loops (spot p (with_result last stack) d) w r (exec (Run dialect) (asking dialect 1 on d) w)) past (go w (omega (arith, i, j))) in
      let second_lands : (v : State) → v.units ≤ u.units → Lands dialect code stack.loops (spot (at + length first + 1) (with_result last stack) d) v r (exec (Run dialect) (asking dialect 2 between d) v) =
      λ v i. bodied_lands dialect code (at + length first + 1) true false next n g back.1 last stack d 1 (ForNext test next body) (λ c. on) on (done nothing) (λ k. passes_is test next body (code_now k) k) r v
      (λ k w h. further v w i (body_spends d next v w k h)) (λ k w h. further v w i (body_spends d next v w k h)) (λ w. subst (λ p. Lands dialect code stack.loops (spot p (with_result last stack) d) w r (Gives nothing w)) out (x w)) in
      bodied_lands dialect code at false false body b f (has_front code at first (Skip (length second) ∷ second) has) last stack d 2 (ForBody test next body) (λ c. between) between (done nothing) (λ c. stays_is (code_now c) c between (done nothing)) r u
      (λ c v e. second_lands v (body_spends d body u v c e)) (λ c v e. second_lands v (body_spends d body u v c e))
      (λ v. one_done dialect code (Skip (length second)) back.0 refl (subst (λ p. Lands dialect code stack.loops (spot p (with_result last stack) d) v r (Gives nothing v)) out (x v)))

  -- ---- loops

  while_loop : (test body : Text) (t b : List Instruction) → Does dialect t (λ d. expression dialect d test) → Follows dialect b body → Makes dialect (loop_code (bodied false false b) t) (asking dialect 1 (while_next dialect test body))
  unfolding owed
  while_loop test body t b x f = loop_makes dialect (While test body) test (WhileTest test body) (λ c. refl) t (bodied false false b) x (record {
    from = λ code at last stack d r u has n out. while_turn test body b code at last stack d r u f has n out;
    opens = λ h l d p o. bodied_opens false false b h l d p o (f.keeps 0 0 0 0 (o + 1));
  })

  for_loop : (test next body : Text) (t b n : List Instruction) → Does dialect t (λ d. expression dialect d test) → Follows dialect b body → Follows dialect n next → Makes dialect (loop_code (turn_code b n) t) (asking dialect 1 (for_next dialect test next body))
  unfolding owed
  for_loop test next body t b n x f g = loop_makes dialect (For test next body) test (ForTest test next body) (λ c. refl) t (turn_code b n) x (record {
    from = λ code at last stack d r u has go out. for_turn test next body b n code at last stack d r u f g has go out;
    opens = λ h l d p o. both_open (bodied false false b) (bodied true false n) h l d p o (bodied_opens false false b h l d p o (f.keeps 0 0 0 0 (o + 1))) (bodied_opens true false n h l d p o (g.keeps 0 0 0 0 (o + 1)));
  })

  -- the code of a turn, and of the condition
  pub turn_makes : (next : Option Text) (test body : Text) (t c : List Instruction) → Does dialect t (λ d. expression dialect d test) → TurnCode dialect next body c → LoopCode dialect next test body (loop_code c t)
  turn_makes None test body t c x h = subst (λ l. LoopCode dialect None test body (loop_code l t)) (sym h.1) (while_loop test body t h.0 x h.2)
  turn_makes (Some next) test body t c x h =
      let first = h.3 in
      let second = h.4 in
      let is : c ≡ turn_code first.0 second.0 = h.2 ∙ ap (λ l. l ++ Skip (length h.1) ∷ h.1) first.1 ∙ ap (λ l. bodied false false first.0 ++ Skip (length l) ∷ l) second.1 in
      subst (λ l. LoopCode dialect (Some next) test body (loop_code l t)) (sym is) (for_loop test next body t first.0 second.0 x first.2 second.2)

  -- ---- commands

  pub while_makes : (test body : Text) (c : List Instruction) → LoopCode dialect None test body c → Makes dialect c (page_does dialect inlined.While (test ∷ body ∷ []))
  unfolding page_asks while_page asked all_answered answered
  while_makes test body c x = record { from = λ code at last stack d s has. x.from code at last stack d s has; keeps = x.keeps }

  start_is : (start test next body : Text) (d : ℕ) (s : State) → exec (Run dialect) (page_does dialect inlined.For (start ∷ test ∷ next ∷ body ∷ []) d) s ≡ on_got (Run dialect (Script (suc d) nothing start) s) (λ c v. exec (Run dialect) (asking dialect 1 (if_ok (code_now c) c (for_next dialect test next body)) d) v)
  unfolding page_asks for_page asked all_answered owed
  start_is start test next body d s = ran_deeper dialect 1 d start (ForStart test next body) s

  -- what it runs first, in place of the last completion, and the loop
  pub for_makes : (start test next body : Text) (e c : List Instruction) → Makes dialect e (asking dialect 1 (ask (Runs_script Here start Nothing))) → LoopCode dialect (Some next) test body c → Makes dialect (e ++ c) (page_does dialect inlined.For (start ∷ test ∷ next ∷ body ∷ []))
  for_makes start test next body e c x y = record {
    from = λ code at last stack d s has.
        let go : Completion → State → Got Completion = λ r v. exec (Run dialect) (asking dialect 1 (if_ok (code_now r) r (for_next dialect test next body)) d) v in
        same_done dialect code (sym (start_is start test next body d s))
        (goes_further dialect code go (λ r v h. ok_stops dialect d 1 (for_next dialect test next body) (code_now r) r v h) (Run dialect (Script (suc d) nothing start) s)
        (same_done dialect code (body_is dialect 0 d start s) (x.from code at last stack d s (has_front code at e c has)))
        (λ r v fine. same_done dialect code (sym (ap (λ k. exec (Run dialect) (asking dialect 1 (if_ok k r (for_next dialect test next body)) d) v) fine))
        (moved_done dialect code (omega (arith, length-append e c)) (y.from code (at + length e) r stack d v (has_back code at e c has)))));
    keeps = λ h l d p o. fits_joined e c (shape h l d p o) (shape h l d p o) (shape h l d p o) (x.keeps h l d p o) (y.keeps h l d p o);
  }
