-- `foreach` and `lmap`, inlined.
use Rattle.std.proofs.Common.{◌≡◌, ℕ, zero, suc, ◌+◌, ◌-◌, ◌<◌, Bool, true, false, List, [], ◌∷◌, ◌++◌, length, take, drop, Option, None, Some, Result, Ok, Err, refl, sym, ap, ◌∙◌, subst, arith, length-append}
use Rattle.std.specs.Prelude.{slice_get}
use Rattle.tcl_chars.specs.declared.numbers.Dialect.{Dialect}
use Rattle.tcl_chars.specs.Texts.{literal}
use Rattle.tcl_pages.specs.Answers.{Answer, ◌>>=◌ as answering}
use Rattle.tcl_pages.specs.Dictionaries.{pairs}
use Rattle.tcl_pages.specs.Texts.{Text}
use Rattle.tcl_meaning.specs.declared.code.Code.{Code}
use Rattle.tcl_meaning.specs.declared.code.Code.TheVariants as ending
use Rattle.tcl_meaning.specs.declared.refusal.Refusal.{Refusal}
use Rattle.tcl_meaning.specs.Asking.{Asks, answered, all_answered, asked, done, ask}
use Rattle.tcl_meaning.specs.Beginnings.{units_of}
use Rattle.tcl_meaning.specs.Completions.{Completion, normal, nothing, code_now}
use Rattle.tcl_meaning.specs.Control.{ask_if, after_each, behind_turns, each_answer, each_next, each_set, each_shaped, foreach_page, has_more, lmap_page, turned}
use Rattle.tcl_meaning.specs.Effects.{Here, Prog, Gives, exec, does, paid, made}
use Rattle.tcl_meaning.specs.Pages.{owed, page_asks}
use Rattle.tcl_meaning.specs.Script.{Run, page_in}
use Rattle.tcl_meaning.specs.Shapes.{loop_lists_of}
use Rattle.tcl_meaning.specs.State.{State, Change, with_units}
use Rattle.tcl_meaning.specs.Tasks.{Task, Script, Run as Runs_script, Pay, ForEach, Each, EachBody, LoopList}
use Rattle.tcl_meaning.specs.Value.{◌>>=◌, judged}
use Rattle.tcl_meaning.specs.VariablePages.{set_page}
use Rattle.tcl_meaning.specs.Variables.{put_change, set, set_all, set_result}
use Rattle.tcl_meaning.proofs.ScriptRules.{run_onward}
use Rattle.tcl_code.specs.Instructions.{Instruction, Push, Gather, Deal, TakeFirst, SkipEmpty, DropList, Listed, Write, Answer as AnswerTop, Skip, Turn}
use Rattle.tcl_code.specs.Dealing.{dealt, dealt_of, dealt_once, firsts, longest}
use Rattle.tcl_code.specs.Machine.{Texts, Stack, stack_of, with_text, with_result, result_at, Spot, spot, Move, move, on_answer, on_page, on_taken, landed, spend, follow}
use Rattle.tcl_code.specs.Parts.{HasAt, Lands}
use Rattle.tcl_code.proofs.Place.{has_front, has_back}
use Rattle.tcl_code.proofs.Steps.{one_done, final_done, here_done, moved_done, same_done}
use Rattle.tcl_compile.specs.Fragments.{Follows, gathered, onto, stacked}
use Rattle.tcl_compile.specs.Eaches.{AreEachTexts, each_begin, each_command, each_end, takes}
use Rattle.tcl_compile.specs.Forms.{page_does, bodied}
use Rattle.tcl_compile.specs.Inlining.{asking}
use Rattle.tcl_compile.proofs.Bodies.{goes_on, bodied_lands, stack_behind}
use Rattle.tcl_compile.proofs.Dealing.{Left, drop_both, firsts_long, firsts_parts, left_dealt, names_of}
use Rattle.tcl_compile.proofs.Listing.{lists_named, same_lists, shape_is}
use Rattle.tcl_compile.proofs.Looping.{turn_is}
use Rattle.tcl_compile.proofs.Pieces.{taken_all}

-- The elements of the lists, and on to where it is seen whether one is left; the names, the body, and behind it what follows a `break`; a
-- turn back to the names where an element is left; the answer.
abbrev pub dealt_code : Bool → ℕ → List Instruction → List Instruction → List Instruction
dealt_code gathers n ts c = Deal n ∷ Skip (length ts + length c + 1) ∷ (ts ++ (c ++ Skip 2 ∷ SkipEmpty 1 ∷ Turn (length ts + length c + 2) ∷ DropList ∷ each_end gathers ∷ AnswerTop ∷ []))

-- with the list of the results in front, if they are gathered
abbrev pub each_code : Bool → ℕ → List Instruction → List Instruction → List Instruction
each_code gathers n ts c = each_begin gathers ++ dealt_code gathers n ts c

-- ---- results, if they are gathered

abbrev results_of : Bool → List Text → Option (List Text)
results_of true rs = Some rs
results_of false rs = None

abbrev results_on : Bool → List Text → List Texts → List Texts
results_on true rs ls = rs ∷ ls
results_on false rs ls = ls

-- their list is there
abbrev pub with_results : Bool → List Text → Stack → Stack
with_results gathers rs stack = stack_of stack.texts (results_on gathers rs stack.lists) stack.results stack.loops

behind_is : (gathers : Bool) (c : Completion) (rs es : List Text) (stack : Stack) → gathered es (with_results gathers (rs ++ c.result ∷ []) stack) ≡ stack_behind gathers c (gathered es (with_results gathers rs stack))
behind_is true c rs es stack = refl
behind_is false c rs es stack = refl

-- the loop where these lists are left
abbrev each_among : Bool → Text → List Text → List LoopList → Each
each_among gathers body rs ls = record { lists = ls; body = body; results = results_of gathers rs }

after_is : (gathers : Bool) (body : Text) (rs : List Text) (ls : List LoopList) (k : Code) (c : Completion)
    → after_each (each_among gathers body rs ls) k c ≡ goes_on false k c (each_next (each_among gathers body (rs ++ c.result ∷ []) ls)) (each_next (each_among gathers body rs ls)) (done (each_answer (results_of gathers rs)))
after_is true body rs ls ending.Ok c = refl
after_is false body rs ls ending.Ok c = refl
after_is gathers body rs ls ending.Error c = refl
after_is gathers body rs ls ending.Return c = refl
after_is gathers body rs ls ending.Break c = refl
after_is gathers body rs ls ending.Continue c = refl
after_is gathers body rs ls (ending.Other z) c = refl

pub takes_parts : (ns ms : List Text) → takes (ns ++ ms) ≡ takes ns ++ takes ms
takes_parts [] ms = refl
takes_parts (n ∷ ns) ms = ap (λ c. TakeFirst ∷ Write n ∷ c) (takes_parts ns ms)

take_none : (n : ℕ) → take {A = Text} n [] ≡ []
take_none zero = refl
take_none (suc n) = refl

drop_none : (n : ℕ) → drop {A = Text} n [] ≡ []
drop_none zero = refl
drop_none (suc n) = refl

all_firsts : {T : Type 0} (ns es : List Text) → set_all {T = T} ns (take (length ns) es) ≡ set_all ns (firsts (length ns) es)
all_firsts [] es = refl
all_firsts {T} (n ∷ ns) [] = ap (λ m. set {T = T} n [] >>= λ z. m) (ap (λ ts. set_all ns ts) (sym (take_none (length ns))) ∙ all_firsts ns [])
all_firsts {T} (n ∷ ns) (e ∷ es) = ap (λ m. set {T = T} n e >>= λ z. m) (all_firsts ns es)

module _ (dialect : Dialect) where
  -- ---- names get elements

  -- texts for names, and then a page
  abbrev setting : List Text → List Text → Asks → ℕ → Prog Task Completion
  setting ns ts page d = page_in dialect d (set_all ns ts >>= λ z. page)

  -- texts that are missing are empty
  same_set : (page : Asks) (d : ℕ) (ns es us : List Text) → firsts (length ns) es ≡ firsts (length ns) us → setting ns (take (length ns) es) page d ≡ setting ns (take (length ns) us) page d
  same_set page d ns es us e =
      ap (λ m. page_in dialect d (m >>= λ z. page)) (all_firsts ns es)
      ∙ ap (λ ts. setting ns ts page d) e
      ∙ sym (ap (λ m. page_in dialect d (m >>= λ z. page)) (all_firsts ns us))

  module _ (code : List Instruction) (page : Asks) (d : ℕ) {r : Completion → Spot} where
    assigned : (at : ℕ) (n t : Text) (ns ts : List Text) (last : Completion) (stack : Stack) (s : State) → slice_get code at ≡ Some (Write n) → ((c : Completion) (u : State) → u.units ≡ s.units → Lands dialect code stack.loops (spot (at + 1) (with_result c stack) d) u r (exec (Run dialect) (setting ns ts page d) u))
        → Lands dialect code stack.loops (spot at (with_text t (with_result last stack)) d) s r (exec (Run dialect) (setting (n ∷ ns) (t ∷ ts) page d) s)
    unfolding asked all_answered answered set_page
    assigned at n t ns ts last stack s h next = go (put_change s.store n t) refl
      where
        go : (x : Result Change Refusal) → put_change s.store n t ≡ x → Lands dialect code stack.loops (spot at (with_text t (with_result last stack)) d) s r (exec (Run dialect) (setting (n ∷ ns) (t ∷ ts) page d) s)
        go (Ok ch) e =
            one_done dialect code (Write n) h (ap (λ z. on_page (does (set_result n z >>= λ x. done (normal t)) s) (result_at (at + 1) stack d)) e)
            (same_done dialect code (sym (ap (λ z. exec (Run dialect) (page_in dialect d ((set_result n z >>= λ x. set_all ns ts) >>= λ x. page)) s) e)) (next (normal t) (made ch s) refl))
        go (Err x) e =
            final_done dialect code (Write n) h
            (λ next. ap (λ z. follow dialect next stack.loops (on_page (does (set_result n z >>= λ x. done (normal t)) s) (result_at (at + 1) stack d))) e
            ∙ ap (λ z. landed next stack.loops r (exec (Run dialect) (page_in dialect d ((set_result n z >>= λ x. set_all ns ts) >>= λ x. page)) s)) (sym e))

    -- the elements that a list begins with
    sets : (ns es : List Text) (at : ℕ) (last : Completion) (stack : Stack) (s : State) → HasAt code at (takes ns) → ((c : Completion) (u : State) → u.units ≡ s.units → Lands dialect code stack.loops (spot (at + length (takes ns)) (with_result c (gathered (drop (length ns) es) stack)) d) u r (exec (Run dialect) (page_in dialect d page) u))
        → Lands dialect code stack.loops (spot at (with_result last (gathered es stack)) d) s r (exec (Run dialect) (setting ns (take (length ns) es) page d) s)
    sets [] es at last stack s has next =
        let e : at + 0 ≡ at = omega arith in
        subst (λ n. Lands dialect code stack.loops (spot n (with_result last (gathered es stack)) d) s r (exec (Run dialect) (page_in dialect d page) s)) e (next last s refl)
    sets (n ∷ ns) [] at last stack s has next =
        one_done dialect code TakeFirst has.0 refl
        (assigned (at + 1) n [] ns [] last (gathered [] stack) s has.1.0
        (λ c u k. subst (λ ts. Lands dialect code stack.loops (spot (at + 1 + 1) (with_result c (gathered [] stack)) d) u r (exec (Run dialect) (setting ns ts page d) u)) (take_none (length ns))
        (sets ns [] (at + 1 + 1) c stack u has.1.1
        (λ c v j. let e : at + length (takes (n ∷ ns)) ≡ at + 1 + 1 + length (takes ns) = omega arith in
        subst (λ m. Lands dialect code stack.loops (spot m (with_result c (gathered (drop (length ns) []) stack)) d) v r (exec (Run dialect) (page_in dialect d page) v)) e
        (subst (λ es. Lands dialect code stack.loops (spot (at + length (takes (n ∷ ns))) (with_result c (gathered es stack)) d) v r (exec (Run dialect) (page_in dialect d page) v)) (sym (drop_none (length ns))) (next c v (j ∙ k)))))))
    sets (n ∷ ns) (w ∷ es) at last stack s has next =
        one_done dialect code TakeFirst has.0 refl
        (assigned (at + 1) n w ns (take (length ns) es) last (gathered es stack) s has.1.0
        (λ c u k. sets ns es (at + 1 + 1) c stack u has.1.1
        (λ c v j. let e : at + length (takes (n ∷ ns)) ≡ at + 1 + 1 + length (takes ns) = omega arith in
        subst (λ m. Lands dialect code stack.loops (spot m (with_result c (gathered (drop (length ns) es) stack)) d) v r (exec (Run dialect) (page_in dialect d page) v)) e (next c v (j ∙ k)))))

  -- the elements of all lists, from the front of one
  sets_all : (code : List Instruction) (e : Each) (d : ℕ) {r : Completion → Spot} (ls : List LoopList) (es : List Text) (at : ℕ) (last : Completion) (stack : Stack) (s : State) → firsts (length (names_of ls)) es ≡ dealt_once ls → HasAt code at (takes (names_of ls))
      → ((c : Completion) (u : State) → u.units ≡ s.units → Lands dialect code stack.loops (spot (at + length (takes (names_of ls))) (with_result c (gathered (drop (length (names_of ls)) es) stack)) d) u r (exec (Run dialect) (page_in dialect d (each_set e [])) u))
      → Lands dialect code stack.loops (spot at (with_result last (gathered es stack)) d) s r (exec (Run dialect) (page_in dialect d (each_set e ls)) s)
  sets_all code e d {r} [] es at last stack s same has next =
      let none : at + 0 ≡ at = omega arith in
      subst (λ n. Lands dialect code stack.loops (spot n (with_result last (gathered es stack)) d) s r (exec (Run dialect) (page_in dialect d (each_set e [])) s)) none (next last s refl)
  sets_all code e d {r} (l ∷ ls) es at last stack s same has next =
      let ns = l.names in
      let ms = names_of ls in
      let parts = firsts_parts (length ns) (length ms) (length (ns ++ ms)) es (firsts (length ns) l.elements) (dealt_once ls) (length-append ns ms) (firsts_long (length ns) l.elements) same in
      let both : HasAt code at (takes ns ++ takes ms) = subst (λ c. HasAt code at c) (takes_parts ns ms) has in
      let long : length (takes (ns ++ ms)) ≡ length (takes ns) + length (takes ms) = ap length (takes_parts ns ms) ∙ length-append (takes ns) (takes ms) in
      same_done dialect code (ap (λ m. exec (Run dialect) m s) (same_set (each_set e ls) d ns es l.elements parts.0))
      (sets code (each_set e ls) d ns es at last stack s (has_front code at (takes ns) (takes ms) both)
      (λ c u k. sets_all code e d ls (drop (length ns) es) (at + length (takes ns)) c stack u parts.1 (has_back code at (takes ns) (takes ms) both)
      (λ c v j.
      let place : at + length (takes (ns ++ ms)) ≡ at + length (takes ns) + length (takes ms) = omega (arith, long) in
      let left : drop (length (ns ++ ms)) es ≡ drop (length ms) (drop (length ns) es) = drop_both (length ns) (length ms) (length (ns ++ ms)) es (length-append ns ms) in
      subst (λ m. Lands dialect code stack.loops (spot m (with_result c (gathered (drop (length ms) (drop (length ns) es)) stack)) d) v r (exec (Run dialect) (page_in dialect d (each_set e [])) v)) place
      (subst (λ us. Lands dialect code stack.loops (spot (at + length (takes (ns ++ ms))) (with_result c (gathered us stack)) d) v r (exec (Run dialect) (page_in dialect d (each_set e [])) v)) left (next c v (j ∙ k))))))

  -- ---- the loop

  module _ (gathers : Bool) (names : List Text) (body : Text) where
    -- the loop where these lists are left, and its answer, with these results
    abbrev each : List Text → List LoopList → Each
    each rs ls = each_among gathers body rs ls

    abbrev answer : List Text → Asks
    answer rs = done (each_answer (results_of gathers rs))

    abbrev next_turn : List Text → List LoopList → ℕ → Prog Task Completion
    next_turn rs ls d = asking dialect 0 (each_next (each rs ls)) d

    owe : (rs : List Text) (ls : List LoopList) (c : Completion) → owed dialect (EachBody (each rs ls)) c ≡ goes_on false (code_now c) c (each_next (each (rs ++ c.result ∷ []) ls)) (each_next (each rs ls)) (answer rs)
    unfolding owed
    owe rs ls c = after_is gathers body rs ls (code_now c) c

    begins_is : (rs : List Text) (ls : List LoopList) (d : ℕ) (s : State) → exec (Run dialect) (page_in dialect d (each_next (each rs ls))) s ≡ exec (Run dialect) (next_turn rs ls d) s
    unfolding asked all_answered
    begins_is rs ls d s = go (has_more ls)
      where
        go : (b : Bool) → exec (Run dialect) (page_in dialect d (ask_if b (ask (Pay (ForEach (each rs ls)))) (answer rs))) s ≡ exec (Run dialect) (asking dialect 0 (ask_if b (ask (Pay (ForEach (each rs ls)))) (answer rs)) d) s
        go true = refl
        go false = refl

    module _ (count : ℕ) (b : List Instruction) (f : Follows dialect b body) (code : List Instruction) (at : ℕ) (stack : Stack) (d : ℕ) (has : HasAt code at (dealt_code gathers count (takes names) (bodied false gathers b))) where
      abbrev ts : List Instruction
      ts = takes names

      abbrev c : List Instruction
      c = bodied false gathers b

      abbrev Tail : List Instruction
      Tail = Skip 2 ∷ SkipEmpty 1 ∷ Turn (length ts + length c + 2) ∷ DropList ∷ each_end gathers ∷ AnswerTop ∷ []

      -- where a turn begins, where its body stands, and where it is seen whether an element is left
      abbrev turn : ℕ
      turn = at + 1 + 1

      abbrev place : ℕ
      place = turn + length ts

      abbrev more : ℕ
      more = place + length c + 1

      abbrev end : Completion → Spot
      end = result_at (at + length (dealt_code gathers count ts c)) stack d

      -- these results, and these elements
      abbrev holding : List Text → List Text → Stack
      holding rs es = gathered es (with_results gathers rs stack)

      of_body : HasAt code place (c ++ Tail)
      of_body = has_back code turn ts (c ++ Tail) has.1.1

      behind_body : HasAt code (place + length c) Tail
      behind_body = has_back code place c Tail of_body

      long : length (dealt_code gathers count ts c) ≡ length ts + length c + 8
      long = omega (arith, length-append ts (c ++ Tail), length-append c Tail)

      answers : (g : Bool) (rs : List Text) (last : Completion) (u : State) (p q : ℕ) → p + 1 + 1 ≡ q → HasAt code p (each_end g ∷ AnswerTop ∷ []) → Lands dialect code stack.loops (spot p (with_result last (with_results g rs stack)) d) u (result_at q stack d) (exec (Run dialect) (asking dialect 0 (done (each_answer (results_of g rs))) d) u)
      unfolding answered
      answers true rs last u p q e h = one_done dialect code Listed h.0 refl (one_done dialect code AnswerTop h.1.0 refl (here_done dialect code e refl))
      answers false rs last u p q e h = one_done dialect code (Push []) h.0 refl (one_done dialect code AnswerTop h.1.0 refl (here_done dialect code e refl))

      out : (rs es : List Text) (last : Completion) (u : State) (p : ℕ) → p ≡ more + 1 + 1 → Lands dialect code stack.loops (spot p (with_result last (holding rs es)) d) u end (exec (Run dialect) (asking dialect 0 (answer rs) d) u)
      out rs es last u p e =
          let h = subst (λ n. HasAt code n (DropList ∷ each_end gathers ∷ AnswerTop ∷ [])) (sym e) behind_body.1.1.1 in
          one_done dialect code DropList h.0 refl (answers gathers rs last u (p + 1) (at + length (dealt_code gathers count ts c)) (omega (arith, e, long)) h.1)

      abbrev Turns : ℕ → Type 0
      Turns n = (ls : List LoopList) (rs es : List Text) (last : Completion) (s : State) → Left n names ls es → s.units < n → Lands dialect code stack.loops (spot more (with_result last (holding rs es)) d) s end (exec (Run dialect) (next_turn rs ls d) s)

      body_turns : (n : ℕ) → Turns n → (ls : List LoopList) (rs es : List Text) (last : Completion) (u : State) → Left n names ls es → u.units < n → Lands dialect code stack.loops (spot place (with_result last (holding rs es)) d) u end (exec (Run dialect) (page_in dialect d (ask (Runs_script Here body (EachBody (each rs ls))))) u)
      unfolding asked all_answered
      body_turns n ih ls rs es last u left lt =
          let less : (r : Completion) (v : State) → Run dialect (Script (suc d) nothing body) u ≡ Gives r v → v.units < n = λ r v k. omega (arith, (run_onward dialect (Script (suc d) nothing body) u).spends, ap units_of k, lt) in
          bodied_lands dialect code place false gathers body b f (has_front code place c Tail of_body) last (holding rs es) d 0 (EachBody (each rs ls)) (λ r. each_next (each (rs ++ r.result ∷ []) ls)) (each_next (each rs ls)) (answer rs) (owe rs ls) end u
          (λ r v k. subst (λ st. Lands dialect code stack.loops (spot more (with_result last st) d) v end (exec (Run dialect) (next_turn (rs ++ r.result ∷ []) ls d) v)) (behind_is gathers r rs es stack) (ih ls (rs ++ r.result ∷ []) es last v left (less r v k)))
          (λ r v k. ih ls rs es last v left (less r v k))
          (λ v. one_done dialect code (Skip 2) behind_body.0 refl (out rs es last v _ (omega arith)))

      turned_body : (n : ℕ) → Turns n → (ls : List LoopList) (rs es : List Text) (last : Completion) (u : State) → names_of ls ≡ names → firsts (length names) es ≡ dealt_once ls → Left n names (behind_turns ls) (drop (length names) es) → u.units < n
          → Lands dialect code stack.loops (spot turn (with_result last (holding rs es)) d) u end (exec (Run dialect) (page_in dialect d (turned (ForEach (each rs ls)))) u)
      turned_body n ih ls rs es last u e same left lt =
          sets_all code (each rs ls) d ls es turn last (with_results gathers rs stack) u (subst (λ ns. firsts (length ns) es ≡ dealt_once ls) (sym e) same) (subst (λ ns. HasAt code turn (takes ns)) (sym e) (has_front code turn ts (c ++ Tail) has.1.1))
          (λ r v k. subst (λ ns. Lands dialect code stack.loops (spot (turn + length (takes ns)) (with_result r (holding rs (drop (length ns) es))) d) v end (exec (Run dialect) (page_in dialect d (each_set (each rs ls) [])) v)) (sym e)
          (body_turns n ih (behind_turns ls) rs (drop (length names) es) r v left (omega (arith, k, lt))))

      turned_back : (n : ℕ) → Turns n → (ls : List LoopList) (rs es : List Text) (last : Completion) (u : State) → names_of ls ≡ names → firsts (length names) es ≡ dealt_once ls → Left n names (behind_turns ls) (drop (length names) es) → u.units < suc n → (m : ℕ) → u.units ≡ m
          → Lands dialect code stack.loops (spot (more + 1) (with_result last (holding rs es)) d) u end (exec (Run dialect) (asking dialect 0 (ask (Pay (ForEach (each rs ls)))) d) u)
      turned_back n ih ls rs es last u e same left lt zero z =
          final_done dialect code (Turn (length ts + length c + 2)) behind_body.1.1.0
          (λ next. ap (λ k. follow dialect next stack.loops (spend k (spot (more + 1 - (length ts + length c + 2)) (with_result last (holding rs es)) d) u)) z
          ∙ ap (landed next stack.loops end) (sym (turn_is dialect d (ForEach (each rs ls)) u ∙ ap (paid (Run dialect) (page_in dialect d (turned (ForEach (each rs ls)))) u) z)))
      turned_back n ih ls rs es last u e same left lt (suc m) z =
          let back : turn ≡ more + 1 - (length ts + length c + 2) = omega arith in
          one_done dialect code (Turn (length ts + length c + 2)) behind_body.1.1.0 (ap (λ k. spend k (spot (more + 1 - (length ts + length c + 2)) (with_result last (holding rs es)) d) u) z)
          (same_done dialect code (sym (turn_is dialect d (ForEach (each rs ls)) u ∙ ap (paid (Run dialect) (page_in dialect d (turned (ForEach (each rs ls)))) u) z))
          (subst (λ p. Lands dialect code stack.loops (spot p (with_result last (holding rs es)) d) (with_units m u) end (exec (Run dialect) (page_in dialect d (turned (ForEach (each rs ls)))) (with_units m u))) back
          (turned_body n ih ls rs es last (with_units m u) e same left (omega (arith, lt, z)))))

      turns : (n : ℕ) → Turns n
      turns zero ls rs es last s left lt = absurd (omega (arith, lt))
      turns (suc n) ls rs [] last s left lt =
          same_done dialect code (sym (ap (λ b. exec (Run dialect) (asking dialect 0 (ask_if b (ask (Pay (ForEach (each rs ls)))) (answer rs)) d) s) left.0))
          (one_done dialect code (SkipEmpty 1) behind_body.1.0 refl (out rs [] last s _ refl))
      turns (suc n) ls rs (w ∷ es) last s left lt =
          let now = left.1 left.0 in
          same_done dialect code (sym (ap (λ b. exec (Run dialect) (asking dialect 0 (ask_if b (ask (Pay (ForEach (each rs ls)))) (answer rs)) d) s) left.0))
          (one_done dialect code (SkipEmpty 1) behind_body.1.0 refl
          (turned_back n (turns n) ls rs (w ∷ es) last s now.0 now.1 now.2 lt s.units refl))

      -- from where it is seen whether an element is left
      turns_land : (ls : List LoopList) (rs es : List Text) (last : Completion) (s : State) (p : ℕ) → p ≡ more → Left (suc s.units) names ls es → Lands dialect code stack.loops (spot p (with_result last (holding rs es)) d) s end (exec (Run dialect) (page_in dialect d (each_next (each rs ls))) s)
      turns_land ls rs es last s p e left =
          same_done dialect code (sym (begins_is rs ls d s))
          (subst (λ q. Lands dialect code stack.loops (spot q (with_result last (holding rs es)) d) s end (exec (Run dialect) (next_turn rs ls d) s)) (sym e) (turns (suc s.units) ls rs es last s left (omega arith)))

  -- ---- the lists of texts

  -- where a list for the results is there, if they are gathered
  pub dealt_lands : (gathers : Bool) (names : List Text) (body : Text) (b : List Instruction) → Follows dialect b body → (count : ℕ) (code : List Instruction) (at : ℕ) (us : List Text) (last : Completion) (stack : Stack) (d : ℕ) (s : State) → AreEachTexts gathers names body us → length us ≡ count
      → HasAt code at (dealt_code gathers count (takes names) (bodied false gathers b))
      → Lands dialect code stack.loops (spot at (stacked us (with_result last (with_results gathers [] stack))) d) s (result_at (at + length (dealt_code gathers count (takes names) (bodied false gathers b))) stack d) (exec (Run dialect) (page_does dialect (each_command gathers) (drop 1 us) d) s)
  unfolding page_asks foreach_page lmap_page asked all_answered answered
  dealt_lands gathers names body b f count code at [] last stack d s are e has = absurd are
  dealt_lands gathers names body b f count code at (u ∷ us) last stack d s are e has =
      same_done dialect code (sym (named gathers s)) (go (loop_lists_of empty (pairs us)) refl)
    where
      -- what is said of a list without names, which isn't there
      empty : Text
      empty = literal "foreach varlist is empty"

      end : Completion → Spot
      end = result_at (at + length (dealt_code gathers count (takes names) (bodied false gathers b))) stack d

      -- the page, by its lists
      page : Bool → Answer (List LoopList) → Asks
      page g x = judged x >>= λ lists. each_next (each_among g body [] lists)

      named : (g : Bool) (s : State) → exec (Run dialect) (page_does dialect (each_command g) us d) s ≡ exec (Run dialect) (page_in dialect d (page g (loop_lists_of empty (pairs us)))) s
      named true s =
          let other = literal "lmap varlist is empty" in
          ap (λ x. exec (Run dialect) (page_in dialect d (each_shaped (Some []) (literal "lmap varList list ?varList list ...? command") other x)) s) (shape_is names body us are.1 are.2)
          ∙ ap (λ x. exec (Run dialect) (page_in dialect d (page true x)) s) (same_lists other empty names body us are.2)
      named false s = ap (λ x. exec (Run dialect) (page_in dialect d (each_shaped None (literal "foreach varList list ?varList list ...? command") empty x)) s) (shape_is names body us are.1 are.2)

      dealt_to : Answer (List LoopList) → Move
      dealt_to x = on_answer (answering x (λ ls. Ok (dealt ls))) (λ es. spot (at + 1) (with_result last (gathered es (with_results gathers [] stack))) d) s

      moves : move dialect (Some (Deal count)) at (onto (u ∷ us) stack.texts) (results_on gathers [] stack.lists) (last ∷ stack.results) stack.loops d s ≡ dealt_to (loop_lists_of empty (pairs us))
      moves =
          ap (λ x. on_taken x (λ words below. on_answer (dealt_of (drop 1 words)) (λ es. spot (at + 1) (stack_of below (es ∷ results_on gathers [] stack.lists) (last ∷ stack.results) stack.loops) d) s)) (taken_all count (u ∷ us) stack.texts (omega (arith, e)))

      go : (x : Answer (List LoopList)) → loop_lists_of empty (pairs us) ≡ x → Lands dialect code stack.loops (spot at (stacked (u ∷ us) (with_result last (with_results gathers [] stack))) d) s end (exec (Run dialect) (page_in dialect d (page gathers (loop_lists_of empty (pairs us)))) s)
      go (Ok ls) k =
          let known = lists_named empty names body us are.2 ls k in
          one_done dialect code (Deal count) has.0 (moves ∙ ap dealt_to k)
          (same_done dialect code (sym (ap (λ x. exec (Run dialect) (page_in dialect d (page gathers x)) s) k))
          (one_done dialect code (Skip (length (takes names) + length (bodied false gathers b) + 1)) has.1.0 refl
          (turns_land gathers names body count b f code at stack d has ls [] (dealt ls) last s _ (omega arith) (left_dealt (suc s.units) (longest ls) names ls known.0 known.1 (omega arith)))))
      go (Err m) k =
          final_done dialect code (Deal count) has.0
          (λ next. ap (follow dialect next stack.loops) (moves ∙ ap dealt_to k)
          ∙ ap (λ x. landed next stack.loops end (exec (Run dialect) (page_in dialect d (page gathers x)) s)) (sym k))

  pub each_lands : (gathers : Bool) (names : List Text) (body : Text) (b : List Instruction) → Follows dialect b body → (count : ℕ) (code : List Instruction) (at : ℕ) (us : List Text) (last : Completion) (stack : Stack) (d : ℕ) (s : State) → AreEachTexts gathers names body us → length us ≡ count
      → HasAt code at (each_code gathers count (takes names) (bodied false gathers b))
      → Lands dialect code stack.loops (spot at (stacked us (with_result last stack)) d) s (result_at (at + length (each_code gathers count (takes names) (bodied false gathers b))) stack d) (exec (Run dialect) (page_does dialect (each_command gathers) (drop 1 us) d) s)
  each_lands true names body b f count code at us last stack d s are e has = one_done dialect code Gather has.0 refl (moved_done dialect code (omega arith) (dealt_lands true names body b f count code (at + 1) us last stack d s are e has.1))
  each_lands false names body b f count code at us last stack d s are e has = dealt_lands false names body b f count code at us last stack d s are e has
