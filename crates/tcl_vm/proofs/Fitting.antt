-- An instruction of valid code finds what it needs, and what it leads to fits.
use Rattle.std.proofs.Common.{◌≡◌, ◌⊎◌, inl, inr, ℕ, zero, suc, ◌+◌, ◌-◌, ◌≤◌, ◌<◌, cond, Bool, true, false, List, [], ◌∷◌, ◌++◌, length, Option, Some, None, Result, Ok, Err, refl, sym, ap, subst, arith, drop}
use Rattle.std.specs.Prelude.{slice_get, nat_lt}
use Rattle.std.proofs.lemmas.Bool.{ltb-false}
use Rattle.std.proofs.lemmas.Option.{slice_get_within}
use Rattle.std.specs.List.{concat}
use Rattle.tcl_chars.specs.declared.numbers.Dialect.{Dialect}
use Rattle.tcl_expr.specs.declared.token.BinaryOp.{BinaryOp}
use Rattle.tcl_expr.specs.declared.token.BinaryOp.TheVariants as binary
use Rattle.tcl_chars.specs.Messages.{truth_value}
use Rattle.tcl_list.specs.Elements.{elements_of}
use Rattle.tcl_list.specs.Written.{written}
use Rattle.tcl_pages.specs.Answers.{Answer}
use Rattle.tcl_meaning.specs.Operators.{Operator, lazy, eager, operator, truth_answer, unary_answer, power_answer, function_answer, final_answer}
use Rattle.tcl_pages.specs.Texts.{Text}
use Rattle.tcl_meaning.specs.declared.refusal.Refusal.{Refusal}
use Rattle.tcl_meaning.specs.declared.code.Code.TheVariants as how
use Rattle.tcl_meaning.specs.Asking.{Asks, value_step}
use Rattle.tcl_meaning.specs.Beginnings.{IsFree}
use Rattle.tcl_meaning.specs.Codes.{return_completion}
use Rattle.tcl_meaning.specs.Completions.{Completion, nothing, normal, ended, failure, too_deep, code_now}
use Rattle.tcl_meaning.specs.Effects.{Got, Gives, Broke, Exits, Untold, does}
use Rattle.tcl_meaning.specs.Expressions.{is_same}
use Rattle.tcl_meaning.specs.Script.{most_depth}
use Rattle.tcl_meaning.specs.State.{State, with_units}
use Rattle.tcl_meaning.specs.Substitution.{spelled_element}
use Rattle.tcl_meaning.specs.Tasks.{Step, Done, Run, Evaluate, Pay}
use Rattle.tcl_meaning.specs.Value.{Value}
use Rattle.tcl_meaning.specs.VariablePages.{set_page, update_page}
use Rattle.tcl_meaning.specs.Variables.{get, cant_read}
use Rattle.tcl_meaning.proofs.Plain.{plain_free}
use Rattle.tcl_pages.specs.declared.pages.UpdatePage.TheVariants as update
use Rattle.tcl_code.specs.Caught.{caught}
use Rattle.tcl_code.specs.Guards.{stands}
use Rattle.tcl_code.specs.Dealing.{dealt_of}
use Rattle.tcl_code.specs.Instructions.{Instruction, Push, Read, ReadElement, Duplicate, Join, Spend, Enter, Leave, Call, Gather, Add, AddAll, CallGathered, Deal, TakeFirst, SkipEmpty, DropList, Listed, Raise, Guard, Under, Write, Bump, Become, Body, Again, Collect, Return, Break, Continue, Skip, SkipWhen, Turn, Unary, Binary, Power, Apply, Truth, Final, Answer as AnswerTop}
use Rattle.tcl_code.specs.Machine.{Loop, Texts, Taken, taken, on_taken, on_read, on_answer, on_operator, on_step, on_page, spend, Spot, spot, stack_of, behind_loop, collected, Move, To, Fails, Ends, Calls, Wrong, move}
use Rattle.tcl_code.specs.Open.{IsShaped, LoopFits, LoopsFit}
use Rattle.tcl_code.specs.Running.{running}
use Rattle.tcl_code.specs.declared.shape.Shape.{Shape}
use Rattle.tcl_code.specs.Valid.{bare, bare_in, with_texts, Target, Ahead, Back, target, IsFine, IsEager, ways_of, HasWay, ways_at, FineOrEnd, Valid, Comes as ComesTo}
use Rattle.tcl_vm.specs.Standing.{Running, here}
use Rattle.tcl_vm.specs.Fitting.{FitsHere, FitsThen}
use Rattle.tcl_vm.specs.Turns.{left, weight, loops_left}
use Rattle.tcl_vm.proofs.Landing.{OpenFits, caught_elim, coded_elim, collected_fits, loop_fits}
use Rattle.tcl_vm.proofs.Quiet.{IsDone, IsOver, IsQuiet, GivesQuietly, quiet_does, set_page_quiet, incr_page_quiet}
use Rattle.tcl_vm.proofs.Weights.{left_ahead, left_inside}

-- ---- one way on

-- How units and commands that are paid for change: not at all; or a unit pays for a command; or for a turn back. But for that one less
-- is left, which was l.
abbrev pub Pays : Option Instruction → (p n l m u v : ℕ) → Type 0
Pays i p n l m u v =
    ((n ≡ p) × (m < l) × (v ≡ u))
    ⊎ (((i ≡ Some Spend) × (n ≡ p + 1) × (m < l) × (v + 1 ≡ u))
    ⊎ ((k : ℕ) × (i ≡ Some (Turn k)) × (n ≡ p) × (v + 1 ≡ u)))

abbrev pub MoveFits : Option Instruction → List Instruction → (l p : ℕ) → State → Move → Type 0
MoveFits i code l p s (To q t) = (n : ℕ) × FitsHere (running code q) n × Pays i p n l (left (running code q)) s.units t.units
MoveFits i code l p s (Fails c t) = ⊥
MoveFits i code l p s (Ends g) = Unit {0}
MoveFits i code l p s (Calls words q t) = (n : ℕ) × FitsThen (running code q) n × (n + 1 ≡ p) × (left (running code q) < l) × (t ≡ s)
MoveFits i code l p s Wrong = ⊥

pub taken_some : (n : ℕ) (us ts : Texts) (P : Taken → Type 0) → n ≤ length ts → ((vs below : Texts) → length below + n ≡ length ts → P (Some (vs, below))) → P (taken n us ts)
taken_some zero us ts P le k = k us ts (omega arith)
taken_some (suc n) us [] P le k = absurd (omega arith)
taken_some (suc n) us (t ∷ ts) P le k = taken_some n (t ∷ us) ts P (omega arith) (λ vs below e. k vs below (omega arith))

-- an operator that takes both texts answers at once
abbrev Eager : Operator → Type 0
Eager (lazy b) = ⊥
Eager (eager g) = Unit {0}

is_eager : (dialect : Dialect) (o : BinaryOp) → IsEager o → Eager (operator dialect o)
is_eager dialect binary.And f = absurd f
is_eager dialect binary.Or f = absurd f
is_eager dialect binary.Times f = tt
is_eager dialect binary.Divide f = tt
is_eager dialect binary.Remainder f = tt
is_eager dialect binary.Add f = tt
is_eager dialect binary.Subtract f = tt
is_eager dialect binary.ShiftLeft f = tt
is_eager dialect binary.ShiftRight f = tt
is_eager dialect binary.Less f = tt
is_eager dialect binary.Greater f = tt
is_eager dialect binary.LessEqual f = tt
is_eager dialect binary.GreaterEqual f = tt
is_eager dialect binary.Equal f = tt
is_eager dialect binary.NotEqual f = tt
is_eager dialect binary.TextEqual f = tt
is_eager dialect binary.TextNotEqual f = tt
is_eager dialect binary.In f = tt
is_eager dialect binary.NotIn f = tt
is_eager dialect binary.BitAnd f = tt
is_eager dialect binary.BitXor f = tt
is_eager dialect binary.BitOr f = tt

module _ (dialect : Dialect) (code : List Instruction) (shape : Shape) (at d p : ℕ) (os : List Loop) (outer : ℕ) (valid : Valid code) (comes : ComesTo code at shape) (loops : LoopsFit code os shape.loops outer) (paid_for : shape.paid + outer ≤ p) (deep : d ≤ most_depth) (s : State) where
  -- what is left here
  abbrev here_left : ℕ
  here_left = weight (length code - at) + loops_left (length code) os

  abbrev GoesOn : Instruction → Move → Type 0
  GoesOn i m = MoveFits (Some i) code here_left p s (caught os m)

  -- where a way leads, with the shape that it has
  way_fits : (i : Instruction) → slice_get code at ≡ Some i → (k : Target) (t : Shape) → HasWay (ways_of i shape) k t → (at' : ℕ) (ts : Texts) (ls : List Texts) (rs : List Completion) (qs : List Loop) (d' more n : ℕ) → at' ≡ target at k
      → IsShaped ts ls rs d' t → d' ≤ most_depth → LoopsFit code qs t.loops more → t.paid + more ≤ n → FitsHere (running code (spot at' (stack_of ts ls rs qs) d')) n
  way_fits i e k t w at' ts ls rs qs d' more n q h dp lf pf = record {
    shape = t;
    valid = valid;
    comes = record { steps = suc comes.steps; comes = (at, shape, k, comes.comes, subst (λ o. HasWay (ways_at o shape) k t) (sym e) w, q) };
    shaped = h;
    deep = dp;
    outer = more;
    loops = lf;
    paid_for = pf;
  }

  -- further on less is left
  ahead_left : (i : Instruction) → slice_get code at ≡ Some i → (at' : ℕ) → at < at' → weight (length code - at') + loops_left (length code) os < here_left
  ahead_left i e at' h = left_ahead (length code) at at' os (slice_get_within code at i e) h

  -- on to a place ahead, in the same loops
  ahead_fits : (i : Instruction) → slice_get code at ≡ Some i → (n : ℕ) (t : Shape) → HasWay (ways_of i shape) (Ahead n) t → (at' : ℕ) → at' ≡ at + 1 + n → (ts : Texts) (ls : List Texts) (rs : List Completion) (d' : ℕ)
      → IsShaped ts ls rs d' t → d' ≤ most_depth → LoopsFit code os t.loops outer → t.paid + outer ≤ p → (u : State) → u.units ≡ s.units → GoesOn i (To (spot at' (stack_of ts ls rs os) d') u)
  ahead_fits i e n t w at' q ts ls rs d' h dp lf pf u free = (p, way_fits i e (Ahead n) t w at' ts ls rs os d' outer p q h dp lf pf, inl (refl, ahead_left i e at' (omega arith), free))

  -- on to the next instruction
  next_fits : (i : Instruction) → slice_get code at ≡ Some i → (t : Shape) → HasWay (ways_of i shape) (Ahead 0) t → (ts : Texts) (ls : List Texts) (rs : List Completion) (d' : ℕ)
      → IsShaped ts ls rs d' t → d' ≤ most_depth → LoopsFit code os t.loops outer → t.paid + outer ≤ p → GoesOn i (To (spot (at + 1) (stack_of ts ls rs os) d') s)
  next_fits i e t w ts ls rs d' h dp lf pf = ahead_fits i e 0 t w (at + 1) (omega arith) ts ls rs d' h dp lf pf s refl

  open_fits : OpenFits code p (loops_left (length code) os) os
  open_fits = record { loops = shape.loops; outer = outer; fits = loops; paid_for = omega arith; less = omega arith }

  -- where an open loop goes on
  loop_goes : (i : Instruction) (u : State) → u.units ≡ s.units → (n : ℕ) (o : Loop) (inner rest : List Loop) → n ≤ 1 → os ≡ inner ++ o ∷ rest → MoveFits (Some i) code here_left p s (To (behind_loop n o rest) u)
  loop_goes i u free n o inner rest le e = let x = loop_fits code os at p (loops_left (length code) os) valid open_fits n o inner rest le e in (p, x.0, inl (refl, x.1, free))

  fails_fits : (i : Instruction) (c : Completion) (u : State) → u.units ≡ s.units → GoesOn i (Fails c u)
  fails_fits i c u free = caught_elim (MoveFits (Some i) code here_left p s) os c u (loop_goes i u free) tt (code_now c)

  read_fits : (i : Instruction) (name : Text) (r : Result Text Refusal) (to : Text → Spot) → ((t : Text) → GoesOn i (To (to t) s)) → GoesOn i (on_read name r to s)
  read_fits i name (Ok t) to k = k t
  read_fits i name (Err refusal) to k = fails_fits i (cant_read name refusal) s refl

  answer_fits : {A : Type 0} (i : Instruction) (r : Answer A) (to : A → Spot) → ((x : A) → GoesOn i (To (to x) s)) → GoesOn i (on_answer r to s)
  answer_fits i (Ok x) to k = k x
  answer_fits i (Err message) to k = fails_fits i (failure message) s refl

  operator_fits : (o : BinaryOp) → IsEager o → (x y : Text) (to : Text → Spot) → ((t : Text) → GoesOn (Binary o) (To (to t) s)) → GoesOn (Binary o) (on_operator (operator dialect o) x y to s)
  operator_fits o f x y to k = by_operator (operator dialect o) (is_eager dialect o f)
    where
      by_operator : (q : Operator) → Eager q → GoesOn (Binary o) (on_operator q x y to s)
      by_operator (lazy b) f = absurd f
      by_operator (eager g) f = answer_fits (Binary o) (g x y) to k

  spend_fits : (i : Instruction) (u : ℕ) (q : Spot) → s.units ≡ u → ((v : ℕ) → v + 1 ≡ s.units → GoesOn i (To q (with_units v s))) → GoesOn i (spend u q s)
  spend_fits i zero q e k = tt
  spend_fits i (suc v) q e k = k v (omega arith)

  -- a script begins, unless it would stand too deep
  deep_fits : (i : Instruction) (to : Spot) → (suc d ≤ most_depth → GoesOn i (To to s)) → GoesOn i (cond (nat_lt most_depth (suc d)) (Fails too_deep s) (To to s))
  deep_fits i to k = by_depth (nat_lt most_depth (suc d)) refl
    where
      by_depth : (b : Bool) → nat_lt most_depth (suc d) ≡ b → GoesOn i (cond b (Fails too_deep s) (To to s))
      by_depth true g = fails_fits i too_deep s refl
      by_depth false g = k (ltb-false most_depth (suc d) g)

  call_fits : (i : Instruction) → slice_get code at ≡ Some i → (t : Shape) → HasWay (ways_of i shape) (Ahead 0) t → (words ts : Texts) (ls : List Texts) (rs : List Completion) → ((c : Completion) → IsShaped ts ls (c ∷ rs) d t) → LoopsFit code os t.loops outer → t.paid + 1 ≡ shape.paid
      → GoesOn i (Calls words (spot (at + 1) (stack_of ts ls rs os) d) s)
  call_fits i e t w words ts ls rs h lf pf = (p - 1, record { then_fits = λ c. way_fits i e (Ahead 0) t w (at + 1) ts ls (c ∷ rs) os d outer (p - 1) (omega arith) (h c) deep lf (omega arith) }, omega arith, ahead_left i e (at + 1) (omega arith), refl)

  -- a page is over
  page_fits : (i : Instruction) (page : Asks) → IsQuiet page → (to : Completion → Spot) → ((c : Completion) (t : State) → t.units ≡ s.units → GoesOn i (To (to c) t)) → GoesOn i (on_page (does page s) to)
  page_fits i page quiet to k = by_got (does page s) (quiet_does IsOver page s quiet) (plain_free page s)
    where
      by_step : (x : Step) (t : State) → IsDone x → t.units ≡ s.units → GoesOn i (on_step x to t)
      by_step (Done c) t h free = coded_elim (MoveFits (Some i) code here_left p s) os c t (loop_goes i t free) tt to (k c t free) (code_now c)
      by_step (Run scope script owes) t h free = absurd h
      by_step (Evaluate expr owes) t h free = absurd h
      by_step (Pay loop) t h free = absurd h

      by_got : (g : Got (Value Step)) → GivesQuietly IsOver s g → IsFree s g → GoesOn i (on_page g to)
      by_got (Gives v t) h free = by_step (value_step v) t h.0 free
      by_got (Broke r) h free = absurd h
      by_got (Exits n r) h free = absurd h
      by_got (Untold c) h free = absurd h

  -- texts alone come and go
  texts_fit : (i : Instruction) → slice_get code at ≡ Some i → (less more : ℕ) → HasWay (ways_of i shape) (Ahead 0) (with_texts less more shape) → (ts us : Texts) (ls : List Texts) (rs : List Completion)
      → IsShaped ts ls rs d shape → length us ≡ shape.height - less + more → GoesOn i (To (spot (at + 1) (stack_of us ls rs os) d) s)
  texts_fit i e less more w ts us ls rs h q = next_fits i e (with_texts less more shape) w us ls rs d (record { texts = q; lists = h.lists; results = h.results; brackets = h.brackets }) deep loops paid_for

  -- a command's result comes in place of the last one, and its text goes
  result_fits : (i : Instruction) → slice_get code at ≡ Some i → HasWay (ways_of i shape) (Ahead 0) (with_texts 1 0 shape) → (t : Text) (ts : Texts) (ls : List Texts) (r : Completion) (rs : List Completion)
      → IsShaped (t ∷ ts) ls (r ∷ rs) d shape → (c : Completion) (u : State) → u.units ≡ s.units → GoesOn i (To (spot (at + 1) (stack_of ts ls (c ∷ rs) os) d) u)
  result_fits i e w t ts ls r rs h c u free =
      ahead_fits i e 0 (with_texts 1 0 shape) w (at + 1) (omega arith) ts ls (c ∷ rs) d (record { texts = let q = h.texts in omega arith; lists = h.lists; results = h.results; brackets = h.brackets }) deep loops paid_for u free

  -- where a body ends, with its result alone, a loop is open
  body_fits : (i : Instruction) → (shape ≡ bare_in shape.loops) × (1 ≤ shape.loops) → (qs : List Loop) (ts : Texts) (ls : List Texts) (rs : List Completion) (m : Texts → List Texts → List Completion → List Loop → Move) → os ≡ qs → IsShaped ts ls rs d shape
      → ((r : Completion) (o : Loop) (os' : List Loop) → os ≡ o ∷ os' → MoveFits (Some i) code here_left p s (caught (o ∷ os') (m [] [] (r ∷ []) (o ∷ os')))) → MoveFits (Some i) code here_left p s (caught qs (m ts ls rs qs))
  body_fits i f qs ts ls rs m is h k = only qs ts ls rs is (ap (λ t. t.height) f.0) (ap (λ t. t.lists) f.0) (ap (λ t. t.depth) f.0) h
    where
      only : (qs : List Loop) (ts : Texts) (ls : List Texts) (rs : List Completion) → os ≡ qs → shape.height ≡ 0 → shape.lists ≡ 0 → shape.depth ≡ 0 → IsShaped ts ls rs d shape → MoveFits (Some i) code here_left p s (caught qs (m ts ls rs qs))
      only qs (t ∷ ts) ls rs o a b c h = absurd (let q = h.texts in omega arith)
      only qs [] (l ∷ ls) rs o a b c h = absurd (let q = h.lists in omega arith)
      only qs [] [] [] o a b c h = absurd (let q = h.results in omega arith)
      only qs [] [] (r ∷ r' ∷ rs) o a b c h = absurd (let q = h.results in omega arith)
      only [] [] [] (r ∷ []) o a b c h = absurd (let q = subst (λ x. LoopsFit code x shape.loops outer) o loops in let g = f.1 in omega arith)
      only (q ∷ qs) [] [] (r ∷ []) o a b c h = k r q qs o

  -- where the innermost loop goes on that has collected a text
  collects : (i : Instruction) (t : Text) (o : Loop) (rest : List Loop) → os ≡ o ∷ rest → MoveFits (Some i) code here_left p s (To (behind_loop 1 (record o { lists = collected t o.lists }) rest) s)
  collects i t o rest e =
      let l = loops_left (length code) os in
      let fits = collected_fits code p l t o rest (subst (OpenFits code p l) e open_fits) in
      let x = loop_fits code (record o { lists = collected t o.lists } ∷ rest) at p l valid fits 1 (record o { lists = collected t o.lists }) [] rest (omega arith) refl in
      (p, x.0, inl (refl, x.1, refl))

  pub move_fits : (i : Instruction) (ts : Texts) (ls : List Texts) (rs : List Completion) → slice_get code at ≡ Some i → IsFine i shape → IsShaped ts ls rs d shape → GoesOn i (move dialect (Some i) at ts ls rs os d s)
  move_fits (Push t) ts ls rs e f h = texts_fit (Push t) e 0 1 (inl (refl, refl)) ts (t ∷ ts) ls rs h (let q = h.texts in omega arith)
  move_fits (Read name) ts ls rs e f h = read_fits (Read name) name (get s.store name) _ (λ t. texts_fit (Read name) e 0 1 (inl (refl, refl)) ts (t ∷ ts) ls rs h (let q = h.texts in omega arith))
  move_fits (ReadElement name) [] ls rs e f h = absurd (let q = h.texts in omega arith)
  move_fits (ReadElement name) (i ∷ ts) ls rs e f h = read_fits (ReadElement name) (spelled_element name i) (get s.store (spelled_element name i)) _ (λ t. texts_fit (ReadElement name) e 1 1 (inl (refl, refl)) (i ∷ ts) (t ∷ ts) ls rs h (let q = h.texts in omega arith))
  move_fits (Join n) ts ls rs e f h = taken_some n [] ts (λ x. GoesOn (Join n) (on_taken x (λ us below. To (spot (at + 1) (stack_of (concat us ∷ below) ls rs os) d) s))) (let q = h.texts in omega arith)
      (λ us below g. texts_fit (Join n) e n 1 (inl (refl, refl)) ts (concat us ∷ below) ls rs h (let q = h.texts in omega arith))
  move_fits Spend ts ls [] e f h = absurd (let q = h.results in omega arith)
  move_fits Spend ts ls (r ∷ rs) e f h = spend_fits Spend s.units _ refl
      (λ v g. (p + 1, way_fits Spend e (Ahead 0) (record shape { paid = shape.paid + 1 }) (inl (refl, refl)) (at + 1) ts ls (nothing ∷ rs) os d outer (p + 1) (omega arith) (record { texts = h.texts; lists = h.lists; results = let q = h.results in omega arith; brackets = h.brackets }) deep loops (omega arith), inr (inl (refl, refl, ahead_left Spend e (at + 1) (omega arith), g))))
  move_fits Enter ts ls rs e f h = deep_fits Enter _
      (λ dp. next_fits Enter e (record shape { depth = shape.depth + 1 }) (inl (refl, refl)) ts ls (nothing ∷ rs) (suc d) (record { texts = h.texts; lists = h.lists; results = let q = h.results in omega arith; brackets = let q = h.brackets in omega arith }) dp loops paid_for)
  move_fits Leave ts ls [] e f h = absurd (let q = h.results in omega arith)
  move_fits Leave ts ls (r ∷ rs) e f h = leave_fits d h.brackets deep
    where
      leave_fits : (d' : ℕ) → shape.depth ≤ d' → d' ≤ most_depth → GoesOn Leave (move dialect (Some Leave) at ts ls (r ∷ rs) os d' s)
      leave_fits zero b dp = absurd (omega arith)
      leave_fits (suc d') b dp = next_fits Leave e (record shape { height = shape.height + 1; depth = shape.depth - 1 }) (inl (refl, refl)) (r.result ∷ ts) ls rs d' (record { texts = let q = h.texts in omega arith; lists = h.lists; results = let q = h.results in omega arith; brackets = omega arith }) (omega arith) loops paid_for
  move_fits (Call n) ts ls [] e f h = absurd (let q = h.results in omega arith)
  move_fits (Call n) ts ls (r ∷ rs) e f h = taken_some n [] ts (λ x. GoesOn (Call n) (on_taken x (λ words below. Calls words (spot (at + 1) (stack_of below ls rs os) d) s))) (let q = h.texts in omega arith)
      (λ us below g. call_fits (Call n) e (record shape { height = shape.height - n; paid = shape.paid - 1 }) (inl (refl, refl)) us below ls rs (λ c. record { texts = let q = h.texts in omega arith; lists = h.lists; results = h.results; brackets = h.brackets }) loops (let q = f.1 in omega arith))
  move_fits Gather ts ls rs e f h = next_fits Gather e (record shape { lists = shape.lists + 1 }) (inl (refl, refl)) ts ([] ∷ ls) rs d (record { texts = h.texts; lists = let q = h.lists in omega arith; results = h.results; brackets = h.brackets }) deep loops paid_for
  move_fits Add [] ls rs e f h = absurd (let q = h.texts in omega arith)
  move_fits Add (t ∷ ts) [] rs e f h = absurd (let q = h.lists in omega arith)
  move_fits Add (t ∷ ts) (l ∷ ls) rs e f h = next_fits Add e (with_texts 1 0 shape) (inl (refl, refl)) ts ((l ++ t ∷ []) ∷ ls) rs d (record { texts = let q = h.texts in omega arith; lists = h.lists; results = h.results; brackets = h.brackets }) deep loops paid_for
  move_fits AddAll [] ls rs e f h = absurd (let q = h.texts in omega arith)
  move_fits AddAll (t ∷ ts) [] rs e f h = absurd (let q = h.lists in omega arith)
  move_fits AddAll (t ∷ ts) (l ∷ ls) rs e f h = answer_fits AddAll (elements_of t) _ (λ us. next_fits AddAll e (with_texts 1 0 shape) (inl (refl, refl)) ts ((l ++ us) ∷ ls) rs d (record { texts = let q = h.texts in omega arith; lists = h.lists; results = h.results; brackets = h.brackets }) deep loops paid_for)
  move_fits CallGathered ts [] rs e f h = absurd (let q = h.lists in omega arith)
  move_fits CallGathered ts (l ∷ ls) [] e f h = absurd (let q = h.results in omega arith)
  move_fits CallGathered ts (l ∷ ls) (r ∷ rs) e f h = call_fits CallGathered e (record shape { lists = shape.lists - 1; paid = shape.paid - 1 }) (inl (refl, refl)) l ts ls rs (λ c. record { texts = h.texts; lists = let q = h.lists in omega arith; results = h.results; brackets = h.brackets }) loops (let q = f.1 in omega arith)
  move_fits (Deal n) ts ls rs e f h = taken_some n [] ts (λ x. GoesOn (Deal n) (on_taken x (λ us below. on_answer (dealt_of (drop 1 us)) (λ vs. spot (at + 1) (stack_of below (vs ∷ ls) rs os) d) s))) (let q = h.texts in omega arith)
      (λ us below k. answer_fits (Deal n) (dealt_of (drop 1 us)) _
      (λ vs. next_fits (Deal n) e (record shape { height = shape.height - n; lists = shape.lists + 1 }) (inl (refl, refl)) below (vs ∷ ls) rs d (record { texts = let q = h.texts in omega arith; lists = let q = h.lists in omega arith; results = h.results; brackets = h.brackets }) deep loops paid_for))
  move_fits TakeFirst ts [] rs e f h = absurd (let q = h.lists in omega arith)
  move_fits TakeFirst ts ([] ∷ ls) rs e f h = texts_fit TakeFirst e 0 1 (inl (refl, refl)) ts ([] ∷ ts) ([] ∷ ls) rs h (let q = h.texts in omega arith)
  move_fits TakeFirst ts ((w ∷ ws) ∷ ls) rs e f h = next_fits TakeFirst e (with_texts 0 1 shape) (inl (refl, refl)) (w ∷ ts) (ws ∷ ls) rs d (record { texts = let q = h.texts in omega arith; lists = h.lists; results = h.results; brackets = h.brackets }) deep loops paid_for
  move_fits (SkipEmpty n) ts [] rs e f h = absurd (let q = h.lists in omega arith)
  move_fits (SkipEmpty n) ts ([] ∷ ls) rs e f h = ahead_fits (SkipEmpty n) e n shape (inr (inl (refl, refl))) (at + 1 + n) refl ts ([] ∷ ls) rs d h deep loops paid_for s refl
  move_fits (SkipEmpty n) ts ((w ∷ ws) ∷ ls) rs e f h = next_fits (SkipEmpty n) e shape (inl (refl, refl)) ts ((w ∷ ws) ∷ ls) rs d h deep loops paid_for
  move_fits DropList ts [] rs e f h = absurd (let q = h.lists in omega arith)
  move_fits DropList ts (l ∷ ls) rs e f h = next_fits DropList e (record shape { lists = shape.lists - 1 }) (inl (refl, refl)) ts ls rs d (record { texts = h.texts; lists = let q = h.lists in omega arith; results = h.results; brackets = h.brackets }) deep loops paid_for
  move_fits Listed ts [] rs e f h = absurd (let q = h.lists in omega arith)
  move_fits Listed ts (l ∷ ls) rs e f h = next_fits Listed e (record shape { height = shape.height + 1; lists = shape.lists - 1 }) (inl (refl, refl)) (written l ∷ ts) ls rs d (record { texts = let q = h.texts in omega arith; lists = let q = h.lists in omega arith; results = h.results; brackets = h.brackets }) deep loops paid_for
  move_fits (Raise message) ts ls rs e f h = fails_fits (Raise message) (failure message) s refl
  move_fits (Guard g n) ts ls rs e f h = guard_fits (stands g s.store)
    where
      guard_fits : (b : Bool) → GoesOn (Guard g n) (To (spot (cond b (at + 1) (at + 1 + n)) (stack_of ts ls rs os) d) s)
      guard_fits true = next_fits (Guard g n) e (record shape { paid = shape.paid - 1 }) (inr (inl (refl, refl))) ts ls rs d (record { texts = h.texts; lists = h.lists; results = h.results; brackets = h.brackets }) deep loops (omega arith)
      guard_fits false = ahead_fits (Guard g n) e n shape (inl (refl, refl)) (at + 1 + n) refl ts ls rs d h deep loops paid_for s refl
  move_fits Duplicate [] ls rs e f h = absurd (let q = h.texts in omega arith)
  move_fits Duplicate (u ∷ ts) ls rs e f h = texts_fit Duplicate e 1 2 (inl (refl, refl)) (u ∷ ts) (u ∷ u ∷ ts) ls rs h (let q = h.texts in omega arith)
  move_fits (Under t) [] ls rs e f h = absurd (let q = h.texts in omega arith)
  move_fits (Under t) (u ∷ ts) ls rs e f h = texts_fit (Under t) e 1 2 (inl (refl, refl)) (u ∷ ts) (u ∷ t ∷ ts) ls rs h (let q = h.texts in omega arith)
  move_fits (Write name) [] ls rs e f h = absurd (let q = h.texts in omega arith)
  move_fits (Write name) (t ∷ ts) ls [] e f h = absurd (let q = h.results in omega arith)
  move_fits (Write name) (t ∷ ts) ls (r ∷ rs) e f h = page_fits (Write name) (set_page (name ∷ t ∷ [])) (set_page_quiet name t) _ (result_fits (Write name) e (inl (refl, refl)) t ts ls r rs h)
  move_fits (Bump name) [] ls rs e f h = absurd (let q = h.texts in omega arith)
  move_fits (Bump name) (t ∷ ts) ls [] e f h = absurd (let q = h.results in omega arith)
  move_fits (Bump name) (t ∷ ts) ls (r ∷ rs) e f h = page_fits (Bump name) (update_page dialect update.Incr (name ∷ t ∷ [])) (incr_page_quiet dialect (name ∷ t ∷ [])) _ (result_fits (Bump name) e (inl (refl, refl)) t ts ls r rs h)
  move_fits Become ts ls [] e f h = absurd (let q = h.results in omega arith)
  move_fits Become ts ls (r ∷ []) e f h = absurd (let q = h.results in omega arith)
  move_fits Become ts ls (r ∷ below ∷ rs) e f h = become_fits d h.brackets deep
    where
      become_fits : (d' : ℕ) → shape.depth ≤ d' → d' ≤ most_depth → GoesOn Become (move dialect (Some Become) at ts ls (r ∷ below ∷ rs) os d' s)
      become_fits zero b dp = absurd (omega arith)
      become_fits (suc d') b dp = next_fits Become e (record shape { depth = shape.depth - 1 }) (inl (refl, refl)) ts ls (r ∷ rs) d' (record { texts = h.texts; lists = h.lists; results = let q = h.results in omega arith; brackets = omega arith }) (omega arith) loops paid_for
  move_fits (Body b n) ts ls rs e f h = deep_fits (Body b n) _
      (λ dp. (p, way_fits (Body b n) e (Ahead 0) (bare_in (shape.loops + 1)) (inr (inr (inl (refl, refl)))) (at + 1) [] [] (nothing ∷ []) (opened ∷ os) (suc d) (shape.paid + outer) p (omega arith) (record { texts = refl; lists = refl; results = refl; brackets = omega arith }) dp (shape, fits, refl, (outer, omega arith, loops)) (omega arith), inl (refl, left_inside (length code) at (at + 1) (at + 1 + n) os (slice_get_within code at (Body b n) e) (omega arith) (omega arith), refl)))
    where
      opened : Loop
      opened = record { at = at + 1 + n; passes = b; texts = ts; lists = ls; results = rs; depth = d }

      way : (k : Target) (at' : ℕ) → HasWay (ways_of (Body b n) shape) k shape → at' ≡ target at k → ComesTo code at' shape
      way k at' w q = record { steps = suc comes.steps; comes = (at, shape, k, comes.comes, subst (λ o. HasWay (ways_at o shape) k shape) (sym e) w, q) }

      fits : LoopFits code opened shape
      fits = record {
        breaks = way (Ahead n) (at + 1 + n) (inl (refl, refl)) refl;
        continues = way (Ahead (n + 1)) (at + 1 + n + 1) (inr (inl (refl, refl))) (omega arith);
        shaped = h;
        deep = deep;
      }
  move_fits Again ts ls rs e f h = body_fits Again f os ts ls rs (λ ts ls rs qs. move dialect (Some Again) at ts ls rs qs d s) refl h (λ r o qs is. loop_goes Again s refl 1 o [] qs (omega arith) is)
  move_fits Collect ts ls rs e f h = body_fits Collect f os ts ls rs (λ ts ls rs qs. move dialect (Some Collect) at ts ls rs qs d s) refl h (λ r o qs is. collects Collect r.result o qs is)
  move_fits Return [] ls rs e f h = absurd (let q = h.texts in omega arith)
  move_fits Return (t ∷ ts) ls rs e f h = fails_fits Return (return_completion how.Ok 1 t []) s refl
  move_fits Break ts ls rs e f h = fails_fits Break (ended how.Break []) s refl
  move_fits Continue ts ls rs e f h = fails_fits Continue (ended how.Continue []) s refl
  move_fits (Skip n) ts ls rs e f h = ahead_fits (Skip n) e n shape (inl (refl, refl)) (at + 1 + n) refl ts ls rs d h deep loops paid_for s refl
  move_fits (SkipWhen b n) [] ls rs e f h = absurd (let q = h.texts in omega arith)
  move_fits (SkipWhen b n) (t ∷ ts) ls rs e f h = answer_fits (SkipWhen b n) (truth_value dialect t) _ (λ x. skip_fits (is_same x b))
    where
      below : IsShaped ts ls rs d (with_texts 1 0 shape)
      below = record { texts = let q = h.texts in omega arith; lists = h.lists; results = h.results; brackets = h.brackets }

      skip_fits : (b' : Bool) → GoesOn (SkipWhen b n) (To (spot (cond b' (at + 1 + n) (at + 1)) (stack_of ts ls rs os) d) s)
      skip_fits true = ahead_fits (SkipWhen b n) e n (with_texts 1 0 shape) (inr (inl (refl, refl))) (at + 1 + n) refl ts ls rs d below deep loops paid_for s refl
      skip_fits false = next_fits (SkipWhen b n) e (with_texts 1 0 shape) (inl (refl, refl)) ts ls rs d below deep loops paid_for
  move_fits (Turn n) ts ls rs e f h = spend_fits (Turn n) s.units _ refl
      (λ v g. (p, way_fits (Turn n) e (Back n) shape (inl (refl, refl)) (at - n) ts ls rs os d outer p refl h deep loops paid_for, inr (inr (n, refl, refl, g))))
  move_fits (Unary u) [] ls rs e f h = absurd (let q = h.texts in omega arith)
  move_fits (Unary u) (t ∷ ts) ls rs e f h = answer_fits (Unary u) (unary_answer dialect u t) _ (λ v. texts_fit (Unary u) e 1 1 (inl (refl, refl)) (t ∷ ts) (v ∷ ts) ls rs h (let q = h.texts in omega arith))
  move_fits (Binary o) [] ls rs e f h = absurd (let q = h.texts in let g = f.0 in omega arith)
  move_fits (Binary o) (x ∷ []) ls rs e f h = absurd (let q = h.texts in let g = f.0 in omega arith)
  move_fits (Binary o) (x ∷ y ∷ ts) ls rs e f h = operator_fits o f.1 y x _ (λ v. texts_fit (Binary o) e 2 1 (inl (refl, refl)) (x ∷ y ∷ ts) (v ∷ ts) ls rs h (let q = h.texts in omega arith))
  move_fits Power [] ls rs e f h = absurd (let q = h.texts in omega arith)
  move_fits Power (x ∷ []) ls rs e f h = absurd (let q = h.texts in omega arith)
  move_fits Power (x ∷ y ∷ ts) ls rs e f h = answer_fits Power (power_answer dialect y x) _ (λ v. texts_fit Power e 2 1 (inl (refl, refl)) (x ∷ y ∷ ts) (v ∷ ts) ls rs h (let q = h.texts in omega arith))
  move_fits (Apply g n) ts ls rs e f h = taken_some n [] ts (λ x. GoesOn (Apply g n) (on_taken x (λ us below. on_answer (function_answer dialect g us) (λ v. spot (at + 1) (stack_of (v ∷ below) ls rs os) d) s))) (let q = h.texts in omega arith)
      (λ us below k. answer_fits (Apply g n) (function_answer dialect g us) _ (λ v. texts_fit (Apply g n) e n 1 (inl (refl, refl)) ts (v ∷ below) ls rs h (let q = h.texts in omega arith)))
  move_fits Truth [] ls rs e f h = absurd (let q = h.texts in omega arith)
  move_fits Truth (t ∷ ts) ls rs e f h = answer_fits Truth (truth_answer dialect t) _ (λ v. texts_fit Truth e 1 1 (inl (refl, refl)) (t ∷ ts) (v ∷ ts) ls rs h (let q = h.texts in omega arith))
  move_fits Final [] ls rs e f h = absurd (let q = h.texts in omega arith)
  move_fits Final (t ∷ ts) ls rs e f h = answer_fits Final (final_answer dialect t) _ (λ v. texts_fit Final e 1 1 (inl (refl, refl)) (t ∷ ts) (v ∷ ts) ls rs h (let q = h.texts in omega arith))
  move_fits AnswerTop [] ls rs e f h = absurd (let q = h.texts in omega arith)
  move_fits AnswerTop (t ∷ ts) ls [] e f h = absurd (let q = h.results in omega arith)
  move_fits AnswerTop (t ∷ ts) ls (r ∷ rs) e f h = result_fits AnswerTop e (inl (refl, refl)) t ts ls r rs h (normal t) s refl

-- at the end only the result is left
end_fits : (dialect : Dialect) (code : List Instruction) (shape : Shape) (l p at d outer : ℕ) (s : State) (ts : Texts) (ls : List Texts) (rs : List Completion) (os : List Loop) → shape ≡ bare → LoopsFit code os shape.loops outer → IsShaped ts ls rs d shape
    → MoveFits None code l p s (caught os (move dialect None at ts ls rs os d s))
end_fits dialect code shape l p at d outer s ts ls rs os e lf h = only ts ls rs os (ap (λ t. t.height) e) (ap (λ t. t.lists) e) (ap (λ t. t.depth) e) (ap (λ t. t.loops) e) lf h
  where
    only : (ts : Texts) (ls : List Texts) (rs : List Completion) (os : List Loop) → shape.height ≡ 0 → shape.lists ≡ 0 → shape.depth ≡ 0 → shape.loops ≡ 0 → LoopsFit code os shape.loops outer → IsShaped ts ls rs d shape → MoveFits None code l p s (caught os (move dialect None at ts ls rs os d s))
    only [] [] (r ∷ []) [] a b c o lf h = tt
    only (t ∷ ts) ls rs os a b c o lf h = absurd (let q = h.texts in omega arith)
    only [] (l ∷ ls) rs os a b c o lf h = absurd (let q = h.lists in omega arith)
    only [] [] [] os a b c o lf h = absurd (let q = h.results in omega arith)
    only [] [] (r ∷ q ∷ rs) os a b c o lf h = absurd (let q = h.results in omega arith)
    only [] [] (r ∷ []) (x ∷ os) a b c o lf h = absurd (let q = lf.2 in omega arith)

-- ---- where a code stands

pub here_fits : (dialect : Dialect) (a : Running) (p : ℕ) (s : State) → FitsHere a p → MoveFits (slice_get a.code a.spot.at) a.code (left a) p s (here dialect a s)
here_fits dialect a p s h = by_instruction (slice_get a.code a.spot.at) refl (h.valid.fine a.spot.at h.shape h.comes)
  where
    by_instruction : (o : Option Instruction) → slice_get a.code a.spot.at ≡ o → FineOrEnd a.code a.spot.at h.shape o
        → MoveFits o a.code (left a) p s (caught a.spot.stack.loops (move dialect o a.spot.at a.spot.stack.texts a.spot.stack.lists a.spot.stack.results a.spot.stack.loops a.spot.depth s))
    by_instruction None e f = end_fits dialect a.code h.shape (left a) p a.spot.at a.spot.depth h.outer s a.spot.stack.texts a.spot.stack.lists a.spot.stack.results a.spot.stack.loops f.1 h.loops h.shaped
    by_instruction (Some i) e f = move_fits dialect a.code h.shape a.spot.at a.spot.depth p a.spot.stack.loops h.outer h.valid h.comes h.loops h.paid_for h.deep s i a.spot.stack.texts a.spot.stack.lists a.spot.stack.results e f.0 h.shaped

-- it stands inside, or at the end
pub fits_inside : (a : Running) (p : ℕ) → FitsHere a p → a.spot.at ≤ length a.code
fits_inside a p h = by_instruction (slice_get a.code a.spot.at) refl (h.valid.fine a.spot.at h.shape h.comes)
  where
    by_instruction : (o : Option Instruction) → slice_get a.code a.spot.at ≡ o → FineOrEnd a.code a.spot.at h.shape o → a.spot.at ≤ length a.code
    by_instruction None e f = let q = f.0 in omega arith
    by_instruction (Some i) e f = let q = slice_get_within a.code a.spot.at i e in omega arith
