-- The bodies of loops, inlined: what is run under a loop of the code, and where it leads.
use Rattle.std.proofs.Common.{◌≡◌, ℕ, suc, ◌+◌, ◌-◌, ◌<◌, ◌≤◌, Bool, true, false, List, [], ◌∷◌, ◌++◌, length, Some, refl, sym, ap, ◌∙◌, subst, arith, length-append, cond, ⊎_elim}
use Rattle.std.specs.Prelude.{nat_lt, if◌then◌else◌}
use Rattle.std.proofs.lemmas.Bool.{cases_lt, lt-ltb, le-ltb}
use Rattle.tcl_chars.specs.declared.numbers.Dialect.{Dialect}
use Rattle.tcl_pages.specs.Texts.{Text}
use Rattle.tcl_meaning.specs.declared.code.Code.{Code}
use Rattle.tcl_meaning.specs.declared.code.Code.TheVariants as ending
use Rattle.tcl_meaning.specs.Asking.{Asks, answered}
use Rattle.tcl_meaning.specs.Completions.{Completion, nothing, too_deep, code_now}
use Rattle.tcl_meaning.specs.Control.{if_goes_on}
use Rattle.tcl_meaning.specs.State.{State}
use Rattle.tcl_meaning.specs.Effects.{Here, Got, Gives, Broke, Exits, Untold, on_got, exec}
use Rattle.tcl_meaning.specs.Pages.{owed}
use Rattle.tcl_meaning.specs.Script.{Run, most_depth}
use Rattle.tcl_meaning.specs.Tasks.{Script, Owes, Run as Runs_script}
use Rattle.tcl_meaning.specs.Value.{fail}
use Rattle.tcl_meaning.proofs.Reaching.{on_got_same}
use Rattle.tcl_meaning.proofs.ScriptRules.{script_deep}
use Rattle.tcl_code.specs.Instructions.{Instruction, Skip, Body, Again, Collect}
use Rattle.tcl_code.specs.Machine as M
use Rattle.tcl_code.specs.Machine.{Loop, Next, Texts, Stack, collected, stack_of, with_result, result_at, Spot, spot, To, landed, landed_by, thrown_by, follow, act, behind_loop, exec_code, Ended}
use Rattle.tcl_code.specs.Parts.{HasAt, Fits, Lands}
use Rattle.tcl_code.specs.Valid.{target, IsFine, IsInside, EachWay, ways_of, bare_in, shape}
use Rattle.tcl_code.specs.declared.shape.Shape.{Shape as Standing}
use Rattle.tcl_code.proofs.Place.{has_front, has_back}
use Rattle.tcl_code.proofs.Placing.{Stands, Placed, placed_joined, placed_fits}
use Rattle.tcl_code.proofs.Steps.{one_done, final_done, same_done}
use Rattle.tcl_compile.specs.Forms.{body_end, bodied}
use Rattle.tcl_compile.specs.Fragments.{Follows}
use Rattle.tcl_compile.specs.Inlining.{asking}
use Rattle.tcl_compile.proofs.Conditions.{ran_deeper}
use Rattle.tcl_compile.proofs.Failing.{landed_stops}

-- after a body in a loop: on if the code is ok, out at `break`; at `continue` to the next turn, or it is the page's where it passes the loop
abbrev pub goes_on : Bool → Code → Completion → Asks → Asks → Asks → Asks
goes_on passes ending.Ok c on next out = on
goes_on passes ending.Continue c on next out = if passes then fail c else next
goes_on passes ending.Break c on next out = out
goes_on passes _ c on next out = fail c

pub stays_is : (k : Code) (c : Completion) (on out : Asks) → if_goes_on k c on out ≡ goes_on false k c on on out
stays_is ending.Ok c on out = refl
stays_is ending.Error c on out = refl
stays_is ending.Return c on out = refl
stays_is ending.Break c on out = refl
stays_is ending.Continue c on out = refl
stays_is (ending.Other z) c on out = refl

pub bodied_long : (passes gathers : Bool) (b : List Instruction) → length (bodied passes gathers b) ≡ length b + 2
bodied_long passes gathers b = omega (arith, length-append b (body_end gathers ∷ []))

-- the lists behind a body that has ended, whose result may be gathered
abbrev pub lists_behind : Bool → Completion → List Texts → List Texts
lists_behind true c ls = collected c.result ls
lists_behind false c ls = ls

abbrev pub stack_behind : Bool → Completion → Stack → Stack
stack_behind gathers c stack = stack_of stack.texts (lists_behind gathers c stack.lists) stack.results stack.loops

module _ (dialect : Dialect) where
  -- no loop takes any other completion
  thrown_other : (next : Next) (os : List Loop) (k : Code) (c : Completion) (s : State) → (k ≡ ending.Break → ⊥) → (k ≡ ending.Continue → ⊥) → thrown_by next os k c s ≡ Ended (Gives c s)
  thrown_other next [] k c s h j = refl
  thrown_other next (o ∷ os) ending.Ok c s h j = refl
  thrown_other next (o ∷ os) ending.Error c s h j = refl
  thrown_other next (o ∷ os) ending.Return c s h j = refl
  thrown_other next (o ∷ os) ending.Break c s h j = absurd (h refl)
  thrown_other next (o ∷ os) ending.Continue c s h j = absurd (j refl)
  thrown_other next (o ∷ os) (ending.Other z) c s h j = refl

  -- a body has ended, where it was one more loop's
  module _ (code : List Instruction) (o : Loop) (os : List Loop) {q r : Completion → Spot} (m d : ℕ) (behind : Completion → Spot) (on : Completion → Asks) (further out : Asks) where
    pub body_ends : (passes : Bool) → o.passes ≡ passes → {p : Spot} {s : State} (g : Got Completion) → Lands dialect code (o ∷ os) p s q g → ((c : Completion) (v : State) (k : ℕ) → exec_code dialect code (suc k) (q c) v ≡ exec_code dialect code k (behind c) v)
        → ((c : Completion) (v : State) → g ≡ Gives c v → Lands dialect code os (behind c) v r (exec (Run dialect) (asking dialect m (on c) d) v)) → ((c : Completion) (v : State) → g ≡ Gives c v → Lands dialect code os (behind_loop 1 o os) v r (exec (Run dialect) (asking dialect m further d) v)) → ((v : State) → Lands dialect code os (behind_loop 0 o os) v r (exec (Run dialect) (asking dialect m out d) v))
        → Lands dialect code os p s r (on_got g (λ c v. exec (Run dialect) (asking dialect m (goes_on passes (code_now c) c (on c) further out) d) v))
    unfolding answered
    body_ends passes is {p} {s} (Gives c v) l again n y x = by_code (code_now c) refl
      where
        other : (k : Code) → code_now c ≡ k → (k ≡ ending.Ok → ⊥) → (k ≡ ending.Break → ⊥) → (k ≡ ending.Continue → ⊥) → Lands dialect code os p s r (Gives c v)
        other k e h i j = record {
          by = λ z.
              let a = l.by z in (
                a.0,
                a.1,
                a.2 ∙ ap (λ w. landed_by (exec_code dialect code z) (o ∷ os) q w c v) e ∙ landed_stops (exec_code dialect code z) (o ∷ os) q k c v h ∙ thrown_other (exec_code dialect code z) (o ∷ os) k c v i j
                    ∙ sym (ap (λ w. landed_by (exec_code dialect code z) os r w c v) e ∙ landed_stops (exec_code dialect code z) os r k c v h ∙ thrown_other (exec_code dialect code z) os k c v i j),
              );
        }

        -- what `continue` comes to
        continued : code_now c ≡ ending.Continue → (k : ℕ) → landed (exec_code dialect code k) (o ∷ os) q (Gives c v) ≡ cond passes (thrown_by (exec_code dialect code k) os ending.Continue c v) (exec_code dialect code k (behind_loop 1 o os) v)
        continued e k = ap (λ w. landed_by (exec_code dialect code k) (o ∷ os) q w c v) e ∙ ap (λ w. cond w (thrown_by (exec_code dialect code k) os ending.Continue c v) (exec_code dialect code k (behind_loop 1 o os) v)) is

        by_passing : (b : Bool) → passes ≡ b → code_now c ≡ ending.Continue → Lands dialect code os p s r (exec (Run dialect) (asking dialect m (if b then fail c else further) d) v)
        by_passing true f e = record {
          by = λ z.
              let a = l.by z in
              (a.0, a.1, a.2 ∙ continued e z ∙ ap (λ w. cond w (thrown_by (exec_code dialect code z) os ending.Continue c v) (exec_code dialect code z (behind_loop 1 o os) v)) f ∙ sym (ap (λ w. landed_by (exec_code dialect code z) os r w c v) e));
        }
        by_passing false f e = record {
          by = λ z.
              let b = (y c v refl).by z in
              let a = l.by b.0 in
              (a.0, omega (arith, a.1, b.1), a.2 ∙ continued e b.0 ∙ ap (λ w. cond w (thrown_by (exec_code dialect code b.0) os ending.Continue c v) (exec_code dialect code b.0 (behind_loop 1 o os) v)) f ∙ b.2);
        }

        by_code : (k : Code) → code_now c ≡ k → Lands dialect code os p s r (exec (Run dialect) (asking dialect m (goes_on passes k c (on c) further out) d) v)
        by_code ending.Ok e = record {
          by = λ z.
              let b = (n c v refl).by z in
              let a = l.by (suc b.0) in
              (a.0, omega (arith, a.1, b.1), a.2 ∙ ap (λ w. landed_by (exec_code dialect code (suc b.0)) (o ∷ os) q w c v) e ∙ again c v b.0 ∙ b.2);
        }
        by_code ending.Continue e = by_passing passes refl e
        by_code ending.Break e = record {
          by = λ z.
              let b = (x v).by z in
              let a = l.by b.0 in
              (a.0, omega (arith, a.1, b.1), a.2 ∙ ap (λ w. landed_by (exec_code dialect code b.0) (o ∷ os) q w c v) e ∙ b.2);
        }
        by_code ending.Error e = other ending.Error e (λ z. cc) (λ z. cc) (λ z. cc)
        by_code ending.Return e = other ending.Return e (λ z. cc) (λ z. cc) (λ z. cc)
        by_code (ending.Other y) e = other (ending.Other y) e (λ z. cc) (λ z. cc) (λ z. cc)
    body_ends passes is (Broke u) l again n y x = record { by = l.by }
    body_ends passes is (Exits w u) l again n y x = record { by = l.by }
    body_ends passes is (Untold c) l again n y x = record { by = l.by }

  -- ---- a body that a page asks for

  module _ (code : List Instruction) (at : ℕ) (passes gathers : Bool) (body : Text) (b : List Instruction) (f : Follows dialect b body) (has : HasAt code at (bodied passes gathers b)) (last : Completion) (stack : Stack) (d m : ℕ) (owes : Owes) (on : Completion → Asks) (further out : Asks)
      (owe : (c : Completion) → owed dialect owes c ≡ goes_on passes (code_now c) c (on c) further out) where
    abbrev loop : Loop
    loop = record { at = at + 1 + (length b + 1); passes = passes; texts = stack.texts; lists = stack.lists; results = last ∷ stack.results; depth = d }

    abbrev within : Stack
    within = stack_of [] [] [] (loop ∷ stack.loops)

    abbrev finish : ℕ
    finish = at + length (bodied passes gathers b)

    abbrev Onward : Completion → State → Got Completion
    Onward c v = exec (Run dialect) (asking dialect m (goes_on passes (code_now c) c (on c) further out) d) v

    ran : (u : State) → exec (Run dialect) (answered dialect (owed dialect) d (suc m) (Runs_script Here body owes)) u ≡ on_got (Run dialect (Script (suc d) nothing body) u) Onward
    ran u =
        ran_deeper dialect m d body owes u
        ∙ on_got_same (Run dialect (Script (suc d) nothing body) u) (λ c v. exec (Run dialect) (asking dialect m (owed dialect owes c) d) v) Onward (λ c v. ap (λ pg. exec (Run dialect) (asking dialect m pg d) v) (owe c))

    -- where the body has ended
    abbrev ended : Completion → Spot
    ended c = behind_loop 1 (record loop { lists = lists_behind gathers c stack.lists }) stack.loops

    ends_there : (g : Bool) (c : Completion) (v : State) (k : ℕ) → act dialect (Some (body_end g)) (exec_code dialect code k) (result_at (at + 1 + length b) within (suc d) c) v ≡ exec_code dialect code k (behind_loop 1 (record loop { lists = lists_behind g c stack.lists }) stack.loops) v
    ends_there true c v k = refl
    ends_there false c v k = refl

    again : (c : Completion) (v : State) (k : ℕ) → exec_code dialect code (suc k) (result_at (at + 1 + length b) within (suc d) c) v ≡ exec_code dialect code k (ended c) v
    again c v k = ap (λ i. act dialect i (exec_code dialect code k) (result_at (at + 1 + length b) within (suc d) c) v) (has_back code (at + 1) b (body_end gathers ∷ []) has.1).0 ∙ ends_there gathers c v k

    -- where it ends the code goes on past one more instruction, and at that one after `break`
    pub bodied_lands : (r : Completion → Spot) (u : State) → ((c : Completion) (v : State) → Run dialect (Script (suc d) nothing body) u ≡ Gives c v → Lands dialect code stack.loops (spot (finish + 1) (with_result last (stack_behind gathers c stack)) d) v r (exec (Run dialect) (asking dialect m (on c) d) v))
        → ((c : Completion) (v : State) → Run dialect (Script (suc d) nothing body) u ≡ Gives c v → Lands dialect code stack.loops (spot (finish + 1) (with_result last stack) d) v r (exec (Run dialect) (asking dialect m further d) v))
        → ((v : State) → Lands dialect code stack.loops (spot finish (with_result last stack) d) v r (exec (Run dialect) (asking dialect m out d) v)) → Lands dialect code stack.loops (spot at (with_result last stack) d) u r (exec (Run dialect) (answered dialect (owed dialect) d (suc m) (Runs_script Here body owes)) u)
    unfolding answered
    bodied_lands r u n y x = same_done dialect code (sym (ran u)) (⊎_elim deep shallow (cases_lt most_depth (suc d)))
      where
        deep : most_depth < suc d → Lands dialect code stack.loops (spot at (with_result last stack) d) u r (on_got (Run dialect (Script (suc d) nothing body) u) Onward)
        deep gt =
            final_done dialect code (Body passes (length b + 1)) has.0 (λ next. ap (λ z. follow dialect next stack.loops (cond z (M.Fails too_deep u) (To (spot (at + 1) (with_result nothing within) (suc d)) u))) (lt-ltb most_depth (suc d) gt)
            ∙ ap (λ g. landed next stack.loops r (on_got g Onward)) (sym (script_deep dialect (suc d) nothing body u gt)))

        shallow : suc d ≤ most_depth → Lands dialect code stack.loops (spot at (with_result last stack) d) u r (on_got (Run dialect (Script (suc d) nothing body) u) Onward)
        shallow le =
            let e0 : finish ≡ at + 1 + (length b + 1) + 0 = omega (arith, bodied_long passes gathers b) in
            let e1 : finish + 1 ≡ at + 1 + (length b + 1) + 1 = omega (arith, bodied_long passes gathers b) in
            one_done dialect code (Body passes (length b + 1)) has.0 (ap (λ z. cond z (M.Fails too_deep u) (To (spot (at + 1) (with_result nothing within) (suc d)) u)) (le-ltb most_depth (suc d) le))
            (body_ends code loop stack.loops m d ended on further out passes refl (Run dialect (Script (suc d) nothing body) u)
            (f.from code (at + 1) nothing within (suc d) u refl le (has_front code (at + 1) b (body_end gathers ∷ []) has.1))
            again
            (λ c v k. subst (λ p. Lands dialect code stack.loops (spot p (with_result last (stack_behind gathers c stack)) d) v r (exec (Run dialect) (asking dialect m (on c) d) v)) e1 (n c v k))
            (λ c v k. subst (λ p. Lands dialect code stack.loops (spot p (with_result last stack) d) v r (exec (Run dialect) (asking dialect m further d) v)) e1 (y c v k))
            (λ v. subst (λ p. Lands dialect code stack.loops (spot p (with_result last stack) d) v r (exec (Run dialect) (asking dialect m out d) v)) e0 (x v)))

-- ---- shapes

pub piece : ℕ → (ℕ → Standing) → (ℕ → Standing) → ℕ → Standing
piece m f g n = cond (nat_lt n m) (f n) (g (n - m))

pub piece_front : (m : ℕ) (f g : ℕ → Standing) (n : ℕ) → n < m → piece m f g n ≡ f n
unfolding piece
piece_front m f g n lt = ap (λ c. cond c (f n) (g (n - m))) (lt-ltb n m lt)

pub piece_back : (m : ℕ) (f g : ℕ → Standing) (k n : ℕ) → n ≡ m + k → piece m f g n ≡ g k
unfolding piece
piece_back m f g k n e =
    let le : m ≤ n = omega arith in
    let z : n - m ≡ k = omega arith in
    ap (λ c. cond c (f n) (g (n - m))) (le-ltb n m le) ∙ ap g z

pub stands_at : (table : ℕ → Standing) (count n : ℕ) (i : Instruction) (s : Standing) → table n ≡ s → IsFine i s → EachWay (λ k u. IsInside n count k × (table (target n k) ≡ u)) (ways_of i s) → Stands table count n i
stands_at table count n i s e f w = subst (λ z. IsFine i z × EachWay (λ k u. IsInside n count k × (table (target n k) ≡ u)) (ways_of i z)) (sym e) (f, w)

-- A part that leads from a shape to the same at its end and at one place further, in every table.
pub record Opens (c : List Instruction) (s : Standing) : Type 0 where
  pub shapes : ℕ → Standing
  pub starts : shapes 0 ≡ s
  pub ends : shapes (length c) ≡ s
  pub placed : (table : ℕ → Standing) (count at : ℕ) → at + length c + 1 ≤ count → ((n : ℕ) → n ≤ length c → table (at + n) ≡ shapes n) → table (at + length c + 1) ≡ s → Placed table count at c

module _ (passes gathers : Bool) (b : List Instruction) (h l d p o : ℕ) (y : Fits b (bare_in (o + 1)) (bare_in (o + 1))) where
  abbrev Base : Standing
  Base = shape h l d p o

  body_shapes : ℕ → Standing
  body_shapes = piece 1 (λ n. Base) (piece (length b + 1) y.at (λ n. Base))

  in_front : (n : ℕ) → n ≡ 0 → body_shapes n ≡ Base
  unfolding body_shapes
  in_front n e = piece_front 1 (λ n. Base) (piece (length b + 1) y.at (λ n. Base)) n (omega arith)

  in_body : (n m : ℕ) → n ≡ 1 + m → m ≤ length b → body_shapes n ≡ y.at m
  unfolding body_shapes
  in_body n m e le = piece_back 1 (λ n. Base) (piece (length b + 1) y.at (λ n. Base)) m n e ∙ piece_front (length b + 1) y.at (λ n. Base) m (omega arith)

  at_end : (n : ℕ) → n ≡ length b + 2 → body_shapes n ≡ Base
  unfolding body_shapes
  at_end n e = piece_back 1 (λ n. Base) (piece (length b + 1) y.at (λ n. Base)) (length b + 1) n (omega arith) ∙ piece_back (length b + 1) y.at (λ n. Base) 0 (length b + 1) (omega arith)

  end_stands : (table : ℕ → Standing) (count n : ℕ) (g : Bool) → table n ≡ bare_in (o + 1) → Stands table count n (body_end g)
  end_stands table count n true e = stands_at table count n Collect (bare_in (o + 1)) e (refl, omega arith) tt
  end_stands table count n false e = stands_at table count n Again (bare_in (o + 1)) e (refl, omega arith) tt

  pub bodied_opens : Opens (bodied passes gathers b) Base
  bodied_opens = record { shapes = body_shapes; starts = in_front 0 refl; ends = at_end (length (bodied passes gathers b)) (bodied_long passes gathers b); placed = go }
    where
      go : (table : ℕ → Standing) (count at : ℕ) → at + length (bodied passes gathers b) + 1 ≤ count → ((n : ℕ) → n ≤ length (bodied passes gathers b) → table (at + n) ≡ body_shapes n) → table (at + length (bodied passes gathers b) + 1) ≡ Base → Placed table count at (bodied passes gathers b)
      go table count at le same past =
          let long = bodied_long passes gathers b in
          let as_is : (n m : ℕ) → n ≡ at + m → m ≤ length b + 2 → table n ≡ body_shapes m = λ n m e k. ap table e ∙ same m (omega (arith, k, long)) in
          let ahead : (n : ℕ) → n ≡ at + (length b + 3) → table n ≡ Base = λ n e. let z : n ≡ at + length (bodied passes gathers b) + 1 = omega (arith, e, long) in ap table z ∙ past in
          let on_body : Stands table count at (Body passes (length b + 1)) = stands_at table count at (Body passes (length b + 1)) Base (as_is at 0 (omega arith) (omega arith) ∙ in_front 0 refl) tt (
            (omega (arith, le, long), as_is (at + 1 + (length b + 1)) (length b + 2) (omega arith) (omega arith) ∙ at_end (length b + 2) refl),
            (
              (omega (arith, le, long), ahead (at + 1 + (length b + 1 + 1)) (omega arith)),
              ((omega (arith, le, long), as_is (at + 1 + 0) 1 (omega arith) (omega arith) ∙ in_body 1 0 (omega arith) (omega arith) ∙ y.starts), tt),
            ),
          ) in
          let on_again : Stands table count (at + 1 + length b) (body_end gathers) = end_stands table count (at + 1 + length b) gathers (as_is (at + 1 + length b) (1 + length b) (omega arith) (omega arith) ∙ in_body (1 + length b) (length b) refl (omega arith) ∙ y.ends) in (
            on_body,
            placed_joined table count (at + 1) b (body_end gathers ∷ []) (placed_fits table count b (bare_in (o + 1)) (bare_in (o + 1)) y (at + 1) (omega (arith, le, long)) (λ m k. as_is (at + 1 + m) (1 + m) (omega arith) (omega (arith, k)) ∙ in_body (1 + m) m refl k)) (on_again, tt),
          )

-- one of them past another, whose end leads to the end of that
pub both_open : (a c : List Instruction) (h l d p o : ℕ) → Opens a (shape h l d p o) → Opens c (shape h l d p o) → Opens (a ++ Skip (length c) ∷ c) (shape h l d p o)
both_open a c h l d p o x y = record {
  shapes = piece (length a + 1) x.shapes y.shapes;
  starts = piece_front (length a + 1) x.shapes y.shapes 0 (omega arith) ∙ x.starts;
  ends = piece_back (length a + 1) x.shapes y.shapes (length c) (length (a ++ Skip (length c) ∷ c)) long ∙ y.ends;
  placed = go;
}
  where
    long : length (a ++ Skip (length c) ∷ c) ≡ length a + 1 + length c
    long = omega (arith, length-append a (Skip (length c) ∷ c))

    go : (table : ℕ → Standing) (count at : ℕ) → at + length (a ++ Skip (length c) ∷ c) + 1 ≤ count → ((n : ℕ) → n ≤ length (a ++ Skip (length c) ∷ c) → table (at + n) ≡ piece (length a + 1) x.shapes y.shapes n) → table (at + length (a ++ Skip (length c) ∷ c) + 1) ≡ shape h l d p o → Placed table count at (a ++ Skip (length c) ∷ c)
    go table count at le same past =
        let front : (n : ℕ) → n ≤ length a → table (at + n) ≡ x.shapes n = λ n k. same n (omega (arith, k, long)) ∙ piece_front (length a + 1) x.shapes y.shapes n (omega (arith, k)) in
        let back : (n m : ℕ) → n ≡ at + length a + 1 + m → m ≤ length c → table n ≡ y.shapes m = λ n m e k. let z : n ≡ at + (length a + 1 + m) = omega (arith, e) in ap table z ∙ same (length a + 1 + m) (omega (arith, k, long)) ∙ piece_back (length a + 1) x.shapes y.shapes m (length a + 1 + m) refl in
        let end : at + length (a ++ Skip (length c) ∷ c) + 1 ≡ at + length a + 1 + length c + 1 = omega (arith, long) in
        let on_skip : Stands table count (at + length a) (Skip (length c)) = stands_at table count (at + length a) (Skip (length c)) (shape h l d p o) (front (length a) (omega arith) ∙ x.ends) tt ((omega (arith, le, long), back (at + length a + 1 + length c) (length c) refl (omega arith) ∙ y.ends), tt) in
        placed_joined table count at a (Skip (length c) ∷ c) (x.placed table count at (omega (arith, le, long)) front (back (at + length a + 1) 0 (omega arith) (omega arith) ∙ y.starts))
        (on_skip, y.placed table count (at + length a + 1) (omega (arith, le, long)) (λ n k. back (at + length a + 1 + n) n refl k) (sym (ap table end) ∙ past))
