-- The machine stops where the table says.
use Rattle.std.proofs.Common.{◌≡◌, ℕ, suc, ◌<◌, ◌≤◌, Bool, true, false, List, [], ◌∷◌, ◌++◌, length, Option, Some, None, Result, Ok, Err, refl, sym, ap, subst, ◌∙◌, arith}
use Rattle.std.specs.Prelude.{nat_lt, ◌==◌, if◌then◌else◌, ◌⊎◌}
use Rattle.std.proofs.lemmas.Bool.Decides.{nat_tests}
use Rattle.tcl_words.specs.Parts.{Stretch}
use Rattle.tcl_expr.specs.declared.token.BinaryOp.{BinaryOp}
use Rattle.tcl_expr.specs.declared.token.Function.{Function}
use Rattle.tcl_expr.specs.Token.{Token}
use Rattle.tcl_expr.specs.Token.{Operand, Malformed, Bareword, Call, UnknownCall, Unary, Binary, Power, Open, Close, Comma, Question, Colon}
use Rattle.tcl_expr.specs.ExprFault.{ExprFault}
use Rattle.tcl_expr.specs.ExprFault as fault
use Rattle.tcl_expr.specs.declared.state.Wanted.{Wanted}
use Rattle.tcl_expr.specs.declared.state.Wanted.TheVariants as wanted
use Rattle.tcl_expr.specs.Expr.{Expr, call, unary, power, choice, level_of}
use Rattle.tcl_expr.specs.Grammar.{miscount, most_levels, IsTree}
use Rattle.tcl_expr.specs.Faults.{reach}
use Rattle.tcl_expr.specs.Machine.{Step, args_of, Held, in_unary, in_power, in_chain, in_second, in_third, in_group, in_call, open_levels, top, finished, State, wants, has, reduce, open_with, at_operand, at_operator, at_close, at_end, at_comma, at_colon, close_early, early_end, checked, add, step, run, and_then, parsed}
use Rattle.tcl_expr.proofs.Complete.{admits, level_two, length_snoc}
use Rattle.tcl_expr.proofs.Sound.{Sensible, IsWanted, IsState}
use Rattle.tcl_expr.specs.Faults.{Opened, prefixed, powered, second, third, parenthesis, arguments, opened_level, still_open, after, wanted_after, open_at, lowest, first_fault, expr_fault}
use Rattle.tcl_expr.proofs.Table.{opens, operand_row, close_row, comma_row, colon_row, operator_row, end_row, open_at_end, row, row_is, end_is}
use Rattle.std.specs.Option.{option_or}
use Rattle.tcl_expr.proofs.Complete.{read_back}
use Rattle.tcl_expr.proofs.Steps.{After, stepped, at_reduced, end_reduced, is_tree}
use Rattle.std.proofs.Common.{inl, inr}

-- a stack without its trees
unfoldable pub shape : List Held → List Opened
shape [] = []
shape (in_unary u ∷ s) = prefixed ∷ shape s
shape (in_power e ∷ s) = powered ∷ shape s
shape (in_chain q e xs o ∷ s) = shape s
shape (in_second c ∷ s) = second ∷ shape s
shape (in_third c e ∷ s) = third ∷ shape s
shape (in_group ∷ s) = parenthesis ∷ shape s
shape (in_call f n es ∷ s) = arguments f n (length es) ∷ shape s

abbrev pub held : State → List Held
held (wants p s) = s
held (has x s) = s

abbrev pub wanted_in : State → Wanted
wanted_in (wants p s) = p
wanted_in (has x s) = wanted.Operator

abbrev pub fault_in : {A : Type 0} → Result A ExprFault → Option ExprFault
fault_in (Ok e) = None
fault_in (Err m) = Some m

pub shape_length : (s : List Held) → length (shape s) ≡ open_levels s
unfolding shape open_levels
shape_length [] = refl
shape_length (in_unary u ∷ s) = ap suc (shape_length s)
shape_length (in_power e ∷ s) = ap suc (shape_length s)
shape_length (in_chain q e xs o ∷ s) = shape_length s
shape_length (in_second c ∷ s) = ap suc (shape_length s)
shape_length (in_third c e ∷ s) = ap suc (shape_length s)
shape_length (in_group ∷ s) = ap suc (shape_length s)
shape_length (in_call f n es ∷ s) = ap suc (shape_length s)

-- the row of a token and the step that it makes
abbrev pub Agrees : Option ExprFault → Token → List Opened → Result State ExprFault → Type 0
Agrees m t os (Err e) = m ≡ Some e
Agrees m t os (Ok now) = (m ≡ None) × (wanted_after t ≡ wanted_in now) × (after t os ≡ shape (held now))

agrees_room : (b : Bool) (t : Token) (h : Held) (s : List Held) → wanted_after t ≡ wanted.Operand → after t (shape s) ≡ shape (h ∷ s)
    → Agrees (if b then None else Some fault.Nesting) t (shape s) (if b then Ok (wants wanted.Operand (h ∷ s)) else Err fault.Nesting)
agrees_room true t h s w a = (refl, w, a)
agrees_room false t h s w a = refl

agrees_open : (t : Token) (h : Held) (s : List Held) → wanted_after t ≡ wanted.Operand → after t (shape s) ≡ shape (h ∷ s) → Agrees (opens (shape s)) t (shape s) (open_with wanted.Operand h s)
agrees_open t h s w a = rw shape_length (agrees_room (nat_lt (open_levels s) most_levels) t h s w a)

agrees_call : (b : Bool) (f : Function) (n : Stretch) (s : List Held)
    → Agrees (if b then None else Some fault.Nesting) (Call f n) (shape s) (if b then Ok (wants wanted.First (in_call f n [] ∷ s)) else Err fault.Nesting)
unfolding shape
agrees_call true f n s = (refl, refl, refl)
agrees_call false f n s = refl

agrees_close_early : (p : Wanted) (s : List Held) → IsWanted p s → operand_row p (shape s) Close ≡ Some (close_early p s)
unfolding shape
agrees_close_early wanted.Start s h = refl
agrees_close_early wanted.Operand s h = refl
agrees_close_early wanted.Operator s h = absurd h
agrees_close_early wanted.First (in_call f n es ∷ s) h = refl
agrees_close_early wanted.First [] h = absurd h
agrees_close_early wanted.First (in_unary u ∷ s) h = absurd h
agrees_close_early wanted.First (in_power e ∷ s) h = absurd h
agrees_close_early wanted.First (in_chain q e xs o ∷ s) h = absurd h
agrees_close_early wanted.First (in_second c ∷ s) h = absurd h
agrees_close_early wanted.First (in_third c e ∷ s) h = absurd h
agrees_close_early wanted.First (in_group ∷ s) h = absurd h

operand_agrees : (p : Wanted) (s : List Held) (t : Token) → IsWanted p s → Agrees (operand_row p (shape s) t) t (shape s) (at_operand p s t)
unfolding shape
operand_agrees p s (Operand n) h = (refl, refl, refl)
operand_agrees p s (Malformed m) h = refl
operand_agrees p s (Bareword n) h = refl
operand_agrees p s (Unary u) h = agrees_open (Unary u) (in_unary u) s refl refl
operand_agrees p s Open h = agrees_open Open in_group s refl refl
operand_agrees p s (Call f n) h = rw shape_length (agrees_call (nat_lt (open_levels s) most_levels) f n s)
operand_agrees p s (UnknownCall n) h = refl
operand_agrees p s Close h = agrees_close_early p s h
operand_agrees p s _ h = refl

shape_join : (b : Bool) (op : BinaryOp) (x : Expr) (q : ℕ) (e : Expr) (xs : List Step) (o : BinaryOp) (s : List Held) → shape s ≡ shape (if b then in_chain q e (xs ++ (o, x) ∷ []) op ∷ s else in_chain (level_of op) x [] op ∷ in_chain q e xs o ∷ s)
unfolding shape
shape_join true op x q e xs o s = refl
shape_join false op x q e xs o s = refl

shape_add : (op : BinaryOp) (x : Expr) (s : List Held) → shape s ≡ shape (add op x s)
unfolding shape
shape_add op x (in_chain q e xs o ∷ s) = shape_join (q == level_of op) op x q e xs o s
shape_add op x _ = refl

chain_short : (q : ℕ) (e : Expr) (xs : List Step) (o : BinaryOp) (s : List Held) → Sensible (in_chain q e xs o ∷ s) → q < 14
unfolding Sensible
chain_short q e xs o s h = omega (arith, h.1, level_two o)

agrees_count : (m : Option ExprFault) (f : Function) (n : Stretch) (k : ℕ) (x : Expr) (s : List Held) → Agrees m Close (arguments f n k ∷ shape s) (checked m (has x s))
agrees_count None f n k x s = (refl, refl, refl)
agrees_count (Some e) f n k x s = refl

-- `:`, `,`, `)` and the end, where they have ended what they end
marks_agree : (x : Expr) (s : List Held) → Sensible s → 15 ≤ top s
    → Agrees (colon_row (shape s)) Colon (shape s) (at_colon x s) × Agrees (comma_row (shape s)) Comma (shape s) (at_comma x s)
    × Agrees (close_row (shape s)) Close (shape s) (at_close x s) × (end_row wanted.Operator (shape s) ≡ fault_in (at_end x s))
unfolding shape
marks_agree x [] h le = (refl, refl, refl, refl)
marks_agree x (in_unary u ∷ s) h le = absurd (omega arith)
marks_agree x (in_power e ∷ s) h le = absurd (omega arith)
marks_agree x (in_chain q e xs o ∷ s) h le = absurd (omega (arith, chain_short q e xs o s h))
marks_agree x (in_second c ∷ s) h le = ((refl, refl, refl), refl, refl, refl)
marks_agree x (in_third c e ∷ s) h le = absurd (omega arith)
marks_agree x (in_group ∷ s) h le = (refl, refl, (refl, refl, refl), refl)
marks_agree x (in_call f n es ∷ s) h le = (
  refl,
  (refl, refl, ap (λ (z : ℕ). arguments f n z ∷ shape s) (sym (length_snoc es x))),
  agrees_count (miscount f n (suc (length es))) f n (length es) (call f n (args_of (es ++ x ∷ []))) s,
  refl,
)

operator_agrees : (x : Expr) (s : List Held) (t : Token) → Sensible s → reach t ≤ top s → Agrees (operator_row (shape s) t) t (shape s) (at_operator x s t)
unfolding shape
operator_agrees x s (Binary op) h le = (refl, refl, shape_add op x s)
operator_agrees x s Power h le = agrees_open Power (in_power x) s refl refl
operator_agrees x s Question h le = agrees_open Question (in_second x) s refl refl
operator_agrees x s Colon h le = (marks_agree x s h le).0
operator_agrees x s Comma h le = (marks_agree x s h le).1
operator_agrees x s Close h le = (marks_agree x s h le).2
operator_agrees x s _ h le = refl

remains : (h : Opened) (os : List Opened) (r : ℕ) → r ≤ opened_level h → still_open r (h ∷ os) ≡ h ∷ os
unfolding still_open
remains h os r le = let e : nat_lt (opened_level h) r ≡ false = grind (arith, nat_tests) in rw e refl

settled : (r : ℕ) (s : List Held) → Sensible s → r < admits s → still_open r (shape s) ≡ shape s
unfolding shape Sensible still_open
settled r [] h lt = refl
settled r (in_unary u ∷ s) h lt = remains prefixed (shape s) r (omega arith)
settled r (in_power e ∷ s) h lt = remains powered (shape s) r (omega arith)
settled r (in_chain q e xs o ∷ s) h lt = settled r s h.4 (omega (arith, h.0))
settled r (in_second c ∷ s) h lt = remains second (shape s) r (omega arith)
settled r (in_third c e ∷ s) h lt = remains third (shape s) r (omega arith)
settled r (in_group ∷ s) h lt = remains parenthesis (shape s) r (omega arith)
settled r (in_call f n es ∷ s) h lt = remains (arguments f n (length es)) (shape s) r (omega arith)

both : (b : Bool) (os : List Opened) (h : Held) (o : Opened) (x : Expr) (s : List Held) (p : Expr × List Held) → shape (h ∷ s) ≡ o ∷ shape s → os ≡ shape p.1 → (if b then os else o ∷ shape s) ≡ shape ((if b then p else (x, h ∷ s)).1)
both true os h o x s p e same = same
both false os h o x s p e same = sym e

in_chain_both : (b : Bool) (r q : ℕ) (e x y : Expr) (xs : List Step) (o : BinaryOp) (s : List Held) → nat_lt q r ≡ b → Sensible (in_chain q e xs o ∷ s) → still_open r (shape s) ≡ shape ((reduce r y s).1)
    → still_open r (shape s) ≡ shape ((if b then reduce r y s else (x, in_chain q e xs o ∷ s)).1)
unfolding shape Sensible
in_chain_both true r q e x y xs o s t h same = same
in_chain_both false r q e x y xs o s t h same = let le : r ≤ q = grind (arith, nat_tests) in settled r s h.4 (omega (arith, h.0))

still : (r : ℕ) (x : Expr) (s : List Held) → Sensible s → still_open r (shape s) ≡ shape ((reduce r x s).1)
unfolding shape Sensible still_open reduce
still r x [] h = refl
still r x (in_unary u ∷ s) h = both (nat_lt 0 r) (still_open r (shape s)) (in_unary u) prefixed x s (reduce r (unary u x) s) refl (still r (unary u x) s h.1)
still r x (in_power e ∷ s) h = both (nat_lt 1 r) (still_open r (shape s)) (in_power e) powered x s (reduce r (power e x) s) refl (still r (power e x) s h.3)
still r x (in_chain q e xs o ∷ s) h = in_chain_both (nat_lt q r) r q e x (finished (in_chain q e xs o) x) xs o s refl h (still r (finished (in_chain q e xs o) x) s h.4)
still r x (in_second c ∷ s) h = both (nat_lt 15 r) (still_open r (shape s)) (in_second c) second x s (reduce r x s) refl (still r x s h.3)
still r x (in_third c e ∷ s) h = both (nat_lt 14 r) (still_open r (shape s)) (in_third c e) third x s (reduce r (choice c e x) s) refl (still r (choice c e x) s h.4)
still r x (in_group ∷ s) h = both (nat_lt 15 r) (still_open r (shape s)) in_group parenthesis x s (reduce r x s) refl (still r x s h.1)
still r x (in_call f n es ∷ s) h = both (nat_lt 15 r) (still_open r (shape s)) (in_call f n es) (arguments f n (length es)) x s (reduce r x s) refl (still r x s h.2)

early_agrees : (p : Wanted) (s : List Held) → IsWanted p s → end_row p (open_at_end p (shape s)) ≡ Some (early_end p)
early_agrees wanted.Start s h = refl
early_agrees wanted.First s h = refl
early_agrees wanted.Operand s h = refl
early_agrees wanted.Operator s h = absurd h

goes_on : (m : Option ExprFault) (t : Token) (ts : List Token) (os : List Opened) (st : State) (r : Result State ExprFault) → Agrees m t os r → After st t r
    → ((now : State) → IsState now → first_fault (wanted_in now) (shape (held now)) ts ≡ fault_in (run now ts))
    → option_or m (first_fault (wanted_after t) (after t os) ts) ≡ fault_in (and_then r (λ now. run now ts))
goes_on m t ts os st (Err e) h k go = rw h refl
goes_on m t ts os st (Ok now) h k go = rw h.0 (ap (λ (z : Wanted). first_fault z (after t os) ts) h.1 ∙ ap (λ (z : List Opened). first_fault (wanted_in now) z ts) h.2 ∙ go now k.state)

wants_agrees : (p : Wanted) (s : List Held) (t : Token) → IsWanted p s → Agrees (row p (open_at p t (shape s)) t) t (open_at p t (shape s)) (at_operand p s t)
wants_agrees wanted.Start s t h = operand_agrees wanted.Start s t h
wants_agrees wanted.First s t h = operand_agrees wanted.First s t h
wants_agrees wanted.Operand s t h = operand_agrees wanted.Operand s t h
wants_agrees wanted.Operator s t h = absurd h

agrees_row : (st : State) (t : Token) → IsState st → Agrees (row (wanted_in st) (open_at (wanted_in st) t (shape (held st))) t) t (open_at (wanted_in st) t (shape (held st))) (step st t)
agrees_row (wants p s) t h = wants_agrees p s t h.1
agrees_row (has x s) t h =
    let g = at_reduced t x s h in
    let p = reduce (reach t) x s in
    let P : List Opened → Type 0 = λ os. Agrees (operator_row os t) t os (at_operator p.0 p.1 t) in
    subst P (sym (still (reach t) x s h.0)) (operator_agrees p.0 p.1 t g.sensible g.above)

pub agrees : (st : State) (t : Token) → IsState st → Agrees (lowest (wanted_in st) (shape (held st)) (Some t)) t (open_at (wanted_in st) t (shape (held st))) (step st t)
agrees st t h =
    let P : Option ExprFault → Type 0 = λ m. Agrees m t (open_at (wanted_in st) t (shape (held st))) (step st t) in
    subst P (sym (row_is (wanted_in st) (shape (held st)) t)) (agrees_row st t h)

pub faulty : (ts : List Token) (st : State) → IsState st → first_fault (wanted_in st) (shape (held st)) ts ≡ fault_in (run st ts)
unfolding run first_fault
faulty [] (wants p s) h = end_is p (shape s) ∙ early_agrees p s h.1
faulty [] (has x s) h =
    let g = end_reduced x s h in
    let p = reduce 15 x s in
    end_is wanted.Operator (shape s) ∙ ap (end_row wanted.Operator) (still 15 x s h.0) ∙ (marks_agree p.0 p.1 g.sensible g.above).3
faulty (t ∷ ts) st h = goes_on (lowest (wanted_in st) (shape (held st)) (Some t)) t ts (open_at (wanted_in st) t (shape (held st))) st (step st t) (agrees st t h) (stepped st t h) (λ now. faulty ts now)

pub fault_is : (ts : List Token) → expr_fault ts ≡ fault_in (parsed ts)
unfolding shape Sensible
fault_is ts = faulty ts (wants wanted.Start []) (tt, tt)

one_or_other : (ts : List Token) (r : Result Expr ExprFault) → parsed ts ≡ r → ((e : Expr) × IsTree ts e × (expr_fault ts ≡ None)) ⊎ ((m : ExprFault) × (expr_fault ts ≡ Some m) × ((e : Expr) → IsTree ts e → ⊥))
one_or_other ts (Ok e) is = inl (e, is_tree ts e is, fault_is ts ∙ ap fault_in is)
one_or_other ts (Err m) is = inr (m, fault_is ts ∙ ap fault_in is, λ e h. let a = read_back ts e h in cc (a, is))

pub tree_or_fault : (ts : List Token) → ((e : Expr) × IsTree ts e × (expr_fault ts ≡ None)) ⊎ ((m : ExprFault) × (expr_fault ts ≡ Some m) × ((e : Expr) → IsTree ts e → ⊥))
tree_or_fault ts = one_or_other ts (parsed ts) refl
