-- The tokens of a text, one by one, and what the parser's loop keeps.
use Rattle.std.proofs.Common.{◌≡◌, ℕ, zero, suc, ◌<◌, ◌-◌, Bool, List, [], ◌∷◌, length, Option, Some, None, Result, Ok, Err, refl, sym, ap, subst, ◌∙◌, arith}
use Rattle.tcl_chars.specs.declared.numbers.Dialect.{Dialect}
use Rattle.tcl_chars.specs.declared.fault.ReadFault.{ReadFault}
use Rattle.tcl_chars.specs.declared.fault.ReadFault.TheVariants as stop
use Rattle.tcl_chars.specs.Place.{bytes}
use Rattle.tcl_expr.specs.declared.fault.ExprSyntax.{ExprSyntax}
use Rattle.tcl_expr.specs.declared.state.Wanted.{Wanted}
use Rattle.tcl_expr.specs.declared.state.Wanted.TheVariants as wanted
use Rattle.tcl_expr.specs.declared.state.State.{State as CodeState}
use Rattle.tcl_expr.specs.declared.state.State.TheVariants as code
use Rattle.tcl_expr.specs.declared.tree.Tree.{Tree}
use Rattle.tcl_expr.specs.Expr.{Expr}
use Rattle.tcl_expr.specs.ExprFault.{ExprFault}
use Rattle.tcl_expr.specs.Faults.{Opened, wants_operand, open_at, after, wanted_after, lowest, expr_fault}
use Rattle.tcl_expr.specs.Gives.{StopsFor, Finishes, state_view}
use Rattle.tcl_expr.specs.Gives as gives
use Rattle.tcl_expr.specs.Grammar.{most_levels, IsTree}
use Rattle.tcl_expr.specs.Machine.{Held, State, wants, step, finish, run, and_then, parsed, open_levels, expression_of}
use Rattle.tcl_expr.specs.Token.{Token}
use Rattle.tcl_expr.specs.Tokens.{next_token, with_token, unless_faulty, tokens_from, tokens_at, tokens}
use Rattle.tcl_expr.proofs.Complete.{read_back}
use Rattle.tcl_expr.proofs.Sound.{IsState, Sensible}
use Rattle.tcl_expr.proofs.Steps.{After, stepped, is_tree}
use Rattle.tcl_expr.proofs.Faulty.{shape, shape_length, held, wanted_in, Agrees, agrees, fault_is, fault_in}
use Rattle.tcl_expr.proofs.Suffix.{shorter_next}

-- ---- steps

unrolled : (st : State) (t : Token) (ts : List Token) → run st (t ∷ ts) ≡ and_then (step st t) (λ now. run now ts)
unfolding run
unrolled st t ts = refl

stepped_on : (st now : State) (t : Token) (ts : List Token) → step st t ≡ Ok now → run st (t ∷ ts) ≡ run now ts
stepped_on st now t ts e = unrolled st t ts ∙ ap (λ (r : Result State ExprFault). and_then r (λ s. run s ts)) e

stopped_at : (st : State) (t : Token) (ts : List Token) (m : ExprFault) → step st t ≡ Err m → run st (t ∷ ts) ≡ Err m
stopped_at st t ts m e = unrolled st t ts ∙ ap (λ (r : Result State ExprFault). and_then r (λ s. run s ts)) e

run_nil : (st : State) → run st [] ≡ finish st
unfolding run
run_nil st = refl

ok_agrees : (st now : State) (t : Token) → IsState st → step st t ≡ Ok now → Agrees (lowest (wanted_in st) (shape (held st)) (Some t)) t (open_at (wanted_in st) t (shape (held st))) (Ok now)
ok_agrees st now t h e =
    let P : Result State ExprFault → Type 0 = λ r. Agrees (lowest (wanted_in st) (shape (held st)) (Some t)) t (open_at (wanted_in st) t (shape (held st))) r in
    subst P e (agrees st t h)

pub state_more : (st now : State) (t : Token) → IsState st → step st t ≡ Ok now → IsState now
state_more st now t h e =
    let P : Result State ExprFault → Type 0 = λ r. After st t r in
    (subst P e (stepped st t h)).state

nothing_open : IsState (wants wanted.Start [])
unfolding Sensible
nothing_open = (tt, tt)

pub state_begins : (s : List Held) → s ≡ [] → IsState (wants wanted.Start s)
state_begins s e = let P : List Held → Type 0 = λ z. IsState (wants wanted.Start z) in subst P (sym e) nothing_open

wanted_same : (st : CodeState) (s : List Held) → gives.wanted_by st ≡ wanted_in (state_view st s)
wanted_same (code.Wants p) s = refl
wanted_same (code.Has x) s = refl

held_same : (st : CodeState) (s : List Held) → s ≡ held (state_view st s)
held_same (code.Wants p) s = refl
held_same (code.Has x) s = refl

faulty_result : (r : Result Expr ExprFault) (m : ExprFault) → fault_in r ≡ Some m → r ≡ Err m
faulty_result (Ok e) m is = absurd cc
faulty_result (Err n) m is = let same : n ≡ m = cc in ap (λ z. Err z) same

-- ---- tokens

same_tokens : (found : Option (Token × List ℕ)) (f g : Token → List ℕ → List Token) → ((t : Token) (rest : List ℕ) → found ≡ Some (t, rest) → f t rest ≡ g t rest) → with_token found f ≡ with_token found g
same_tokens None f g same = refl
same_tokens (Some x) f g same = same x.0 x.1 refl

module _ (dialect : Dialect) where
  -- the bound never shows
  enough : (m n size : ℕ) (p : Wanted) (os : List Opened) (cs : List ℕ) → length cs < m → length cs < n → tokens_from m dialect size p os cs ≡ tokens_from n dialect size p os cs
  unfolding tokens_from
  enough zero n size p os cs a b = absurd (omega arith)
  enough (suc m) zero size p os cs a b = absurd (omega arith)
  enough (suc m) (suc n) size p os cs a b =
      same_tokens (next_token dialect size (wants_operand p) (most_levels - length os) cs) _ _
      (λ t rest e.
      let less = shorter_next dialect size (wants_operand p) (most_levels - length os) cs t rest e in
      ap (λ (ts : List Token). t ∷ unless_faulty (lowest p os (Some t)) ts) (enough m n size (wanted_after t) (after t (open_at p t os)) rest (omega arith) (omega arith)))

  pub no_token : (size : ℕ) (p : Wanted) (os : List Opened) (cs : List ℕ) → next_token dialect size (wants_operand p) (most_levels - length os) cs ≡ None → tokens_at dialect size p os cs ≡ []
  unfolding tokens_from tokens_at
  no_token size p os cs e = rw e refl

  pub one_token : (size : ℕ) (p : Wanted) (os : List Opened) (cs : List ℕ) (t : Token) (rest : List ℕ) → next_token dialect size (wants_operand p) (most_levels - length os) cs ≡ Some (t, rest)
      → tokens_at dialect size p os cs ≡ t ∷ unless_faulty (lowest p os (Some t)) (tokens_at dialect size (wanted_after t) (after t (open_at p t os)) rest)
  unfolding tokens_from tokens_at
  one_token size p os cs t rest e =
      let less = shorter_next dialect size (wants_operand p) (most_levels - length os) cs t rest e in
      rw e (ap (λ (ts : List Token). t ∷ unless_faulty (lowest p os (Some t)) ts) (enough (length cs) (suc (length rest)) size (wanted_after t) (after t (open_at p t os)) rest less (omega arith)))

  -- the tokens of what is left where the parser stands
  abbrev pub left_tokens : ℕ → State → List ℕ → List Token
  left_tokens size st cs = tokens_at dialect size (wanted_in st) (shape (held st)) cs

  -- the next token where the parser stands
  abbrev pub found_at : ℕ → State → List ℕ → Option (Token × List ℕ)
  found_at size st cs = next_token dialect size (wants_operand (wanted_in st)) (most_levels - open_levels (held st)) cs

  by_shape : (size : ℕ) (st : State) (cs : List ℕ) (found : Option (Token × List ℕ)) → found_at size st cs ≡ found → next_token dialect size (wants_operand (wanted_in st)) (most_levels - length (shape (held st))) cs ≡ found
  by_shape size st cs found e = ap (λ n. next_token dialect size (wants_operand (wanted_in st)) (most_levels - n) cs) (shape_length (held st)) ∙ e

  behind_step : (size : ℕ) (st now : State) (t : Token) (cs rest : List ℕ) → IsState st → found_at size st cs ≡ Some (t, rest) → step st t ≡ Ok now → left_tokens size st cs ≡ t ∷ left_tokens size now rest
  behind_step size st now t cs rest h f e =
      let a = ok_agrees st now t h e in
      let os = open_at (wanted_in st) t (shape (held st)) in
      one_token size (wanted_in st) (shape (held st)) cs t rest (by_shape size st cs (Some (t, rest)) f)
      ∙ ap (λ (m : Option ExprFault). t ∷ unless_faulty m (tokens_at dialect size (wanted_after t) (after t os) rest)) a.0
      ∙ ap (λ (q : Wanted). t ∷ tokens_at dialect size q (after t os) rest) a.1
      ∙ ap (λ (qs : List Opened). t ∷ tokens_at dialect size (wanted_in now) qs rest) a.2

  pub run_more : (size : ℕ) (st now : State) (t : Token) (cs rest : List ℕ) (all : Result Expr ExprFault) → IsState st → found_at size st cs ≡ Some (t, rest) → step st t ≡ Ok now
      → run st (left_tokens size st cs) ≡ all → run now (left_tokens size now rest) ≡ all
  run_more size st now t cs rest all h f e so_far =
      sym (ap (run st) (behind_step size st now t cs rest h f e) ∙ stepped_on st now t (left_tokens size now rest) e) ∙ so_far

  pub run_stops : (size : ℕ) (e : ReadFault ExprSyntax) (st : State) (t : Token) (cs rest : List ℕ) (all : Result Expr ExprFault) → found_at size st cs ≡ Some (t, rest) → StopsFor e (step st t)
      → run st (left_tokens size st cs) ≡ all → StopsFor e all
  run_stops size stop.Memory st t cs rest all f e so_far = tt
  run_stops size (stop.Bad m) st t cs rest all f e so_far =
      sym so_far
      ∙ ap (run st) (one_token size (wanted_in st) (shape (held st)) cs t rest (by_shape size st cs (Some (t, rest)) f))
      ∙ stopped_at st t _ _ e

  pub ends_parse : (size : ℕ) (r : Result Tree (ReadFault ExprSyntax)) (st : State) (cs : List ℕ) (all : Result Expr ExprFault) → found_at size st cs ≡ None → Finishes r (finish st)
      → run st (left_tokens size st cs) ≡ all → Finishes r all
  ends_parse size r st cs all f k so_far =
      let same : finish st ≡ all = sym (ap (run st) (no_token size (wanted_in st) (shape (held st)) cs (by_shape size st cs None f)) ∙ run_nil st) ∙ so_far in
      let P : Result Expr ExprFault → Type 0 = λ z. Finishes r z in
      subst P same k

  pub found_by : (size levels : ℕ) (w : Bool) (st : CodeState) (s : List Held) (cs : List ℕ) (found : Option (Token × List ℕ)) → w ≡ wants_operand (gives.wanted_by st) → levels ≡ most_levels - open_levels s
      → found ≡ next_token dialect size w levels cs → found_at size (state_view st s) cs ≡ found
  found_by size levels w st s cs found a b e =
      let p : w ≡ wants_operand (wanted_in (state_view st s)) = a ∙ ap wants_operand (wanted_same st s) in
      let l : levels ≡ most_levels - open_levels (held (state_view st s)) = b ∙ ap (λ (z : List Held). most_levels - open_levels z) (held_same st s) in
      sym (e ∙ ap (λ (z : Bool). next_token dialect size z levels cs) p ∙ ap (λ n. next_token dialect size (wants_operand (wanted_in (state_view st s))) n cs) l)

  pub begins_parse : (text : List ℕ) (size : ℕ) (s : List Held) → size ≡ bytes text → s ≡ [] → run (wants wanted.Start s) (left_tokens size (wants wanted.Start s) text) ≡ expression_of dialect text
  unfolding expression_of tokens shape
  begins_parse text size s a b = rw (a, b) refl

  -- what was read is the grammar's
  pub tree_read : (text : List ℕ) (e : Expr) → expression_of dialect text ≡ Ok e → IsTree (tokens dialect text) e
  unfolding expression_of
  tree_read text e is = is_tree (tokens dialect text) e is

  pub fault_read : (text : List ℕ) (m : ExprFault) → expression_of dialect text ≡ Err m → expr_fault (tokens dialect text) ≡ Some m
  unfolding expression_of
  fault_read text m is = fault_is (tokens dialect text) ∙ ap fault_in is

  pub reads_trees : (text : List ℕ) (e : Expr) → (expression_of dialect text ≡ Ok e → IsTree (tokens dialect text) e) × (IsTree (tokens dialect text) e → expression_of dialect text ≡ Ok e)
  unfolding expression_of
  reads_trees text e = (is_tree (tokens dialect text) e, read_back (tokens dialect text) e)

  pub reads_faults : (text : List ℕ) (m : ExprFault) → (expression_of dialect text ≡ Err m → expr_fault (tokens dialect text) ≡ Some m) × (expr_fault (tokens dialect text) ≡ Some m → expression_of dialect text ≡ Err m)
  unfolding expression_of
  reads_faults text m = (fault_read text m, λ is. faulty_result (parsed (tokens dialect text)) m (sym (fault_is (tokens dialect text)) ∙ is))
