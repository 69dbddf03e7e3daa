-- The parser's steps.
use Rattle.std.specs.Prelude.{ℕ, suc, ◌==◌, nat_lt, false, List, [], ◌∷◌, ◌++◌, length, Option, Some, None, Result, Ok, Err, if◌then◌else◌}
use Rattle.tcl_chars.specs.declared.numbers.Dialect.{Dialect}
use Rattle.tcl_words.specs.Parts.{Stretch}
use Rattle.tcl_expr.specs.declared.token.UnaryOp.{UnaryOp}
use Rattle.tcl_expr.specs.declared.token.BinaryOp.{BinaryOp}
use Rattle.tcl_expr.specs.declared.token.Function.{Function}
use Rattle.tcl_expr.specs.Token.{Token}
use Rattle.tcl_expr.specs.Token.{Operand, Malformed, Bareword, Call, UnknownCall, Unary, Binary, Power, Open, Close, Comma, Question, Colon}
use Rattle.tcl_expr.specs.ExprFault.{ExprFault}
use Rattle.tcl_expr.specs.ExprFault as fault
use Rattle.tcl_expr.specs.ExprFault.{operand_fault}
use Rattle.tcl_expr.specs.declared.state.Wanted.{Wanted}
use Rattle.tcl_expr.specs.declared.state.Wanted.TheVariants as wanted
use Rattle.tcl_expr.specs.Expr.{Expr, operand, group, call, unary, power, chain, choice, Rest, last, next, Args, no_args, arg, level_of}
use Rattle.tcl_expr.specs.Grammar.{miscount, most_levels}
use Rattle.tcl_expr.specs.Faults.{reach}
use Rattle.tcl_expr.specs.Tokens.{tokens}

abbrev pub Step : Type 0
Step = BinaryOp × Expr

abbrev pub rest_onto : List Step → Rest → Rest
rest_onto [] r = r
rest_onto (x ∷ xs) r = next x.0 x.1 (rest_onto xs r)

abbrev pub rest_of : List Step → Rest
rest_of xs = rest_onto xs last

abbrev pub args_onto : List Expr → Args → Args
args_onto [] es = es
args_onto (x ∷ xs) es = arg x (args_onto xs es)

abbrev pub args_of : List Expr → Args
args_of xs = args_onto xs no_args

pub data Held : Type 0 where
  in_unary : UnaryOp → Held
  in_power : Expr → Held
  in_chain : ℕ → Expr → List Step → BinaryOp → Held
  in_second : Expr → Held
  in_third : Expr → Expr → Held
  in_group : Held
  in_call : Function → Stretch → List Expr → Held

abbrev pub held_level : Held → ℕ
held_level (in_unary u) = 0
held_level (in_power e) = 1
held_level (in_chain q e xs op) = q
held_level (in_third c e) = 14
held_level (in_second c) = 15
held_level in_group = 15
held_level (in_call f s es) = 15

-- the levels that are open
abbrev pub opens_of : Held → ℕ
opens_of (in_chain q e xs op) = 0
opens_of h = 1

unfoldable pub open_levels : List Held → ℕ
open_levels [] = 0
open_levels (in_chain q e xs op ∷ s) = open_levels s
open_levels (in_unary u ∷ s) = suc (open_levels s)
open_levels (in_power e ∷ s) = suc (open_levels s)
open_levels (in_second e ∷ s) = suc (open_levels s)
open_levels (in_third c e ∷ s) = suc (open_levels s)
open_levels (in_group ∷ s) = suc (open_levels s)
open_levels (in_call f p es ∷ s) = suc (open_levels s)

abbrev pub top : List Held → ℕ
top [] = 15
top (h ∷ s) = held_level h

abbrev pub finished : Held → Expr → Expr
finished (in_unary u) x = unary u x
finished (in_power e) x = power e x
finished (in_chain q e xs op) x = chain q e (rest_of (xs ++ (op, x) ∷ []))
finished (in_third c e) x = choice c e x
finished h x = x

pub data State : Type 0 where
  wants : Wanted → List Held → State
  has : Expr → List Held → State

unfoldable pub reduce : ℕ → Expr → List Held → Expr × List Held
reduce r x [] = (x, [])
reduce r x (h ∷ s) = if nat_lt (held_level h) r then reduce r (finished h x) s else (x, h ∷ s)

-- opens a level, if there is room
abbrev pub open_with : Wanted → Held → List Held → Result State ExprFault
open_with p h s = if nat_lt (open_levels s) most_levels then Ok (wants p (h ∷ s)) else Err fault.Nesting

abbrev pub at_first : List Held → ExprFault
at_first (in_call f s es ∷ hs) = fault.ArgumentCount s false
at_first hs = fault.MissingOperand

abbrev pub close_early : Wanted → List Held → ExprFault
close_early wanted.First s = at_first s
close_early p s = fault.MissingOperand

abbrev pub at_operand : Wanted → List Held → Token → Result State ExprFault
at_operand p s (Operand n) = Ok (has (operand n) s)
at_operand p s (Malformed m) = Err (operand_fault m)
at_operand p s (Bareword n) = Err (fault.BareWord n)
at_operand p s (Unary u) = open_with wanted.Operand (in_unary u) s
at_operand p s Open = open_with wanted.Operand in_group s
at_operand p s (Call f n) = open_with wanted.First (in_call f n []) s
at_operand p s (UnknownCall n) = Err (fault.UnknownFunction n)
at_operand p s Close = Err (close_early p s)
at_operand p s _ = Err fault.MissingOperand

abbrev pub add : BinaryOp → Expr → List Held → List Held
add op x (in_chain q e xs o ∷ s) =
    if q == level_of op then in_chain q e (xs ++ (o, x) ∷ []) op ∷ s else in_chain (level_of op) x [] op ∷ in_chain q e xs o ∷ s
add op x s = in_chain (level_of op) x [] op ∷ s

abbrev pub checked : Option ExprFault → State → Result State ExprFault
checked (Some m) st = Err m
checked None st = Ok st

abbrev pub at_close : Expr → List Held → Result State ExprFault
at_close x (in_group ∷ s) = Ok (has (group x) s)
at_close x (in_call f n es ∷ s) = checked (miscount f n (suc (length es))) (has (call f n (args_of (es ++ x ∷ []))) s)
at_close x (in_second c ∷ s) = Err fault.MissingOperator
at_close x s = Err fault.Parenthesis

abbrev pub at_comma : Expr → List Held → Result State ExprFault
at_comma x (in_call f n es ∷ s) = Ok (wants wanted.Operand (in_call f n (es ++ x ∷ []) ∷ s))
at_comma x s = Err fault.MissingOperator

abbrev pub at_colon : Expr → List Held → Result State ExprFault
at_colon x (in_second c ∷ s) = Ok (wants wanted.Operand (in_third c x ∷ s))
at_colon x s = Err fault.MissingOperator

abbrev pub at_operator : Expr → List Held → Token → Result State ExprFault
at_operator x s (Binary op) = Ok (wants wanted.Operand (add op x s))
at_operator x s Power = open_with wanted.Operand (in_power x) s
at_operator x s Question = open_with wanted.Operand (in_second x) s
at_operator x s Colon = at_colon x s
at_operator x s Comma = at_comma x s
at_operator x s Close = at_close x s
at_operator x s _ = Err fault.MissingOperator

abbrev pub step : State → Token → Result State ExprFault
step (wants p s) t = at_operand p s t
step (has x s) t = let r = reduce (reach t) x s in at_operator r.0 r.1 t

abbrev pub at_end : Expr → List Held → Result Expr ExprFault
at_end x [] = Ok x
at_end x (in_second c ∷ s) = Err fault.MissingOperator
at_end x s = Err fault.Parenthesis

abbrev pub early_end : Wanted → ExprFault
early_end wanted.Start = fault.Empty
early_end p = fault.MissingOperand

abbrev pub finish : State → Result Expr ExprFault
finish (wants p s) = Err (early_end p)
finish (has x s) = let r = reduce 15 x s in at_end r.0 r.1

abbrev pub and_then : {A : Type 0} → Result State ExprFault → (State → Result A ExprFault) → Result A ExprFault
and_then (Ok st) f = f st
and_then (Err m) f = Err m

unfoldable pub run : State → List Token → Result Expr ExprFault
run st [] = finish st
run st (t ∷ ts) = and_then (step st t) (λ st'. run st' ts)

abbrev pub parsed : List Token → Result Expr ExprFault
parsed ts = run (wants wanted.Start []) ts

-- the expression that a text is, or its fault
unfoldable pub expression_of : Dialect → List ℕ → Result Expr ExprFault
expression_of dialect text = parsed (tokens dialect text)
