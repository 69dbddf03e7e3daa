-- Expressions, without where they lie in memory.
use Rattle.std.specs.Prelude.{ℕ, suc, Bool, true, false}
use Rattle.tcl_words.specs.Parts.{Stretch, Shape}
use Rattle.tcl_expr.specs.declared.token.UnaryOp.{UnaryOp}
use Rattle.tcl_expr.specs.declared.token.BinaryOp.{BinaryOp}
use Rattle.tcl_expr.specs.declared.token.BinaryOp.TheVariants as op
use Rattle.tcl_expr.specs.declared.token.Function.{Function}
use Rattle.tcl_expr.specs.declared.token.Function.TheVariants as function

-- an operand that holds no operator: expr(n), Operands
pub data Leaf : Type 0 where
  -- a number or a truth word, as it is spelled
  literal : Stretch → Leaf
  -- a word in quotes or braces, a bracket, or a variable
  word : Shape → Leaf

mutual
  pub data Expr : Type 0 where
    operand : Leaf → Expr
    -- in parentheses
    group : Expr → Expr
    -- a function, its name as it stands, and its arguments
    call : Function → Stretch → Args → Expr
    unary : UnaryOp → Expr → Expr
    -- `**`
    power : Expr → Expr → Expr
    -- parts round operators of one level
    chain : ℕ → Expr → Rest → Expr
    -- `?:`
    choice : Expr → Expr → Expr → Expr

  pub data Rest : Type 0 where
    last : Rest
    next : BinaryOp → Expr → Rest → Rest

  pub data Args : Type 0 where
    no_args : Args
    arg : Expr → Args → Args

-- the level of an operator that groups left: the lower, the tighter (expr(n), Operators)
abbrev pub level_of : BinaryOp → ℕ
level_of op.Times = 2
level_of op.Divide = 2
level_of op.Remainder = 2
level_of op.Add = 3
level_of op.Subtract = 3
level_of op.ShiftLeft = 4
level_of op.ShiftRight = 4
level_of op.Less = 5
level_of op.Greater = 5
level_of op.LessEqual = 5
level_of op.GreaterEqual = 5
level_of op.Equal = 6
level_of op.NotEqual = 6
level_of op.TextEqual = 7
level_of op.TextNotEqual = 7
level_of op.In = 8
level_of op.NotIn = 8
level_of op.BitAnd = 9
level_of op.BitXor = 10
level_of op.BitOr = 11
level_of op.And = 12
level_of op.Or = 13

-- the functions of one argument; the others take one or more (expr(n), Math functions)
abbrev pub takes_one : Function → Bool
takes_one function.Abs = true
takes_one function.Bool = true
takes_one function.Int = true
takes_one function.Wide = true
takes_one function.Max = false
takes_one function.Min = false

abbrev pub argument_count : Args → ℕ
argument_count no_args = 0
argument_count (arg e es) = suc (argument_count es)
