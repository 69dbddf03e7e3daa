-- The tokens of an expression.
use Rattle.tcl_words.specs.Parts.{Stretch}
use Rattle.tcl_words.specs.declared.fault.Syntax.{Syntax}
use Rattle.tcl_expr.specs.declared.token.UnaryOp.{UnaryOp}
use Rattle.tcl_expr.specs.declared.token.BinaryOp.{BinaryOp}
use Rattle.tcl_expr.specs.declared.token.Function.{Function}
use Rattle.tcl_expr.specs.Expr.{Leaf}

pub data Token : Type 0 where
  -- where an operand is wanted
  Operand : Leaf → Token
  -- an operand with a fault inside
  Malformed : Syntax → Token
  -- another run, or a character that begins no token
  Bareword : Stretch → Token
  -- a function's name and the parenthesis behind it
  Call : Function → Stretch → Token
  UnknownCall : Stretch → Token
  Unary : UnaryOp → Token
  Open : Token
  -- wherever they stand
  Binary : BinaryOp → Token
  Power : Token
  Question : Token
  Colon : Token
  Comma : Token
  Close : Token
  -- where an operator is wanted, anything else
  Stray : Token
