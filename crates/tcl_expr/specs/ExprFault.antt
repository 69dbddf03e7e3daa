-- Why a text is no expression.
use Rattle.std.specs.Prelude.{Bool}
use Rattle.tcl_words.specs.Parts.{Stretch}
use Rattle.tcl_words.specs.declared.fault.Syntax.{Syntax}
use Rattle.tcl_words.specs.declared.fault.Syntax.TheVariants as syntax

pub data ExprFault : Type 0 where
  Empty : ExprFault
  -- a run or a character that is no operand
  BareWord : Stretch → ExprFault
  MissingOperand : ExprFault
  MissingOperator : ExprFault
  Parenthesis : ExprFault
  -- the name
  UnknownFunction : Stretch → ExprFault
  -- the function's name; are there too many arguments, or too few
  ArgumentCount : Stretch → (many : Bool) → ExprFault
  Nesting : ExprFault
  -- a fault inside an operand
  Words : Syntax → ExprFault

-- What a fault inside an operand is. What nests too deep there counts as an expression that does.
abbrev pub operand_fault : Syntax → ExprFault
operand_fault syntax.TooDeep = Nesting
operand_fault m = Words m
