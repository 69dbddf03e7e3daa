-- How operators are spelled, and what faults say. A text is the list of its characters.
use Rattle.std.specs.Prelude.{ℕ, true, false, List, codes}
use Rattle.tcl_chars.specs.Messages.{about}
use Rattle.tcl_chars.specs.Texts.{literal}
use Rattle.tcl_words.specs.Syntax.{syntax_text}
use Rattle.tcl_expr.specs.declared.token.UnaryOp.{UnaryOp}
use Rattle.tcl_expr.specs.declared.token.UnaryOp.TheVariants as unary
use Rattle.tcl_expr.specs.declared.token.BinaryOp.{BinaryOp}
use Rattle.tcl_expr.specs.declared.token.BinaryOp.TheVariants as binary
use Rattle.tcl_expr.specs.declared.token.Function.{Function}
use Rattle.tcl_expr.specs.declared.token.Function.TheVariants as function
use Rattle.tcl_expr.specs.declared.token.Symbol.{Symbol}
use Rattle.tcl_expr.specs.declared.token.Symbol.TheVariants as symbol
use Rattle.tcl_expr.specs.ExprFault.{ExprFault}
use Rattle.tcl_expr.specs.ExprFault as fault

-- expr(n), Operators
abbrev pub unary_text : UnaryOp → List ℕ
unary_text unary.Minus = codes "-"
unary_text unary.Plus = codes "+"
unary_text unary.Flip = codes "~"
unary_text unary.Not = codes "!"

abbrev pub binary_text : BinaryOp → List ℕ
binary_text binary.Times = codes "*"
binary_text binary.Divide = codes "/"
binary_text binary.Remainder = codes "%"
binary_text binary.Add = codes "+"
binary_text binary.Subtract = codes "-"
binary_text binary.ShiftLeft = codes "<<"
binary_text binary.ShiftRight = codes ">>"
binary_text binary.Less = codes "<"
binary_text binary.Greater = codes ">"
binary_text binary.LessEqual = codes "<="
binary_text binary.GreaterEqual = codes ">="
binary_text binary.Equal = codes "=="
binary_text binary.NotEqual = codes "!="
binary_text binary.TextEqual = codes "eq"
binary_text binary.TextNotEqual = codes "ne"
binary_text binary.In = codes "in"
binary_text binary.NotIn = codes "ni"
binary_text binary.BitAnd = codes "&"
binary_text binary.BitXor = codes "^"
binary_text binary.BitOr = codes "|"
binary_text binary.And = codes "&&"
binary_text binary.Or = codes "||"

-- operators and marks that are no runs
abbrev pub symbol_text : Symbol → List ℕ
symbol_text (symbol.Binary op) = binary_text op
symbol_text symbol.Power = codes "**"
symbol_text symbol.Question = codes "?"
symbol_text symbol.Colon = codes ":"
symbol_text symbol.Comma = codes ","
symbol_text symbol.Close = codes ")"

-- expr(n), Math functions
abbrev pub function_text : Function → List ℕ
function_text function.Abs = codes "abs"
function_text function.Bool = codes "bool"
function_text function.Int = codes "int"
function_text function.Wide = codes "wide"
function_text function.Max = codes "max"
function_text function.Min = codes "min"

-- what a fault says (the profile)
abbrev pub fault_text : ExprFault → List ℕ
fault_text fault.Empty = literal "empty expression"
fault_text (fault.BareWord s) = about (literal "invalid bareword") s.text (literal "")
fault_text fault.MissingOperand = literal "missing operand"
fault_text fault.MissingOperator = literal "missing operator"
fault_text fault.Parenthesis = literal "unbalanced parentheses"
fault_text (fault.UnknownFunction s) = about (literal "unknown math function") s.text (literal "")
fault_text (fault.ArgumentCount s true) = about (literal "too many arguments for math function") s.text (literal "")
fault_text (fault.ArgumentCount s false) = about (literal "too few arguments for math function") s.text (literal "")
fault_text fault.Nesting = literal "nesting too deep"
fault_text (fault.Words m) = syntax_text m
