-- Operators that take both texts: expr(n), Operators. In a dialect of numbers.
use Rattle.std.specs.Prelude.{Result}
use Rattle.tcl_chars.specs.Answers.{Answers}
use Rattle.tcl_chars.specs.declared.fault.Fault.{Fault}
use Rattle.tcl_expr.specs.declared.token.BinaryOp.{BinaryOp}
use Rattle.tcl_expr.specs.declared.token.BinaryOp.TheVariants as binary
use Rattle.tcl_meaning.specs.Operators.{Operator, lazy, eager}
use Rattle.tcl_pages.specs.Texts.{Text}

-- the operator takes both texts
abbrev pub IsEager : Operator → Type 0
IsEager (lazy decided) = ⊥
IsEager (eager answer) = Unit {0}

-- what was returned is the operator's answer of two texts
abbrev pub IsAnswered : Result Text Fault → Operator → Text → Text → Type 0
IsAnswered result (lazy decided) a b = ⊥
IsAnswered result (eager answer) a b = Answers (λ v. v) result (answer a b)

-- the operator compares
abbrev pub IsTest : BinaryOp → Type 0
IsTest binary.Less = Unit {0}
IsTest binary.Greater = Unit {0}
IsTest binary.LessEqual = Unit {0}
IsTest binary.GreaterEqual = Unit {0}
IsTest binary.Equal = Unit {0}
IsTest binary.NotEqual = Unit {0}
IsTest binary.TextEqual = Unit {0}
IsTest binary.TextNotEqual = Unit {0}
IsTest binary.In = Unit {0}
IsTest binary.NotIn = Unit {0}
IsTest _ = ⊥
