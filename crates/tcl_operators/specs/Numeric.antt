-- Functions of numbers: mathfunc(n).
use Rattle.std.specs.Prelude.{List, ℤ, Ok}
use Rattle.tcl_chars.specs.Arith.{ranged}
use Rattle.tcl_expr.specs.declared.token.Function.{Function}
use Rattle.tcl_expr.specs.declared.token.Function.TheVariants as function
use Rattle.tcl_pages.specs.Answers.{Answer}
use Rattle.tcl_meaning.specs.Operators.{absolute, larger, smaller, of_first, of_all}
use Rattle.tcl_pages.specs.Results.{in_decimal}
use Rattle.tcl_pages.specs.Texts.{Text, number_text}

-- all but the truth value
abbrev pub IsNumeric : Function → Type 0
IsNumeric function.Bool = ⊥
IsNumeric _ = Unit {0}

-- the answer, where the arguments are these numbers
abbrev pub numeric_answer : Function → List ℤ → Answer Text
numeric_answer function.Abs zs = of_first (λ z. in_decimal (ranged (Ok (absolute z)))) zs
numeric_answer function.Max zs = of_all larger zs
numeric_answer function.Min zs = of_all smaller zs
numeric_answer _ zs = of_first (λ z. Ok (number_text z)) zs
