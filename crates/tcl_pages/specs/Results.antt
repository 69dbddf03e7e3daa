-- How a truth value and a result of arithmetic are answered: expr(n), Results.
use Rattle.std.specs.Prelude.{ℤ, Bool, true, false, Result, Ok, Err}
use Rattle.tcl_chars.specs.Messages.{arith_text}
use Rattle.tcl_chars.specs.declared.arithmetic.Arith.{Arith}
use Rattle.tcl_chars.specs.Texts.{literal}
use Rattle.tcl_pages.specs.Answers.{Answer}
use Rattle.tcl_pages.specs.Texts.{Text, number_text}

abbrev pub truth_text : Bool → Text
truth_text true = literal "1"
truth_text false = literal "0"

-- a result in decimal, if 64 bits hold it
abbrev pub in_decimal : Result ℤ Arith → Answer Text
in_decimal (Ok z) = Ok (number_text z)
in_decimal (Err e) = Err (arith_text e)
