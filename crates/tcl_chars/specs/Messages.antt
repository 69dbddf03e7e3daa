-- What is said of a text that is to be a number, a truth value or an index, and of a result that there is none of. The
-- sentences are the profile's. A text is the list of its characters.
use Rattle.std.specs.Prelude.{ℕ, List, ◌++◌, Bool, true, false, ℤ, Result, Ok, Err}
use Rattle.tcl_chars.specs.Index.{index_of}
use Rattle.tcl_chars.specs.Texts.{literal}
use Rattle.tcl_chars.specs.Truth.{truth_of}
use Rattle.tcl_chars.specs.Whole.{whole_of}
use Rattle.tcl_chars.specs.declared.arithmetic.Arith.{Arith}
use Rattle.tcl_chars.specs.declared.arithmetic.Arith.TheVariants.{Overflow, DivideByZero, ZeroPower, NegativeShift}
use Rattle.tcl_chars.specs.declared.indices.Index.{Index}
use Rattle.tcl_chars.specs.declared.indices.Index.TheVariants as index
use Rattle.tcl_chars.specs.declared.indices.Position.{Position}
use Rattle.tcl_chars.specs.declared.numbers.Dialect.{Dialect}
use Rattle.tcl_chars.specs.declared.numbers.Whole.{Whole}
use Rattle.tcl_chars.specs.declared.numbers.Whole.TheVariants as whole
use Rattle.tcl_chars.specs.declared.truths.Truth.{Truth}
use Rattle.tcl_chars.specs.declared.truths.Truth.TheVariants as truth

-- what is said of a word: `before "word"after`
unfoldable pub about : List ℕ → List ℕ → List ℕ → List ℕ
about before word after = before ++ (literal " \"" ++ (word ++ (literal "\"" ++ after)))

abbrev pub too_large : List ℕ
too_large = literal "integer value too large to represent"

abbrev pub expected_integer : List ℕ → List ℕ
expected_integer t = about (literal "expected integer but got") t (literal "")

abbrev pub expected_boolean : List ℕ → List ℕ
expected_boolean t = about (literal "expected boolean value but got") t (literal "")

abbrev pub bad_index : List ℕ → List ℕ
bad_index t = about (literal "bad index") t (literal ": must be integer?[+-]integer? or end?[+-]integer?")

-- why an operator has no result
abbrev pub arith_text : Arith → List ℕ
arith_text Overflow = literal "integer overflow"
arith_text DivideByZero = literal "divide by zero"
arith_text ZeroPower = literal "exponentiation of zero by negative power"
arith_text NegativeShift = literal "negative shift argument"

-- the number, and for a text that is none the message
abbrev pub whole_or : List ℕ → Whole → Result ℤ (List ℕ)
whole_or message (whole.Number z) = Ok z
whole_or message whole.TooLarge = Err too_large
whole_or message whole.Not = Err message

abbrev pub truth_or : List ℕ → Truth → Result Bool (List ℕ)
truth_or message truth.Yes = Ok true
truth_or message truth.No = Ok false
truth_or message truth.TooLarge = Err too_large
truth_or message truth.Not = Err message

abbrev pub position_or : List ℕ → Index → Result Position (List ℕ)
position_or message (index.At place) = Ok place
position_or message index.TooLarge = Err too_large
position_or message index.Not = Err message

-- the number, the truth value and the position of a text, wherever one is read
abbrev pub number : Dialect → List ℕ → Result ℤ (List ℕ)
number dialect t = whole_or (expected_integer t) (whole_of dialect t)

abbrev pub truth_value : Dialect → List ℕ → Result Bool (List ℕ)
truth_value dialect t = truth_or (expected_boolean t) (truth_of dialect t)

abbrev pub position : Dialect → List ℕ → Result Position (List ℕ)
position dialect t = position_or (bad_index t) (index_of dialect t)
