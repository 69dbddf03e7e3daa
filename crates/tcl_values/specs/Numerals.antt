-- The decimal text of a number, kept in place.
use Rattle.std.specs.Prelude.{◌≡◌, ◌≤◌, ℕ, ℤ, ⊤, List, length, take, FitsSigned}
use Rattle.std.specs.Int.{w64}
use Rattle.std.specs.Fmt.{signed_decimal}
use Rattle.std.specs.Str.{chars}
use Rattle.std.specs.String.{string_bytes}
use Rattle.tcl_values.specs.declared.digits.Digits.{Digits}
use Rattle.tcl_values.specs.declared.element_text.Spelled.{Spelled}
use Rattle.tcl_values.specs.declared.element_text.Spelled.TheVariants.{Lent, Number, Written}

abbrev pub digits : Digits → List ℕ
digits d = take d.count d.bytes

-- bytes that are the decimal text of a number
pub record AreDigits (d : Digits) : Type 0 where
  pub number : ℤ
  pub fits : FitsSigned w64 number
  pub within : d.count ≤ length d.bytes
  pub decimal : digits d ≡ signed_decimal number

-- the text of an element, as it is there for who asks
abbrev pub spelled_text : Spelled → List ℕ
spelled_text (Lent t) = chars t.now
spelled_text (Number d) = chars (digits d)
spelled_text (Written s) = chars (string_bytes s)

abbrev pub IsSpelled : Spelled → Type 0
IsSpelled (Lent t) = ⊤
IsSpelled (Number d) = AreDigits d
IsSpelled (Written s) = ⊤
