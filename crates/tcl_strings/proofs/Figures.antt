-- The digits of a number are ASCII.
use Rattle.std.proofs.Common.{◌≡◌, ℕ, ◌<◌, ◌≤◌, ◌^◌, Bool, List, [], ◌∷◌, arith}
use Rattle.std.specs.Fmt.{digits}
use Rattle.std.specs.Str.{chars, IsAscii}
use Rattle.std.specs.Str.Parse.{AllDigits}
use Rattle.std.proofs.lemmas.Fmt.{digits_is_IsNumeral}
use Rattle.std.proofs.lemmas.Str.{chars-IsAscii}
use Rattle.std.proofs.lemmas.Str.Ascii.{IsAscii-nil, IsAscii-cons}
use Rattle.tcl_chars.proofs.Runs.{digit_is_ascii}

are_ascii : (base : ℕ) (ds : List ℕ) → base ≤ 16 → AllDigits base ds → IsAscii ds
are_ascii base [] h d = IsAscii-nil
are_ascii base (c ∷ cs) h d = IsAscii-cons c cs (digit_is_ascii c (omega (arith, d.0))) (are_ascii base cs h d.1)

pub chars_digits : (base : ℕ) (upper : Bool) (n : ℕ) → 2 ≤ base → base ≤ 16 → n < base ^ 64 → chars (digits base upper n) ≡ digits base upper n
chars_digits base upper n low high h = chars-IsAscii _ (are_ascii base _ high (digits_is_IsNumeral base upper low high n h).0.1)
