-- A number's decimal text reads as the number.
use Rattle.std.proofs.Common.{◌≡◌, ℕ, ◌^◌, ◌<◌, List, Result, Ok, Err, true, sym, subst, ap, ◌∙◌, ℤ, pos, negsuc, FitsSigned, to_z, of_z}
use Rattle.std.specs.Int.{w64}
use Rattle.std.specs.Fmt.{signed_decimal}
use Rattle.std.specs.Str.{chars, bytes_eq, IsUtf8}
use Rattle.std.specs.Str.Parse.{ParsesSigned}
use Rattle.std.specs.Cmp.Lexicographic.{bytes_decides}
use Rattle.std.proofs.lemmas.Bool.{lt-ltb}
use Rattle.std.proofs.lemmas.Fmt.{parse-signed_decimal}
use Rattle.std.proofs.lemmas.Int.{to_z-of_z}
use Rattle.std.proofs.lemmas.Str.{chars-IsAscii, IsUtf8-from_ascii}
use Rattle.itoa.proofs.Decimal.{IsAscii-signed_decimal}
use lib.Signed.{mag}
use Rattle.tcl_chars.specs.Arith.{fits}
use Rattle.tcl_chars.specs.Whole.{whole_of}
use Rattle.tcl_chars.specs.declared.numbers.Dialect.{Dialect}
use Rattle.tcl_chars.specs.declared.numbers.Whole.TheVariants.{Number}
use Rattle.tcl_chars.proofs.Numerals as numerals

fits_signed : (z : ℤ) → FitsSigned w64 z → fits z ≡ true
fits_signed (pos n) f = lt-ltb n (2 ^ 63) f.sfits
fits_signed (negsuc n) f = lt-ltb n (2 ^ 63) f.sfits

pub reads_decimal : (dialect : Dialect) (z : ℤ) → FitsSigned w64 z → whole_of dialect (signed_decimal z) ≡ Number z
reads_decimal dialect z f = numerals.reads_decimal dialect z (fits_signed z f)

pub chars_decimal : (z : ℤ) → FitsSigned w64 z → chars (signed_decimal z) ≡ signed_decimal z
chars_decimal z f = chars-IsAscii _ (IsAscii-signed_decimal z f)

-- what is printed of a number is its decimal text
pub printed : (z : ℤ) (bytes : List ℕ) → FitsSigned w64 z → bytes ≡ signed_decimal (to_z w64 (of_z w64 z)) → chars bytes ≡ signed_decimal z
printed z bytes f e = ap chars (e ∙ ap signed_decimal (to_z-of_z w64 z f)) ∙ chars_decimal z f

-- what is printed of a number is the text
pub same_printed : (z : ℤ) (bytes text : List ℕ) → FitsSigned w64 z → bytes ≡ signed_decimal (to_z w64 (of_z w64 z)) → bytes_eq bytes text ≡ true → chars text ≡ signed_decimal z
same_printed z bytes text f e same =
    ap chars (sym ((bytes_decides bytes text).0 same) ∙ e ∙ ap signed_decimal (to_z-of_z w64 z f)) ∙ chars_decimal z f

-- ---- bytes that are the text of a number

pub utf8_decimal : (z : ℤ) (bs : List ℕ) → FitsSigned w64 z → bs ≡ signed_decimal z → IsUtf8 bs
utf8_decimal z bs f e = subst IsUtf8 (sym e) (IsUtf8-from_ascii _ (IsAscii-signed_decimal z f))

pub small : (z : ℤ) → FitsSigned w64 z → mag z < 2 ^ 63
small (pos n) f = f.sfits
small (negsuc n) f = f.sfits

pub parses_decimal : {E : Type 0} (z : ℤ) (bs : List ℕ) (r : Result ℤ E) → FitsSigned w64 z → bs ≡ signed_decimal z → ParsesSigned w64 10 bs r → r ≡ Ok z
parses_decimal z bs r f e h = parse-signed_decimal w64 z bs r f (small z f) e h

pub never_refused : {E : Type 0} (z : ℤ) (r : Result ℤ E) (x : E) → r ≡ Ok z → r ≡ Err x → ⊥
never_refused z r x e f = cc

same_number : {E : Type 0} (y z : ℤ) (r : Result ℤ E) → r ≡ Ok z → r ≡ Ok y → y ≡ z
same_number y z r e f = cc

-- the number that is parsed has the text
pub text_of_parsed : {E : Type 0} (y z : ℤ) (bs : List ℕ) (r : Result ℤ E) → FitsSigned w64 z → bs ≡ signed_decimal z → r ≡ Ok z → r ≡ Ok y → signed_decimal (to_z w64 (of_z w64 y)) ≡ chars bs
text_of_parsed y z bs r f e read is =
    ap (λ v. signed_decimal (to_z w64 (of_z w64 v))) (same_number y z r read is) ∙ ap signed_decimal (to_z-of_z w64 z f)
    ∙ sym (ap chars e ∙ chars_decimal z f)
