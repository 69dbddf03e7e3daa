-- Laws of escapes (Tcl(n), rule 9), indices (lindex(n)), numbers (expr(n)) and the order of texts (string(n), `string compare`).
use Rattle.std.specs.Prelude.{◌≡◌, ◌≢◌, ◌↔◌, ℕ, ◌+◌, ◌≤◌, ◌<◌, ◌^◌, List, [], ◌∷◌, ◌++◌, length, take, true, false, Some, ℤ, pos, negsuc, neg_ℤ, ◌+ℤ◌, ◌*ℤ◌, ◌≤ℤ◌, ◌<ℤ◌}
use Rattle.std.specs.Fmt.{signed_decimal}
use Rattle.std.specs.Str.{chars, IsUtf8}
use Rattle.tcl_chars.specs.Arith.{fits, floor_div, floor_mod}
use Rattle.tcl_chars.specs.Classes.{is_blank}
use Rattle.tcl_chars.specs.Escape.{IsRun, code_form, escape}
use Rattle.tcl_chars.specs.Index.{has_space, index_of, moved}
use Rattle.tcl_chars.specs.Texts.{literal, by_code_point}
use Rattle.tcl_chars.specs.Whole.{magnitude, whole_of}
use Rattle.tcl_chars.specs.declared.indices.Index.TheVariants.{At}
use Rattle.tcl_chars.specs.declared.indices.Position.{Position}
use Rattle.tcl_chars.specs.declared.indices.Position.TheVariants.{Start, End}
use Rattle.tcl_chars.specs.declared.numbers.Dialect.{Dialect}
use Rattle.tcl_chars.specs.declared.numbers.Whole.TheVariants.{Number}

-- every character is a space or a tab
abbrev pub AllBlank : List ℕ → Type 0
AllBlank [] = Unit {0}
AllBlank (c ∷ cs) = (is_blank c ≡ true) × AllBlank cs

-- The character c behind a backslash, and the characters cs behind it, allow an escape of this number of characters, the backslash
-- among them: the character alone; a letter and digits; octal digits; a newline, and spaces and tabs.
pub data IsEscape (c : ℕ) (cs : List ℕ) : ℕ → Type 0 where
  itself : IsEscape c cs 2
  coded : (most limit n : ℕ) → code_form c ≡ Some (most, limit) → n ≤ most → IsRun 16 limit cs n → IsEscape c cs (n + 2)
  octal : (n : ℕ) → 1 ≤ n → n ≤ 3 → IsRun 8 255 (c ∷ cs) n → IsEscape c cs (n + 1)
  line : (n : ℕ) → c ≡ 10 → n ≤ length cs → AllBlank (take n cs) → IsEscape c cs (n + 2)

-- An escape is the longest that the text allows.
abbrev pub EscapeIsLongest : Type 0
EscapeIsLongest = (b c : ℕ) (cs : List ℕ) → (let taken = (escape (b ∷ c ∷ cs)).1 in IsEscape c cs taken × ((n : ℕ) → IsEscape c cs n → n ≤ taken))

-- `end`, or a number without white space
pub data IsBase (dialect : Dialect) : List ℕ → Position → Type 0 where
  last : IsBase dialect (literal "end") (End (pos 0))
  number : (cs : List ℕ) (z : ℤ) → has_space cs ≡ false → whole_of dialect cs ≡ Number z → IsBase dialect cs (Start z (pos 0))

-- a number without a sign and without white space, that 64 bits hold with either sign
pub record IsUnsigned (dialect : Dialect) (cs : List ℕ) (n : ℕ) : Type 0 where
  pub plain : has_space cs ≡ false
  pub says : magnitude dialect cs ≡ Some n
  pub small : n < 2 ^ 63

-- The text spells the position: a number, with list space round it; a base; a base, a plus and a number; a base, a minus
-- and a number.
pub data Spells (dialect : Dialect) : List ℕ → Position → Type 0 where
  alone : (cs : List ℕ) (z : ℤ) → whole_of dialect cs ≡ Number z → Spells dialect cs (Start z (pos 0))
  base : (cs : List ℕ) (p : Position) → IsBase dialect cs p → Spells dialect cs p
  plus : (b digits : List ℕ) (p : Position) (n : ℕ) → IsBase dialect b p → IsUnsigned dialect digits n → Spells dialect (b ++ 43 ∷ digits) (moved p (pos n))
  minus : (b digits : List ℕ) (p : Position) (n : ℕ) → IsBase dialect b p → IsUnsigned dialect digits n → Spells dialect (b ++ 45 ∷ digits) (moved p (neg_ℤ (pos n)))

-- What is so spelled is read as that position, and what is read as a position is so spelled.
abbrev pub IndexIsSpelled : Type 0
IndexIsSpelled = (dialect : Dialect) (cs : List ℕ) (p : Position) → (index_of dialect cs ≡ At p) ↔ Spells dialect cs p

-- a remainder has the divisor's sign, or is 0, and is nearer to 0 than the divisor
abbrev pub IsRemainder : ℤ → ℤ → Type 0
IsRemainder (pos n) r = (pos 0 ≤ℤ r) × (r <ℤ pos n)
IsRemainder (negsuc n) r = (negsuc n <ℤ r) × (r ≤ℤ pos 0)

-- A number is the divisor times the quotient, and the remainder.
abbrev pub DivisionIsExact : Type 0
DivisionIsExact = (a b : ℤ) → b ≢ pos 0 → (a ≡ (b *ℤ floor_div a b) +ℤ floor_mod a b) × IsRemainder b (floor_mod a b)

-- The decimal text of a number reads as the number, in every dialect.
abbrev pub DecimalReadsBack : Type 0
DecimalReadsBack = (dialect : Dialect) (z : ℤ) → fits z ≡ true → whole_of dialect (signed_decimal z) ≡ Number z

-- The bytes of two texts stand in the order of their characters.
abbrev pub OrderIsKept : Type 0
OrderIsKept = (a b : List ℕ) → IsUtf8 a → IsUtf8 b → by_code_point (chars a) (chars b) ≡ by_code_point a b
