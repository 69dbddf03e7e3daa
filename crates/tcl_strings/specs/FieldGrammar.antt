-- The directives of a format, said by their parts rather than by a reader (format(n)): the text behind `%` is flags in any order,
-- a width, a precision, a size modifier and a letter. All but the letter may be omitted.
use Rattle.std.specs.Prelude.{◌≡◌, ◌≢◌, ℕ, min, Bool, [], ◌∷◌, ◌++◌, Option, Some, None}
use Rattle.std.specs.Str.Parse.{digits_value}
use Rattle.tcl_chars.specs.Characters.{number_sign, space, star}
use Rattle.tcl_pages.specs.Formats.{percent, conversion_of}
use Rattle.tcl_pages.specs.StringClasses.{is_digit}
use Rattle.tcl_pages.specs.StringLaws.{AllAre}
use Rattle.tcl_pages.specs.Strings.{is_among}
use Rattle.tcl_pages.specs.Texts.{Text}
use Rattle.tcl_pages.specs.declared.formats.Field.{Field}
use Rattle.tcl_pages.specs.declared.formats.Size.{Size}
use Rattle.tcl_pages.specs.declared.formats.Size.TheVariants as size

abbrev pub minus : ℕ
minus = 45

abbrev pub plus : ℕ
plus = 43

abbrev pub zero_digit : ℕ
zero_digit = 48

abbrev pub dot : ℕ
dot = 46

abbrev pub letter_l : ℕ
letter_l = 108

-- ---- flags

abbrev pub is_flag : ℕ → Bool
is_flag = is_among (minus ∷ plus ∷ space ∷ zero_digit ∷ number_sign ∷ [])

-- Flags in any order, and as often as one likes: the field has those that stand in the text.
abbrev pub IsFlags : Text → Field → Type 0
IsFlags t f =
    AllAre is_flag t
    × (f.minus ≡ is_among t minus)
    × (f.plus ≡ is_among t plus)
    × (f.gap ≡ is_among t space)
    × (f.zeros ≡ is_among t zero_digit)
    × (f.hash ≡ is_among t number_sign)

-- ---- sizes

-- The number that the digits write. All that are too large count as the first that is.
abbrev pub size_of : Text → Size
size_of ds = size.Given (min (digits_value 10 ds) 2147483648)

-- A width is a decimal number, or `*`. It does not begin with 0, which is a flag.
pub data IsWidth : Text → Size → Type 0 where
  none : IsWidth [] (size.Given 0)
  number : (d : ℕ) (ds : Text) → d ≢ zero_digit → AllAre is_digit (d ∷ ds) → IsWidth (d ∷ ds) (size_of (d ∷ ds))
  argument : IsWidth (star ∷ []) size.FromArgument

-- A precision is a period and a decimal number, which is 0 where it has no digit, or a period and `*`.
pub data IsPrecision : Text → Option Size → Type 0 where
  none : IsPrecision [] None
  number : (ds : Text) → AllAre is_digit ds → IsPrecision (dot ∷ ds) (Some (size_of ds))
  argument : IsPrecision (dot ∷ star ∷ []) (Some size.FromArgument)

-- A size modifier is `l` or `ll`, without effect.
pub data IsModifier : Text → Type 0 where
  none : IsModifier []
  one : IsModifier (letter_l ∷ [])
  two : IsModifier (letter_l ∷ letter_l ∷ [])

-- ---- directives

-- the parts in front of the letter
pub record IsHead (t : Text) (f : Field) : Type 0 where
  pub flags : Text
  pub width : Text
  pub precision : Text
  pub modifier : Text
  pub in_order : t ≡ flags ++ (width ++ (precision ++ modifier))
  pub are_flags : IsFlags flags f
  pub is_width : IsWidth width f.width
  pub is_precision : IsPrecision precision f.precision
  pub is_modifier : IsModifier modifier

-- The text behind `%` is the field f.
pub record IsField (t : Text) (f : Field) : Type 0 where
  pub head : Text
  pub letter : ℕ
  pub in_order : t ≡ head ++ letter ∷ []
  pub is_head : IsHead head f
  pub is_letter : conversion_of letter ≡ Some f.conversion

-- ---- what is no directive

-- the parts of some field stand there in front of the letter
abbrev pub Begins : Text → Type 0
Begins t = (f : Field) × IsHead t f

-- A letter must stand behind the head, and c is none, nor does a part go on with it.
pub record NoLetter (head : Text) (f : Field) (c : ℕ) : Type 0 where
  pub is_head : IsHead head f
  pub no_more : Begins (head ++ c ∷ []) → ⊥
  pub no_letter : conversion_of c ≡ None

-- Where the letter must stand, the text ends or has none.
abbrev pub Lacks : Text → Field → Text → Type 0
Lacks head f [] = IsHead head f
Lacks head f (c ∷ rest) = NoLetter head f c
