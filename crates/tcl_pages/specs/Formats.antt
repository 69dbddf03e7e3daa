-- format(n). In a dialect of numbers. The format is read from left to right, and so the arguments go to its fields.
use Rattle.std.specs.Prelude.{ℕ, suc, ◌+◌, ◌-◌, ◌*◌, ◌^◌, min, unsigned_abs, Bool, true, false, not, ◌||◌, ◌&&◌, ◌==◌, nat_le, nat_lt, ℤ, pos, negsuc, List, [], ◌∷◌, ◌++◌, length, take, replicate, Option, Some, None, Ok, Err, if◌then◌else◌}
use Rattle.std.specs.Fmt.{digits}
use Rattle.tcl_chars.specs.Characters.{number_sign, space, star}
use Rattle.tcl_chars.specs.Messages.{about, number, too_large}
use Rattle.tcl_chars.specs.Texts.{literal}
use Rattle.tcl_chars.specs.declared.numbers.Dialect.{Dialect}
use Rattle.tcl_pages.specs.Answers.{Answer, ◌>>=◌}
use Rattle.tcl_pages.specs.StringClasses.{is_digit}
use Rattle.tcl_pages.specs.Texts.{Text}
use Rattle.tcl_pages.specs.Usage.{usage}
use Rattle.tcl_pages.specs.declared.formats.Conversion.{Conversion}
use Rattle.tcl_pages.specs.declared.formats.Conversion.TheVariants as conversion
use Rattle.tcl_pages.specs.declared.formats.Field.{Field}
use Rattle.tcl_pages.specs.declared.formats.FormatPart.{FormatPart}
use Rattle.tcl_pages.specs.declared.formats.FormatPart.TheVariants as part
use Rattle.tcl_pages.specs.declared.formats.FormatStage.{FormatStage}
use Rattle.tcl_pages.specs.declared.formats.FormatStage.TheVariants as stage
use Rattle.tcl_pages.specs.declared.formats.FormatStep.{FormatStep}
use Rattle.tcl_pages.specs.declared.formats.Layout.{Layout}
use Rattle.tcl_pages.specs.declared.formats.NumberForm.{NumberForm}
use Rattle.tcl_pages.specs.declared.formats.NumberForm.TheVariants as form
use Rattle.tcl_pages.specs.declared.formats.Size.{Size}
use Rattle.tcl_pages.specs.declared.formats.Size.TheVariants as size

-- ---- the parts of a format

abbrev pub no_field : Field
no_field = record { minus = false; plus = false; gap = false; zeros = false; hash = false; width = size.Given 0; precision = None; conversion = conversion.Percent }

abbrev pub on_to : FormatStage → Field → FormatStep
on_to next f = record { part = None; stage = next; field = f }

-- the end of a part
abbrev pub ends : FormatPart → FormatStep
ends p = record { part = Some p; stage = stage.Plain; field = no_field }

abbrev pub percent : ℕ
percent = 37

-- d i u x X o b c s %
abbrev pub conversion_of : ℕ → Option Conversion
conversion_of c =
    if (c == 100) || (c == 105) then Some (conversion.Number form.Signed)
    else if c == 117 then Some (conversion.Number form.Unsigned)
    else if c == 120 then Some (conversion.Number form.Hex)
    else if c == 88 then Some (conversion.Number form.UpperHex)
    else if c == 111 then Some (conversion.Number form.Octal)
    else if c == 98 then Some (conversion.Number form.Binary)
    else if c == 99 then Some conversion.Character
    else if c == 115 then Some conversion.Text
    else if c == percent then Some conversion.Percent
    else None

abbrev pub converted : Field → ℕ → Option Conversion → FormatStep
converted f c None = ends (part.NoConversion c)
converted f c (Some k) = ends (part.Field (record f { conversion = k }))

abbrev pub conversion_next : Field → ℕ → FormatStep
conversion_next f c = converted f c (conversion_of c)

-- `l` or `ll`, which mean nothing
abbrev pub modifier_next : Field → ℕ → FormatStep
modifier_next f c = if c == 108 then on_to stage.BehindL f else conversion_next f c

abbrev pub second_modifier_next : Field → ℕ → FormatStep
second_modifier_next f c = if c == 108 then on_to stage.BehindLl f else conversion_next f c

abbrev pub dot_next : Field → ℕ → FormatStep
dot_next f c = if c == 46 then on_to stage.Precision (record f { precision = Some (size.Given 0) }) else modifier_next f c

abbrev pub digit_of : ℕ → ℕ
digit_of c = c - 48

-- one more digit: a size is counted up to the first that is too large
abbrev pub more_digits : Size → ℕ → Size
more_digits (size.Given n) c = size.Given (min (n * 10 + digit_of c) 2147483648)
more_digits size.FromArgument c = size.FromArgument

abbrev pub more_precision : Option Size → ℕ → Option Size
more_precision None c = Some (size.Given (digit_of c))
more_precision (Some given) c = Some (more_digits given c)

abbrev pub width_next : Field → ℕ → FormatStep
width_next f c =
    if c == star then on_to stage.BehindWidth (record f { width = size.FromArgument })
    else if is_digit c then on_to stage.Width (record f { width = size.Given (digit_of c) })
    else dot_next f c

-- the flags are - + space 0 #
abbrev pub flag_next : Field → ℕ → FormatStep
flag_next f c =
    if c == 45 then on_to stage.Flags (record f { minus = true })
    else if c == 43 then on_to stage.Flags (record f { plus = true })
    else if c == space then on_to stage.Flags (record f { gap = true })
    else if c == 48 then on_to stage.Flags (record f { zeros = true })
    else if c == number_sign then on_to stage.Flags (record f { hash = true })
    else width_next f c

abbrev pub plain_next : ℕ → FormatStep
plain_next c = if c == percent then on_to stage.Flags no_field else ends (part.Character c)

abbrev pub more_width : Field → ℕ → FormatStep
more_width f c = if is_digit c then on_to stage.Width (record f { width = more_digits f.width c }) else dot_next f c

abbrev pub precise_next : Field → ℕ → FormatStep
precise_next f c = if is_digit c then on_to stage.PrecisionDigits (record f { precision = more_precision f.precision c }) else modifier_next f c

abbrev pub precision_next : Field → ℕ → FormatStep
precision_next f c = if c == star then on_to stage.BehindPrecision (record f { precision = Some size.FromArgument }) else precise_next f c

abbrev pub next_of : FormatStage → Field → ℕ → FormatStep
next_of stage.Plain f c = plain_next c
next_of stage.Flags f c = flag_next f c
next_of stage.Width f c = more_width f c
next_of stage.BehindWidth f c = dot_next f c
next_of stage.Precision f c = precision_next f c
next_of stage.PrecisionDigits f c = precise_next f c
next_of stage.BehindPrecision f c = modifier_next f c
next_of stage.BehindL f c = second_modifier_next f c
next_of stage.BehindLl f c = conversion_next f c

-- ---- a field's text

abbrev pub spaces : ℕ → Text
spaces n = replicate n space

-- spaces up to the width, at the side that the flag `-` says
abbrev pub padded : Layout → Text → Text
padded s t = if s.left then t ++ spaces (s.width - length t) else spaces (s.width - length t) ++ t

-- a precision is the least count of digits; the flag `0` fills up to the width, but not with `-` or a precision
abbrev pub least_digits : Field → Layout → ℕ → Option ℕ → ℕ
least_digits f s front (Some p) = p
least_digits f s front None = if f.zeros && not s.left then s.width - front else 0

abbrev pub filled : ℕ → Text → Text
filled n t = replicate (n - length t) 48 ++ t

-- digits behind a sign or a prefix
abbrev pub number_text_of : Field → Layout → Text → Text → Text
number_text_of f s front ds = padded s (front ++ filled (least_digits f s (length front) s.precision) ds)

-- a negative number is its two's complement of 64 bits
abbrev pub unsigned : ℤ → ℕ
unsigned (pos n) = n
unsigned (negsuc n) = 2 ^ 64 - suc n

abbrev pub sign_of_field : Field → ℤ → Text
sign_of_field f (pos n) = if f.plus then literal "+" else if f.gap then literal " " else []
sign_of_field f (negsuc n) = literal "-"

abbrev pub prefix : Field → Text → ℤ → Text
prefix f t z = if f.hash && not (unsigned z == 0) then t else []

-- a sign or a prefix
abbrev pub front_of : Field → NumberForm → ℤ → Text
front_of f form.Signed z = sign_of_field f z
front_of f form.Unsigned z = []
front_of f form.Hex z = prefix f (literal "0x") z
front_of f form.UpperHex z = prefix f (literal "0X") z
front_of f form.Octal z = prefix f (literal "0") z
front_of f form.Binary z = prefix f (literal "0b") z

abbrev pub digits_of : NumberForm → ℤ → Text
digits_of form.Signed z = digits 10 false (unsigned_abs z)
digits_of form.Unsigned z = digits 10 false (unsigned z)
digits_of form.Hex z = digits 16 false (unsigned z)
digits_of form.UpperHex z = digits 16 true (unsigned z)
digits_of form.Octal z = digits 8 false (unsigned z)
digits_of form.Binary z = digits 2 false (unsigned z)

abbrev pub number_field : Field → Layout → NumberForm → ℤ → Text
number_field f s kind z = number_text_of f s (front_of f kind z) (digits_of kind z)

-- the character of a number, and U+FFFD where there is none
abbrev pub scalar : ℤ → ℕ
scalar (pos n) = if nat_lt n 55296 || (nat_le 57344 n && nat_le n 1114111) then n else 65533
scalar (negsuc n) = 65533

abbrev pub first_characters : Option ℕ → Text → Text
first_characters None t = t
first_characters (Some n) t = take n t

-- ---- arguments

abbrev pub Taken : Type 0 → Type 0
Taken A = Answer (A × List Text)

abbrev pub bad_field : ℕ → Text
bad_field c = about (literal "bad field specifier") (c ∷ []) (literal "")

abbrev pub argument : List Text → Taken Text
argument [] = Err (literal "not enough arguments for all format specifiers")
argument (w ∷ ws) = Ok (w, ws)

abbrev pub size_within : ℕ → Answer ℕ
size_within n = if nat_le n 2147483647 then Ok n else Err too_large

-- a negative width is the flag `-` and its size
abbrev pub width_from : Field → ℤ → Answer Layout
width_from f (pos n) = size_within n >>= λ w. Ok (record { left = f.minus; width = w; precision = None })
width_from f (negsuc n) = size_within (suc n) >>= λ w. Ok (record { left = true; width = w; precision = None })

-- a negative precision is as none
abbrev pub precision_from : Layout → ℤ → Answer Layout
precision_from s (pos n) = size_within n >>= λ p. Ok (record s { precision = Some p })
precision_from s (negsuc n) = Ok s

abbrev pub by_text : List Text → (Text → Text) → Taken Text
by_text ws show = do
  a ← argument ws
  Ok (show a.0, a.1)

abbrev pub is_plain : FormatStage → Bool
is_plain stage.Plain = true
is_plain _ = false

abbrev pub unended : Text
unended = literal "format string ended in middle of field specifier"

-- behind what is shown
abbrev pub with_shown : Text → Answer Text → Answer Text
with_shown t more = more >>= λ rest. Ok (t ++ rest)

module _ (dialect : Dialect) where
  abbrev pub number_argument : List Text → Taken ℤ
  number_argument ws = do
    a ← argument ws
    z ← number dialect a.0
    Ok (z, a.1)

  abbrev pub width_taken : Field → Size → List Text → Taken Layout
  width_taken f (size.Given n) ws = size_within n >>= λ w. Ok (record { left = f.minus; width = w; precision = None }, ws)
  width_taken f size.FromArgument ws = do
    z ← number_argument ws
    s ← width_from f z.0
    Ok (s, z.1)

  abbrev pub precision_taken : Layout → Option Size → List Text → Taken Layout
  precision_taken s None ws = Ok (s, ws)
  precision_taken s (Some (size.Given n)) ws = size_within n >>= λ p. Ok (record s { precision = Some p }, ws)
  precision_taken s (Some size.FromArgument) ws = do
    z ← number_argument ws
    t ← precision_from s z.0
    Ok (t, z.1)

  abbrev pub by_number : List Text → (ℤ → Text) → Taken Text
  by_number ws show = do
    z ← number_argument ws
    Ok (show z.0, z.1)

  -- what a conversion shows
  abbrev pub shown : Field → Layout → Conversion → List Text → Taken Text
  shown f s (conversion.Number kind) ws = by_number ws (number_field f s kind)
  shown f s conversion.Character ws = by_number ws (λ z. padded s (scalar z ∷ []))
  shown f s conversion.Text ws = by_text ws (λ t. padded s (first_characters s.precision t))
  shown f s conversion.Percent ws = Ok (literal "%", ws)

  -- a width and a precision stand in front of the letter, and are taken first
  abbrev pub sizes_taken : Field → List Text → Taken Layout
  sizes_taken f ws = do
    w ← width_taken f f.width ws
    precision_taken w.0 f.precision w.1

  abbrev pub field_taken : Field → List Text → Taken Text
  field_taken f ws = do
    s ← sizes_taken f ws
    shown f s.0 f.conversion s.1

  -- what is shown by a part, f being what was read of a field in front of its last character
  abbrev pub part_taken : Field → FormatPart → List Text → Taken Text
  part_taken f (part.Character c) ws = Ok (c ∷ [], ws)
  part_taken f (part.Field g) ws = field_taken g ws
  part_taken f (part.NoConversion c) ws = sizes_taken f ws >>= λ s. Err (bad_field c)

  abbrev pub step_taken : Field → Option FormatPart → List Text → Taken Text
  step_taken f None ws = Ok ([], ws)
  step_taken f (Some p) ws = part_taken f p ws

  -- a format may end outside of fields alone
  abbrev pub at_end : FormatStage → Field → List Text → Answer Text
  at_end here f ws = if is_plain here then Ok [] else (sizes_taken f ws >>= λ s. Err unended)

  -- character by character, from a stage on
  abbrev pub formatted : FormatStage → Field → Text → List Text → Answer Text
  formatted here f [] ws = at_end here f ws
  formatted here f (c ∷ cs) ws =
      step_taken f (next_of here f c).part ws >>= λ s. with_shown s.0 (formatted (next_of here f c).stage (next_of here f c).field cs s.1)

  -- format formatString ?arg ...?: more arguments are passed over
  abbrev pub format_page : List Text → Answer Text
  format_page (t ∷ ws) = formatted stage.Plain no_field t ws
  format_page [] = usage (literal "format formatString ?arg ...?")
