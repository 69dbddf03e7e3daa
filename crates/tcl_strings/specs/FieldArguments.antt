-- The arguments that a field of a format takes (format(n)).
use Rattle.std.specs.Prelude.{◌≡◌, ◌≤◌, ◌<◌, ℕ, ◌+◌, List, ◌++◌, length, Option, Some, None, Ok, Err}
use Rattle.tcl_chars.specs.Texts.{literal}
use Rattle.tcl_chars.specs.declared.numbers.Dialect.{Dialect}
use Rattle.tcl_pages.specs.Formats.{Taken, field_taken}
use Rattle.tcl_pages.specs.Texts.{Text}
use Rattle.tcl_pages.specs.declared.formats.Conversion.{Conversion}
use Rattle.tcl_pages.specs.declared.formats.Conversion.TheVariants as conversion
use Rattle.tcl_pages.specs.declared.formats.Field.{Field}
use Rattle.tcl_pages.specs.declared.formats.Size.{Size}
use Rattle.tcl_pages.specs.declared.formats.Size.TheVariants as size

-- one for `*`
abbrev pub size_arguments : Size → ℕ
size_arguments (size.Given n) = 0
size_arguments size.FromArgument = 1

abbrev pub precision_arguments : Option Size → ℕ
precision_arguments None = 0
precision_arguments (Some s) = size_arguments s

-- one to be converted, but none for `%`
abbrev pub converted_arguments : Conversion → ℕ
converted_arguments conversion.Percent = 0
converted_arguments _ = 1

abbrev pub arguments_of : Field → ℕ
arguments_of f = size_arguments f.width + precision_arguments f.precision + converted_arguments f.conversion

-- The first n texts of ws are taken, those behind them are left, and what is answered is the same whatever stands behind.
pub record TakesFront {A : Type 0} (take : List Text → Taken A) (n : ℕ) (ws left : List Text) (a : A) : Type 0 where
  pub taken : List Text
  pub in_order : ws ≡ taken ++ left
  pub count : length taken ≡ n
  pub alone : (more : List Text) → take (taken ++ more) ≡ Ok (a, more)

-- One of the first n texts is refused, whatever stands behind it, or there are fewer.
pub data FrontFault {A : Type 0} (take : List Text → Taken A) (n : ℕ) (ws : List Text) : Text → Type 0 where
  refused : (taken rest : List Text) (m : Text) → ws ≡ taken ++ rest → length taken ≤ n → ((more : List Text) → take (taken ++ more) ≡ Err m) → FrontFault take n ws m
  wanting : length ws < n → FrontFault take n ws (literal "not enough arguments for all format specifiers")

-- ---- laws

-- What a field shows is a function of the field and of its own arguments: the next ones, as many as it has `*` and one to be
-- converted.
abbrev pub FieldTakesItsArguments : Type 0
FieldTakesItsArguments = (dialect : Dialect) (f : Field) (ws left : List Text) (shows : Text) → field_taken dialect f ws ≡ Ok (shows, left) → TakesFront (field_taken dialect f) (arguments_of f) ws left shows

-- Its fault is one of these arguments, or that there are too few.
abbrev pub FieldFaultIsItsArguments : Type 0
FieldFaultIsItsArguments = (dialect : Dialect) (f : Field) (ws : List Text) (m : Text) → field_taken dialect f ws ≡ Err m → FrontFault (field_taken dialect f) (arguments_of f) ws m
