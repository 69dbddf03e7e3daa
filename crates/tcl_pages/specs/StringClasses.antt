-- string(n), string is. In a dialect of numbers. Letters and digits are those of ASCII (the profile).
use Rattle.std.specs.Prelude.{ℕ, Bool, true, false, not, ◌||◌, ◌&&◌, nat_le, nat_lt, List, [], ◌∷◌, Option, Some, None, option_map, unwrap_or, Ok, Err, if◌then◌else◌}
use Rattle.tcl_chars.specs.Classes.{is_list_space}
use Rattle.tcl_chars.specs.Messages.{about}
use Rattle.tcl_chars.specs.Texts.{literal}
use Rattle.tcl_chars.specs.Truth.{truth_of}
use Rattle.tcl_chars.specs.Whole.{whole_of}
use Rattle.tcl_chars.specs.declared.numbers.Dialect.{Dialect}
use Rattle.tcl_chars.specs.declared.numbers.Whole.{Whole}
use Rattle.tcl_chars.specs.declared.numbers.Whole.TheVariants as whole
use Rattle.tcl_chars.specs.declared.truths.Truth.{Truth}
use Rattle.tcl_chars.specs.declared.truths.Truth.TheVariants as truth
use Rattle.tcl_list.specs.Elements.{elements_of}
use Rattle.tcl_pages.specs.Answers.{Answer, ◌>>=◌}
use Rattle.tcl_pages.specs.Arguments.{two_or_three}
use Rattle.tcl_pages.specs.Results.{truth_text}
use Rattle.tcl_pages.specs.Texts.{Text, same_text}
use Rattle.tcl_pages.specs.declared.classes.CharacterClass.{CharacterClass}
use Rattle.tcl_pages.specs.declared.classes.CharacterClass.TheVariants as character
use Rattle.tcl_pages.specs.declared.classes.StringClass.{StringClass}
use Rattle.tcl_pages.specs.declared.classes.StringClass.TheVariants as class

-- ---- characters

abbrev pub is_digit : ℕ → Bool
is_digit c = nat_le 48 c && nat_le c 57

abbrev pub is_lower : ℕ → Bool
is_lower c = nat_le 97 c && nat_le c 122

abbrev pub is_upper : ℕ → Bool
is_upper c = nat_le 65 c && nat_le c 90

abbrev pub is_alpha : ℕ → Bool
is_alpha c = is_lower c || is_upper c

abbrev pub is_alnum : ℕ → Bool
is_alnum c = is_alpha c || is_digit c

abbrev pub is_xdigit : ℕ → Bool
is_xdigit c = is_digit c || (nat_le 97 c && nat_le c 102) || (nat_le 65 c && nat_le c 70)

abbrev pub is_ascii : ℕ → Bool
is_ascii c = nat_lt c 128

abbrev pub every : (ℕ → Bool) → Text → Bool
every is [] = true
every is (c ∷ cs) = is c && every is cs

-- ---- texts

abbrev pub is_number : Whole → Bool
is_number (whole.Number z) = true
is_number whole.TooLarge = false
is_number whole.Not = false

abbrev pub is_yes : Truth → Bool
is_yes truth.Yes = true
is_yes truth.No = false
is_yes truth.TooLarge = false
is_yes truth.Not = false

abbrev pub is_no : Truth → Bool
is_no truth.No = true
is_no truth.Yes = false
is_no truth.TooLarge = false
is_no truth.Not = false

abbrev pub is_read : {A : Type 0} → Answer A → Bool
is_read (Ok a) = true
is_read (Err message) = false

-- the characters of a class
abbrev pub character_is : CharacterClass → ℕ → Bool
character_is character.Alnum = is_alnum
character_is character.Alpha = is_alpha
character_is character.Ascii = is_ascii
character_is character.Digit = is_digit
character_is character.Lower = is_lower
character_is character.Space = is_list_space
character_is character.Upper = is_upper
character_is character.Xdigit = is_xdigit

-- the class that a word names
abbrev pub characters_named : Text → Option CharacterClass
characters_named word =
    if same_text word (literal "alnum") then Some character.Alnum
    else if same_text word (literal "alpha") then Some character.Alpha
    else if same_text word (literal "ascii") then Some character.Ascii
    else if same_text word (literal "digit") then Some character.Digit
    else if same_text word (literal "lower") then Some character.Lower
    else if same_text word (literal "space") then Some character.Space
    else if same_text word (literal "upper") then Some character.Upper
    else if same_text word (literal "xdigit") then Some character.Xdigit
    else None

abbrev pub class_named : Text → Option StringClass
class_named word =
    if same_text word (literal "boolean") then Some class.Boolean
    else if same_text word (literal "false") then Some class.False
    else if same_text word (literal "integer") then Some class.Integer
    else if same_text word (literal "list") then Some class.List
    else if same_text word (literal "true") then Some class.True
    else if same_text word (literal "wideinteger") then Some class.Wideinteger
    else option_map class.Characters (characters_named word)

abbrev pub bad_class : Text → Text
bad_class word = about (literal "bad class") word
    (literal ": must be alnum, alpha, ascii, boolean, digit, false, integer, list, lower, space, true, upper, wideinteger, or xdigit")

abbrev pub class_or : Text → Option StringClass → Answer StringClass
class_or word None = Err (bad_class word)
class_or word (Some named) = Ok named

-- behind the class: the text alone, or `-strict` in front of it
abbrev pub is_strict : Text → Option Text → Answer Bool
is_strict t None = Ok false
is_strict option (Some t) = if same_text option (literal "-strict") then Ok true else Err (about (literal "bad option") option (literal ": must be -strict"))

-- An empty text is of each class, unless `-strict` is given.
abbrev pub belongs : Bool → (Text → Bool) → Text → Bool
belongs strict is [] = not strict
belongs strict is (c ∷ cs) = is (c ∷ cs)

module _ (dialect : Dialect) where
  -- is a text of the class
  abbrev pub text_is : StringClass → Text → Bool
  text_is (class.Characters characters) t = every (character_is characters) t
  text_is class.Boolean t = is_yes (truth_of dialect t) || is_no (truth_of dialect t)
  text_is class.False t = is_no (truth_of dialect t)
  text_is class.Integer t = is_number (whole_of dialect t)
  text_is class.List t = is_read (elements_of t)
  text_is class.True t = is_yes (truth_of dialect t)
  text_is class.Wideinteger t = is_number (whole_of dialect t)

  -- string is class ?-strict? str
  abbrev pub string_is : List Text → Answer Text
  string_is ws = do
    w ← two_or_three (literal "string is class ?-strict? str") ws
    named ← class_or w.0 (class_named w.0)
    strict ← is_strict w.1 w.2
    Ok (truth_text (belongs strict (text_is named) (unwrap_or w.2 w.1)))
