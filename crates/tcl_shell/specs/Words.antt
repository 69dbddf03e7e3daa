-- The program's words: `?-tcl9? ?-budget N? ?-slice N? ?file arg ...?`.
use Rattle.std.specs.Prelude.{ℕ, zero, suc, ◌+◌, ◌-◌, ◌^◌, List, [], ◌∷◌, Option, Some, None, if◌then◌else◌}
use Rattle.tcl_chars.specs.Texts.{literal, same_text}
use Rattle.tcl_chars.specs.Whole.{decimal_of}
use Rattle.tcl_chars.specs.declared.numbers.Decimal.{Decimal}
use Rattle.tcl_chars.specs.declared.numbers.Decimal.TheVariants as decimal
use Rattle.tcl_chars.specs.declared.numbers.Dialect.{Dialect}
use Rattle.tcl_chars.specs.declared.numbers.Dialect.TheVariants.{Tcl86, Tcl9}
use Rattle.tcl_shell.specs.declared.words.Request.{Request}

-- a budget: decimal digits, at most 2^63 - 1
abbrev pub within_bounds : Decimal → Option ℕ
within_bounds (decimal.Number n) = Some n
within_bounds decimal.TooLarge = None
within_bounds decimal.Not = None

abbrev pub budget_of : List ℕ → Option ℕ
budget_of word = within_bounds (decimal_of word)

-- a slice, the number of units of the budget that are handed out at a time: the same, but not 0
abbrev pub unless_zero : Option ℕ → Option ℕ
unless_zero None = None
unless_zero (Some zero) = None
unless_zero (Some (suc n)) = Some (suc n)

abbrev pub slice_of : List ℕ → Option ℕ
slice_of word = unless_zero (budget_of word)

-- the budget where none is given
abbrev pub most_budget : ℕ
most_budget = 2 ^ 63 - 1

-- The file that stands at a place is asked for. `-tcl9` is no file: the option stands in front of all others, once.
abbrev pub with_file : Dialect → (budget slice place : ℕ) → List ℕ → Option Request
with_file dialect budget slice place word =
    if same_text word (literal "-tcl9") then None else Some (record { dialect = dialect; budget = budget; slice = slice; file = Some place })

-- with a slice, if it is one
abbrev pub sliced_file : Dialect → (budget place : ℕ) → List ℕ → Option ℕ → Option Request
sliced_file dialect budget place word None = None
sliced_file dialect budget place word (Some slice) = with_file dialect budget slice place word

-- what the words behind `-slice` ask, which stand at a place: there is a file
abbrev pub sliced : Dialect → (budget place : ℕ) → List (List ℕ) → Option Request
sliced dialect budget place [] = None
sliced dialect budget place (number ∷ []) = None
sliced dialect budget place (number ∷ file ∷ args) = sliced_file dialect budget (place + 1) file (slice_of number)

-- What the words at a place ask, behind a budget: a session where there are none, else the file; a slice of 0 is the whole budget.
abbrev pub asked : Dialect → (budget place : ℕ) → List (List ℕ) → Option Request
asked dialect budget place [] = Some (record { dialect = dialect; budget = budget; slice = 0; file = None })
asked dialect budget place (word ∷ words) = if same_text word (literal "-slice") then sliced dialect budget (place + 1) words else with_file dialect budget 0 place word

-- with a budget, if it is one
abbrev pub asked_with : Dialect → ℕ → Option ℕ → List (List ℕ) → Option Request
asked_with dialect place None words = None
asked_with dialect place (Some budget) words = asked dialect budget place words

-- what the words behind `-budget` ask, which stand at a place
abbrev pub budgeted : Dialect → ℕ → List (List ℕ) → Option Request
budgeted dialect place [] = None
budgeted dialect place (number ∷ words) = asked_with dialect (place + 1) (budget_of number) words

-- what the words at a place ask, in a dialect
abbrev pub asked_in : Dialect → ℕ → List (List ℕ) → Option Request
asked_in dialect place [] = asked dialect most_budget place []
asked_in dialect place (word ∷ words) = if same_text word (literal "-budget") then budgeted dialect (place + 1) words else asked dialect most_budget place (word ∷ words)

-- What the words ask, if they are the program's usage: in the dialect of Tcl 9 behind `-tcl9`, else in that of Tcl 8.6.
unfoldable pub request_of : List (List ℕ) → Option Request
request_of [] = asked_in Tcl86 0 []
request_of (word ∷ words) = if same_text word (literal "-tcl9") then asked_in Tcl9 1 words else asked_in Tcl86 0 (word ∷ words)

-- where the file stands, if one is asked for
abbrev pub file_of : Option Request → Option ℕ
file_of None = None
file_of (Some request) = request.file
