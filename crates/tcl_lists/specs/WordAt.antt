-- The words behind a command's name.
use Rattle.std.specs.Prelude.{ℕ, List, [], get_or, length, Ok, Err}
use Rattle.tcl_chars.specs.declared.numbers.Dialect.{Dialect}
use Rattle.tcl_list.specs.Elements.{elements_of}
use Rattle.tcl_pages.specs.Answers.{Answer, ◌>>=◌}
use Rattle.tcl_pages.specs.Lists.{index, element_or_empty}

-- the word at a place
abbrev pub word : List (List ℕ) → ℕ → List ℕ
word ws i = get_or ws i []

-- the element of a list at the place that one index says, or the empty text: a step of lindex(n)
abbrev pub item_by : Dialect → List ℕ → List ℕ → Answer (List ℕ)
item_by dialect list i = do
  es ← elements_of list
  place ← index dialect i (length es)
  Ok (element_or_empty es place)

-- the fault of a list, and where it has none this message
abbrev pub fault_in_front : List ℕ → List ℕ → Answer (List ℕ)
fault_in_front list message = do
  es ← elements_of list
  Err message
