-- What the program tclwhere does for its words and its file, and what it answers.
use Rattle.std.specs.Prelude.{◌≡◌, ℕ, Bool, true, false, not, List, [], ◌∷◌, Option, Some, None, codes}
use Rattle.tcl_chars.specs.Place.{begins}
use Rattle.tcl_chars.specs.declared.numbers.Dialect.TheVariants.{Tcl86}
use Rattle.tcl_shell.specs.Lines.{SaidIf, Told}
use Rattle.tcl_shell.specs.Program.{Devices, Refused, RunsFile}
use Rattle.tcl_shell.specs.Words.{most_budget}

-- Does a file's name stand in front, with no `-` as its first character?
abbrev pub is_file : List (List ℕ) → Bool
is_file [] = false
is_file (word ∷ words) = not (begins 45 word)

abbrev pub usage_line : List ℕ
usage_line = codes "usage: tclwhere FILE ?arg ...?\n"

-- The file is run as tclint runs it, and the status is the same; behind what is then on standard error stand lines, or nothing.
pub record RunsBehind {R W E : Type 0} (words : List (List ℕ)) (file : Option (List ℕ)) (status : ℕ) (old new : Devices R W E) : Type 0 where
  -- standard error before these lines
  pub before : Told E
  pub lines : Option (List ℕ)
  pub runs : RunsFile Tcl86 most_budget words file status old (record new { err = before })
  pub says : SaidIf lines before new.err

-- What the program does for its words, in UTF-8, whether they begin with a file's name or not, and the bytes of the file, if it could be
-- read.
abbrev pub RunsWords : {R W E : Type 0} → Bool → List (List ℕ) → Option (List ℕ) → ℕ → Devices R W E → Devices R W E → Type 0
RunsWords true words file status old new = RunsBehind words file status old new
RunsWords false words file status old new = Refused usage_line status old new
