-- The options of a return(n), as they are joined.
use Rattle.std.specs.Prelude.{◌≡◌, ℕ, [], get_or, Option, Some, None, Result, Ok, Err, if◌then◌else◌}
use Rattle.tcl_chars.specs.Answers.{Stops}
use Rattle.tcl_chars.specs.Texts.{literal}
use Rattle.tcl_chars.specs.declared.fault.Fault.{Fault}
use Rattle.tcl_pages.specs.Answers.{Answer}
use Rattle.tcl_pages.specs.Dictionaries.{Pairs}
use Rattle.tcl_pages.specs.Texts.{Text, same_text}
use Rattle.tcl_meaning.specs.Codes.{options_joined, size_of}
use Rattle.tcl_meaning.specs.declared.code.Code.{Code}
use Rattle.tcl_meaning.specs.declared.code.Code.TheVariants as code

-- those found so far, with these behind them
abbrev pub joined : Pairs → Pairs → Answer Pairs
joined found ps = options_joined (size_of ps) found ps

-- What is meant is what these make of those found, and of the options that are left behind them; or the fault is.
abbrev pub Joins : Result Pairs Fault → Pairs → Answer Pairs → Type 0
Joins (Ok found) left meant = meant ≡ joined found left
Joins (Err fault) left meant = Stops fault meant

-- the pair at a place
abbrev pub pair_at : Pairs → ℕ → Text × Text
pair_at ps i = get_or ps i ([], [])

-- the code of a name
abbrev pub code_named : Text → Option Code
code_named t =
    if same_text t (literal "ok") then Some code.Ok
    else if same_text t (literal "error") then Some code.Error
    else if same_text t (literal "return") then Some code.Return
    else if same_text t (literal "break") then Some code.Break
    else if same_text t (literal "continue") then Some code.Continue
    else None
