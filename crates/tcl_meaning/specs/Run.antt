-- A whole run: the arguments are put into variables, and the script is run. In a dialect of numbers.
use Rattle.std.specs.Prelude.{ℕ, false, List, [], ◌∷◌, length, Option}
use Rattle.std.specs.FinMap as map
use Rattle.tcl_chars.specs.declared.numbers.Dialect.{Dialect}
use Rattle.tcl_chars.specs.Texts.{literal}
use Rattle.tcl_list.specs.Written.{written}
use Rattle.tcl_pages.specs.Texts.{Text, count_text}
use Rattle.tcl_meaning.specs.Completions.{Completion, nothing, top}
use Rattle.tcl_meaning.specs.Frames.{text, Variables, global_frame}
use Rattle.tcl_meaning.specs.State.{Store, Channels, State}
use Rattle.tcl_meaning.specs.Effects.{Got, Gives, on_got}
use Rattle.tcl_meaning.specs.Tasks.{Script}
use Rattle.tcl_meaning.specs.Pages.{first_commands}
use Rattle.tcl_meaning.specs.Script as meaning

-- `argv0` is the first word, `argv` the list of the others, `argc` their count: tclsh(1), VARIABLES.
abbrev pub args_put : Text → List Text → Variables
args_put name args =
    map.insert (map.insert (map.insert map.empty (literal "argv0") (text name)) (literal "argv") (text (written args))) (literal "argc") (text (count_text (length args)))

abbrev pub argument_variables : List Text → Variables
argument_variables [] = args_put [] []
argument_variables (name ∷ args) = args_put name args

abbrev pub first_store : Variables → Store
first_store vs = record { frames = global_frame vs ∷ []; active = 0; commands = first_commands }

abbrev pub first_channels : Option Text → Option (List ℕ) → Option (List ℕ) → Channels
first_channels input out err = record { input = input; met_end = false; out = out; err = err }

module _ (dialect : Dialect) where
  -- what a script comes to that nothing runs
  abbrev pub run_script : Text → State → Got Completion
  run_script script s = on_got (meaning.Run dialect (Script 1 nothing script) s) (λ c after. Gives (top c) after)

  abbrev pub run_with_args : Text → List Text → Channels → ℕ → Got Completion
  run_with_args script args channels budget = run_script script (record { store = first_store (argument_variables args); channels = channels; units = budget })
