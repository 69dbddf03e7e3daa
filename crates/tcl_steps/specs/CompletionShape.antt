-- Completions of the code, as the definition has them.
use Rattle.std.specs.Prelude.{ℕ, List, []}
use Rattle.tcl_meaning.specs.Completions.{Completion}
use Rattle.tcl_meaning.specs.declared.code.Code.{Code}
use Rattle.tcl_meaning.specs.declared.code.Code.TheVariants as code
use Rattle.tcl_pages.specs.Texts.{Text}
use Rattle.tcl_steps.specs.declared.completion.Completion.TheInside as kept
use Rattle.tcl_steps.specs.declared.completion.Ending.{Ending}
use Rattle.tcl_steps.specs.declared.completion.Ending.TheVariants as ending

abbrev pub code_of : Ending → Code
code_of ending.Ok = code.Ok
code_of ending.Error = code.Error
code_of ending.Return = code.Return
code_of ending.Break = code.Break
code_of ending.Continue = code.Continue
code_of (ending.Other z) = code.Other z
code_of (ending.Waiting n) = code.Ok
code_of (ending.Given given) = given.value.code

abbrev pub level_of : Ending → ℕ
level_of (ending.Waiting n) = n
level_of (ending.Given given) = given.value.level
level_of _ = 0

abbrev pub options_of : Ending → List (Text × Text)
options_of (ending.Given given) = given.value.options.items
options_of _ = []

abbrev pub completion_of : kept.Inside → Completion
completion_of c = record { code = code_of c.ending; level = level_of c.ending; result = c.result; options = options_of c.ending }
