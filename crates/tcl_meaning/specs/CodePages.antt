-- The commands of codes: catch(n), return(n), error(n), break(n), continue(n), exit(n). In a dialect of numbers.
use Rattle.std.specs.Prelude.{List, [], ◌∷◌}
use Rattle.tcl_chars.specs.declared.numbers.Dialect.{Dialect}
use Rattle.tcl_chars.specs.Texts.{literal}
use Rattle.tcl_meaning.specs.declared.code.Code.TheVariants as code
use Rattle.tcl_pages.specs.Texts.{Text, number_text}
use Rattle.tcl_meaning.specs.Completions.{Completion, normal, failure, ended, code_now, code_number, options_text}
use Rattle.tcl_meaning.specs.Effects.{Here, Exit}
use Rattle.tcl_meaning.specs.Value.{◌>>=◌, judged}
use Rattle.tcl_meaning.specs.Variables.{set_all}
use Rattle.tcl_meaning.specs.Tasks.{Run, Catching}
use Rattle.tcl_meaning.specs.Asking.{Asks, done, ask, usage}
use Rattle.tcl_meaning.specs.Codes.{return_shape, return_of, error_options, status_of}

-- catch script ?resultVarName? ?optionVarName?
unfoldable pub catch_page : List Text → Asks
catch_page (script ∷ []) = ask (Run Here script (Catching []))
catch_page (script ∷ r ∷ []) = ask (Run Here script (Catching (r ∷ [])))
catch_page (script ∷ r ∷ o ∷ []) = ask (Run Here script (Catching (r ∷ o ∷ [])))
catch_page _ = usage (literal "catch script ?resultVarName? ?optionVarName?")

-- the result and the options go into the variables, and the answer is the code
abbrev pub after_catch : List Text → Completion → Asks
after_catch names c = do
  _ ← set_all names (c.result ∷ options_text c ∷ [])
  done (normal (number_text (code_number (code_now c))))

unfoldable pub break_page : List Text → Asks
break_page [] = done (ended code.Break [])
break_page _ = usage (literal "break")

unfoldable pub continue_page : List Text → Asks
continue_page [] = done (ended code.Continue [])
continue_page _ = usage (literal "continue")

abbrev pub error_with : Text → List Text → Completion
error_with message given = record (failure message) { options = error_options given }

-- error message ?errorInfo? ?errorCode?
unfoldable pub error_page : List Text → Asks
error_page (message ∷ []) = done (error_with message [])
error_page (message ∷ info ∷ []) = done (error_with message (info ∷ []))
error_page (message ∷ info ∷ c ∷ []) = done (error_with message (info ∷ c ∷ []))
error_page _ = usage (literal "error message ?errorInfo? ?errorCode?")

module _ (dialect : Dialect) where
  -- return ?-option value ...? ?result?
  unfoldable pub return_page : List Text → Asks
  return_page ws = judged (return_of dialect (return_shape ws)) >>= done

  -- exit ?returnCode?
  unfoldable pub exit_page : List Text → Asks
  exit_page [] = Exit 0
  exit_page (t ∷ []) = judged (status_of dialect t) >>= λ n. Exit n
  exit_page _ = usage (literal "exit ?returnCode?")
