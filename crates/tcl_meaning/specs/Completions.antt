-- How commands and scripts end: return(n), RETURN CODES.
use Rattle.std.specs.Prelude.{ℕ, zero, suc, Bool, ℤ, pos, List, [], ◌∷◌, ◌++◌, if◌then◌else◌}
use Rattle.std.specs.Ordering.{int_eq}
use Rattle.tcl_chars.specs.Messages.{about}
use Rattle.tcl_chars.specs.Texts.{literal}
use Rattle.tcl_list.specs.Written.{written}
use Rattle.tcl_meaning.specs.declared.code.Code.{Code}
use Rattle.tcl_meaning.specs.declared.code.Code.TheVariants as code
use Rattle.tcl_pages.specs.DictPages.{flat}
use Rattle.tcl_pages.specs.Texts.{Text, count_text, number_text}

-- the number of a code, and the code of a number
abbrev pub code_number : Code → ℤ
code_number code.Ok = pos 0
code_number code.Error = pos 1
code_number code.Return = pos 2
code_number code.Break = pos 3
code_number code.Continue = pos 4
code_number (code.Other z) = z

abbrev pub code_of : ℤ → Code
code_of z =
    if int_eq z (pos 0) then code.Ok
    else if int_eq z (pos 1) then code.Error
    else if int_eq z (pos 2) then code.Return
    else if int_eq z (pos 3) then code.Break
    else if int_eq z (pos 4) then code.Continue
    else code.Other z

abbrev pub same_code : Code → Code → Bool
same_code a b = int_eq (code_number a) (code_number b)

-- A completion is a code, a result or a message, and the options that `return` or `error` was given. At level 0 the code
-- is in force. At a level above, it waits for the end of that many procedures, and until then the completion's code is
-- `return`.
pub record Completion : Type 0 where
  pub code : Code
  pub level : ℕ
  pub result : Text
  pub options : List (Text × Text)

-- the code that is in force
abbrev pub code_at : ℕ → Code → Code
code_at zero c = c
code_at (suc n) c = code.Return

abbrev pub code_now : Completion → Code
code_now c = code_at c.level c.code

abbrev pub ended : Code → Text → Completion
ended c t = record { code = c; level = 0; result = t; options = [] }

abbrev pub normal : Text → Completion
normal = ended code.Ok

abbrev pub failure : Text → Completion
failure = ended code.Error

-- the answer of a command that has nothing to say
abbrev pub nothing : Completion
nothing = normal []

-- the error of a command that has other words than its usage says
abbrev pub wrong_words : Text → Completion
wrong_words usage = failure (about (literal "wrong # args: should be") usage [])

-- a script would stand in more than a thousand others
abbrev pub too_deep : Completion
too_deep = failure (literal "too many nested evaluations (infinite loop?)")

-- ---- options

-- The return options: catch(n). The code and the level come first, and then the others in their order.
unfoldable pub options_text : Completion → Text
options_text c = written (literal "-code" ∷ number_text (code_number c.code) ∷ literal "-level" ∷ count_text c.level ∷ flat c.options)

-- ---- the end of a procedure, and of everything

-- A loop's code has come to a place where no loop is.
abbrev pub outside_loop : Text → Completion
outside_loop word = failure (about (literal "invoked") word (literal " outside of a loop"))

abbrev pub no_loop : Code → Completion → Completion
no_loop code.Break c = outside_loop (literal "break")
no_loop code.Continue c = outside_loop (literal "continue")
no_loop _ c = c

-- What the end of a body is for its caller: proc(n), return(n). A `return` has one procedure less to wait for.
abbrev pub left_at : ℕ → Completion → Completion
left_at zero c = no_loop c.code c
left_at (suc n) c = record c { level = n }

abbrev pub left_body : Completion → Completion
left_body c = left_at c.level c

abbrev pub bad_code : ℤ → Completion
bad_code z = failure (literal "command returned bad code: " ++ number_text z)

abbrev pub at_top : Code → Completion → Completion
at_top code.Ok c = c
at_top code.Error c = c
at_top code.Return c = bad_code (pos 2)
at_top code.Break c = outside_loop (literal "break")
at_top code.Continue c = outside_loop (literal "continue")
at_top (code.Other z) c = bad_code z

-- What the end of a script is for a host: no procedure is left to wait for.
abbrev pub top : Completion → Completion
top c = at_top c.code (record c { level = 0 })
