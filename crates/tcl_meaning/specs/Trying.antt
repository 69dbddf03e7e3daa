-- Errors with a code, and what handles them: throw(n), try(n). In a dialect of numbers.
use Rattle.std.specs.Prelude.{List, [], ◌∷◌, take, Option, Some, None}
use Rattle.tcl_chars.specs.declared.numbers.Dialect.{Dialect}
use Rattle.tcl_chars.specs.Texts.{literal}
use Rattle.tcl_list.specs.Elements.{elements_of}
use Rattle.tcl_pages.specs.Texts.{Text}
use Rattle.tcl_meaning.specs.declared.code.Code.{Code}
use Rattle.tcl_meaning.specs.declared.code.Code.TheVariants as code
use Rattle.tcl_meaning.specs.Asking.{Asks, done, ask, usage}
use Rattle.tcl_meaning.specs.Completions.{Completion, failure, options_text}
use Rattle.tcl_meaning.specs.Effects.{Here, ◌>>=◌ as whatever}
use Rattle.tcl_meaning.specs.Handlers.{try_usage, try_shape, handler_for}
use Rattle.tcl_meaning.specs.Tasks.{Handler, Handlers, Run, Trying, Handling, Finishing}
use Rattle.tcl_meaning.specs.Value.{Value, Has, Fails, ◌>>=◌, judged}
use Rattle.tcl_meaning.specs.Variables.{set_all}

-- ---- throw

abbrev pub error_of_type : Text → Text → Completion
error_of_type type message = record (failure message) { options = (literal "-errorcode", type) ∷ [] }

abbrev pub thrown : Text → Text → List Text → Asks
thrown type message [] = done (failure (literal "type must be non-empty list"))
thrown type message (e ∷ es) = done (error_of_type type message)

-- throw type message
unfoldable pub throw_page : List Text → Asks
throw_page (type ∷ message ∷ []) = judged (elements_of type) >>= thrown type message
throw_page _ = usage (literal "throw type message")

-- ---- what is run

-- The script of `finally` is run, and then the completion stands.
abbrev pub finish : Option Text → Completion → Asks
finish None c = done c
finish (Some script) c = ask (Run Here script (Finishing c))

-- A fault in setting the variables is the handler's completion.
abbrev pub handle_by : Option Text → Text → Value (Unit {0}) → Asks
handle_by finally script (Has u) = ask (Run Here script (Handling finally))
handle_by finally script (Fails c) = finish finally c

-- The first variable gets the result and the second one the options; further names are passed over.
abbrev pub handle : Option Text → Completion → Handler → Asks
handle finally c h = whatever (set_all (take 2 h.names) (c.result ∷ options_text c ∷ [])) (handle_by finally h.script)

abbrev pub after_try_by : Option Text → Completion → Option Handler → Asks
after_try_by finally c None = finish finally c
after_try_by finally c (Some h) = handle finally c h

-- the body has ended so
abbrev pub after_try : Handlers → Completion → Asks
after_try hs c = after_try_by hs.finally c (handler_for hs.clauses c)

-- An ok end of `finally` leaves what was before, and any other one takes its place.
abbrev pub after_finally : Completion → Code → Completion → Asks
after_finally before code.Ok c = done before
after_finally before _ c = done c

module _ (dialect : Dialect) where
  -- try body ?handler ...? ?finally script?
  unfoldable pub try_page : List Text → Asks
  try_page [] = usage try_usage
  try_page (body ∷ ws) = do
    hs ← judged (try_shape dialect ws)
    ask (Run Here body (Trying hs))
