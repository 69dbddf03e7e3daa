-- What a try(n) has behind its body, and which of its handlers runs. In a dialect of numbers.
use Rattle.std.specs.Prelude.{Bool, true, false, not, ◌&&◌, List, [], ◌∷◌, Option, Some, None, Ok, Err, if◌then◌else◌}
use Rattle.tcl_chars.specs.declared.numbers.Dialect.{Dialect}
use Rattle.tcl_chars.specs.Messages.{about}
use Rattle.tcl_chars.specs.Texts.{literal}
use Rattle.tcl_list.specs.Elements.{elements_of}
use Rattle.tcl_pages.specs.Answers.{Answer, ◌>>=◌}
use Rattle.tcl_pages.specs.DictPages.{value_at}
use Rattle.tcl_pages.specs.Texts.{Text}
use Rattle.tcl_pages.specs.Usage.{usage}
use Rattle.tcl_meaning.specs.declared.code.Code.{Code}
use Rattle.tcl_meaning.specs.declared.code.Code.TheVariants as code
use Rattle.tcl_meaning.specs.Codes.{code_word}
use Rattle.tcl_meaning.specs.Completions.{Completion, same_code, code_now}
use Rattle.tcl_meaning.specs.Shapes.{is_word, is_dash}
use Rattle.tcl_meaning.specs.Tasks.{Catches, On, Trap, Handler, Handlers}

-- ---- the words behind the body, from the left

abbrev pub try_usage : Text
try_usage = literal "try body ?handler ...? ?finally script?"

abbrev pub wrong_clause : {A : Type 0} → Answer A
wrong_clause = usage try_usage

-- the word that a clause begins with
pub data Keyword : Type 0 where
  AtLast : Keyword
  OnCode : Keyword
  TrapError : Keyword

abbrev pub keyword : Text → Answer Keyword
keyword w =
    if is_word (literal "finally") w then Ok AtLast
    else if is_word (literal "on") w then Ok OnCode
    else if is_word (literal "trap") w then Ok TrapError
    else Err (about (literal "bad handler") w (literal ": must be finally, on, or trap"))

abbrev pub no_handlers : Option Text → Handlers
no_handlers finally = record { clauses = []; finally = finally }

abbrev pub with_handler : Handler → Answer Handlers → Answer Handlers
with_handler h (Ok hs) = Ok (record hs { clauses = h ∷ hs.clauses })
with_handler h (Err message) = Err message

-- a clause of fewer than four words: `finally script`, or too few words
abbrev pub last_clause : Keyword → List Text → Answer Handlers
last_clause AtLast (script ∷ []) = Ok (no_handlers (Some script))
last_clause _ _ = wrong_clause

-- trap pattern variableList script
abbrev pub trap_handler : Text → Text → Text → Answer Handler
trap_handler pattern names script = do
  es ← elements_of pattern
  ns ← elements_of names
  Ok (record { catches = Trap es; names = ns; script = script })

module _ (dialect : Dialect) where
  -- on code variableList script
  abbrev pub on_handler : Text → Text → Text → Answer Handler
  on_handler word names script = do
    c ← code_word dialect word
    ns ← elements_of names
    Ok (record { catches = On c; names = ns; script = script })

  -- the handler of a keyword and the three words behind it
  abbrev pub handler_of : Keyword → Text → Text → Text → Answer Handler
  handler_of AtLast what names script = wrong_clause
  handler_of OnCode what names script = on_handler what names script
  handler_of TrapError what names script = trap_handler what names script

  abbrev pub handlers_of : List Text → Answer Handlers
  handlers_of [] = Ok (no_handlers None)
  handlers_of (w ∷ a ∷ b ∷ c ∷ ws) = do
    k ← keyword w
    h ← handler_of k a b c
    with_handler h (handlers_of ws)
  handlers_of (w ∷ ws) = do
    k ← keyword w
    last_clause k ws

-- the last handler has a script of its own
abbrev pub last_runs : List Handler → Bool
last_runs [] = true
last_runs (h ∷ []) = not (is_dash h.script)
last_runs (h ∷ g ∷ hs) = last_runs (g ∷ hs)

abbrev pub dash_message : Text
dash_message = literal "last non-finally clause must not have a body of \"-\""

abbrev pub dash_checked : Handlers → Answer Handlers
dash_checked hs = if last_runs hs.clauses then Ok hs else Err dash_message

-- what stands behind the body, read before anything is run
abbrev pub try_shape : Dialect → List Text → Answer Handlers
try_shape dialect ws = do
  hs ← handlers_of dialect ws
  dash_checked hs

-- ---- which handler runs

-- the code of an error: `NONE` where it was given none
abbrev pub or_none : Option Text → Text
or_none None = literal "NONE"
or_none (Some t) = t

abbrev pub error_code : Completion → Text
error_code c = or_none (value_at (literal "-errorcode") c.options)

abbrev pub elements_if : Answer (List Text) → Option (List Text)
elements_if (Ok es) = Some es
elements_if (Err message) = None

-- the elements of an error's code, where it is a list
abbrev pub code_elements : Completion → Option (List Text)
code_elements c = if same_code code.Error (code_now c) then elements_if (elements_of (error_code c)) else None

abbrev pub begins_with : List Text → List Text → Bool
begins_with [] es = true
begins_with (p ∷ ps) [] = false
begins_with (p ∷ ps) (e ∷ es) = is_word p e && begins_with ps es

abbrev pub begins_some : List Text → Option (List Text) → Bool
begins_some pattern None = false
begins_some pattern (Some es) = begins_with pattern es

-- does a handler match an end with this code, and these elements of its error's code
abbrev pub matches : Catches → Code → Option (List Text) → Bool
matches (On c) now elements = same_code c now
matches (Trap pattern) now elements = begins_some pattern elements

-- A script `-` stands for the next handler that has another one.
abbrev pub running : List Handler → Option Handler
running [] = None
running (h ∷ hs) = if is_dash h.script then running hs else Some h

-- the handler that runs: the first one that matches, or the one that its script stands for
abbrev pub handler_for : List Handler → Completion → Option Handler
handler_for [] c = None
handler_for (h ∷ hs) c = if matches h.catches (code_now c) (code_elements c) then running (h ∷ hs) else handler_for hs c
