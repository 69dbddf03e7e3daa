-- The words behind the body of a try(n), clause by clause.
use Rattle.std.specs.Prelude.{List, [], ◌∷◌, None, Ok}
use Rattle.tcl_arguments.specs.WordAt.{word}
use Rattle.tcl_chars.specs.declared.numbers.Dialect.{Dialect}
use Rattle.tcl_control.specs.declared.handlers.Keyword.{Keyword}
use Rattle.tcl_control.specs.declared.handlers.Keyword.TheVariants as keyword
use Rattle.tcl_meaning.specs.Handlers as meaning
use Rattle.tcl_meaning.specs.Tasks.{Handler, Handlers}
use Rattle.tcl_pages.specs.Answers.{Answer, ◌>>=◌}
use Rattle.tcl_pages.specs.Texts.{Text}

abbrev pub keyword_of : Keyword → meaning.Keyword
keyword_of keyword.AtLast = meaning.AtLast
keyword_of keyword.OnCode = meaning.OnCode
keyword_of keyword.TrapError = meaning.TrapError

-- the handler that the first four words are
abbrev pub next_handler : Dialect → List Text → Answer Handler
next_handler dialect ws = do
  k ← meaning.keyword (word ws 0)
  meaning.handler_of dialect k (word ws 1) (word ws 2) (word ws 3)

-- fewer words than a handler has
abbrev pub last_words : List Text → Answer Handlers
last_words [] = Ok (meaning.no_handlers None)
last_words (w ∷ ws) = do
  k ← meaning.keyword w
  meaning.last_clause k ws

-- handlers in front of others
abbrev pub with_handlers : List Handler → Answer Handlers → Answer Handlers
with_handlers [] others = others
with_handlers (h ∷ hs) others = meaning.with_handler h (with_handlers hs others)
