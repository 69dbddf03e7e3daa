-- What is run as one piece, and what pages that run scripts ask for.
use Rattle.std.specs.Prelude.{ℕ, List, Option}
use Rattle.tcl_pages.specs.Texts.{Text}
use Rattle.tcl_meaning.specs.declared.code.Code.{Code}
use Rattle.tcl_meaning.specs.Completions.{Completion}
use Rattle.tcl_meaning.specs.Effects.{Scope}

-- ---- loops

-- names of loop variables, and the elements that are left for them
pub record LoopList : Type 0 where
  pub names : List Text
  pub elements : List Text

-- foreach(n), lmap(n), `dict for` of dict(n): a body for the elements of several lists, and the results so far where they are gathered
pub record Each : Type 0 where
  pub lists : List LoopList
  pub body : Text
  pub results : Option (List Text)

-- A loop that stands before its next turn. A turn costs a unit before anything else.
pub data Loop : Type 0 where
  While : (test body : Text) → Loop
  For : (test next body : Text) → Loop
  ForEach : Each → Loop

-- ---- questions

-- the conditions of an `if` that come next with their bodies, and what it runs if none holds
pub record Others : Type 0 where
  pub clauses : List (Text × Text)
  pub otherwise : Option Text

-- What a handler of `try` waits for: a code; or an error whose code is a list that begins with these elements.
pub data Catches : Type 0 where
  On : Code → Catches
  Trap : (pattern : List Text) → Catches

-- `on code variableList script` or `trap pattern variableList script`: try(n)
pub record Handler : Type 0 where
  pub catches : Catches
  pub names : List Text
  pub script : Text

-- what a `try` has behind its body
pub record Handlers : Type 0 where
  pub clauses : List Handler
  pub finally : Option Text

-- What a page has still to do when what it asked for has ended.
pub data Owes : Type 0 where
  -- nothing: the completion is the page's
  Nothing : Owes
  -- a procedure's body, or a lambda's, has ended
  Leaving : Owes
  -- `catch`: the completion goes into these variables
  Catching : (names : List Text) → Owes
  -- a condition
  IfTest : (body : Text) → Others → Owes
  WhileTest : (test body : Text) → Owes
  ForTest : (test next body : Text) → Owes
  -- a body, and what else a loop runs
  WhileBody : (test body : Text) → Owes
  ForStart : (test next body : Text) → Owes
  ForBody : (test next body : Text) → Owes
  ForNext : (test next body : Text) → Owes
  EachBody : Each → Owes
  -- the body of a `try`; the script of its handler, or else the body, where `finally` comes next; and that of `finally`, behind
  -- a completion
  Trying : Handlers → Owes
  Handling : (finally : Option Text) → Owes
  Finishing : Completion → Owes

-- What a page asks for before it goes on. It is done, or a script is to be run, one deeper; or an expression is to be
-- evaluated; or a turn of a loop is to be paid for and made.
pub data Step : Type 0 where
  Done : Completion → Step
  Run : Scope → (script : Text) → Owes → Step
  Evaluate : (expr : Text) → Owes → Step
  Pay : Loop → Step

-- ---- tasks

pub data Task : Type 0 where
  -- a script that stands in `depth - 1` others, after a command that ended so
  Script : (depth : ℕ) → (last : Completion) → (text : Text) → Task
  -- a turn of a loop that a command of a script of this depth makes
  Turn : (depth : ℕ) → Loop → Task
