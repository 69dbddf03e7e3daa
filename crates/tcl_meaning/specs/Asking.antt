-- How pages ask, and what their questions come to.
use Rattle.std.specs.Prelude.{ℕ, zero, suc, [], length}
use Rattle.tcl_chars.specs.declared.numbers.Dialect.{Dialect}
use Rattle.tcl_pages.specs.Texts.{Text}
use Rattle.tcl_meaning.specs.Completions.{Completion, normal, wrong_words}
use Rattle.tcl_meaning.specs.Effects.{Here, Prog, Plain, Give, plainly, Call, ◌>>=◌}
use Rattle.tcl_meaning.specs.Value.{Value, Has, Fails, give, fail, completed}
use Rattle.tcl_meaning.specs.Tasks.{Task, Turn, Step, Done, Run, Evaluate, Pay, Owes, Nothing, Leaving, Catching, IfTest, WhileTest, ForTest, WhileBody, ForStart, ForBody, ForNext, EachBody, Trying, Handling, Finishing}
use Rattle.tcl_meaning.specs.Substitution.{inside}
use Rattle.tcl_meaning.specs.Expressions.{expression}

-- A page, or what it owes: it does something, and asks for the next thing, or fails.
abbrev pub Asks : Type 0
Asks = Plain (Value Step)

abbrev pub done : Completion → Asks
done c = give (Done c)

abbrev pub ask : Step → Asks
ask step = give step

abbrev pub usage : Text → Asks
usage u = fail (wrong_words u)

-- ---- how often a page may ask before it is done, or before a turn is paid for

-- when it owes this
abbrev pub questions_owed : Owes → ℕ
questions_owed Nothing = 0
questions_owed Leaving = 0
questions_owed (Catching names) = 0
questions_owed (IfTest body others) = suc (length others.clauses)
questions_owed (WhileTest test body) = 0
questions_owed (ForTest test next body) = 0
questions_owed (WhileBody test body) = 1
questions_owed (ForStart test next body) = 1
questions_owed (ForBody test next body) = 2
questions_owed (ForNext test next body) = 1
questions_owed (EachBody each) = 0
questions_owed (Trying handlers) = 2
questions_owed (Handling finally) = 1
questions_owed (Finishing before) = 0

abbrev pub questions : Step → ℕ
questions (Done c) = 0
questions (Run scope script owes) = suc (questions_owed owes)
questions (Evaluate expr owes) = suc (questions_owed owes)
questions (Pay loop) = 0

-- ---- what a page comes to, in a script of depth d

abbrev pub value_step : Value Step → Step
value_step (Has step) = step
value_step (Fails c) = Done c

-- a page that asked too often: none does
abbrev pub asked_too_often : Completion
asked_too_often = normal []

module _ (dialect : Dialect) (owed : Owes → Completion → Asks) (d : ℕ) where
  -- at most n questions
  unfoldable pub answered : ℕ → Step → Prog Task Completion
  answered n (Done c) = Give c
  answered n (Pay loop) = Call Here (Turn d loop) (λ c. Give c)
  answered zero (Run scope script owes) = Give asked_too_often
  answered zero (Evaluate expr owes) = Give asked_too_often
  answered (suc n) (Run scope script owes) = do
    c ← Call scope (inside d script) (λ c. Give c)
    next ← plainly (owed owes c)
    answered n (value_step next)
  answered (suc n) (Evaluate expr owes) = do
    v ← expression dialect d expr
    next ← plainly (owed owes (completed v))
    answered n (value_step next)

  unfoldable pub all_answered : Step → Prog Task Completion
  all_answered step = answered (questions step) step

  -- what a page comes to that begins so
  unfoldable pub asked : Asks → Prog Task Completion
  asked page = do
    first ← plainly page
    all_answered (value_step first)
