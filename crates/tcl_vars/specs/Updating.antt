-- A variable's new text, by the words behind its name: append(n), incr(n), lappend(n), lset(n), dict(n). In a dialect of numbers.
use Rattle.std.specs.Prelude.{◌≡◌, ℕ, ◌≤◌, List, [], Result, Ok, Err}
use Rattle.tcl_chars.specs.Texts.{literal}
use Rattle.tcl_chars.specs.declared.numbers.Dialect.{Dialect}
use Rattle.tcl_pages.specs.Answers.{Answer}
use Rattle.tcl_pages.specs.Texts.{Text}
use Rattle.tcl_pages.specs.Updates.{Old, begins, is_read, must_be_there, old_of, updated}
use Rattle.tcl_pages.specs.declared.pages.UpdatePage.{UpdatePage}
use Rattle.tcl_pages.specs.declared.pages.UpdatePage.TheVariants as page
use Rattle.tcl_meaning.specs.declared.refusal.Refusal.{Refusal}
use Rattle.tcl_meaning.specs.Asking.{Asks, done}
use Rattle.tcl_meaning.specs.Completions.{normal}
use Rattle.tcl_meaning.specs.Value.{◌>>=◌, judged, look}
use Rattle.tcl_meaning.specs.Variables.{get, set}
use Rattle.tcl_meaning.specs.VariablePages.{old_text}
use Rattle.tcl_frames.specs.Standing.{Standing}
use Rattle.tcl_steps.specs.Ends.{EndsDone}
use Rattle.tcl_steps.specs.declared.stop.Stop.{Stop}
use Rattle.tcl_vars.specs.declared.first.First.{First}
use Rattle.tcl_vars.specs.declared.first.First.TheVariants as first

-- ---- the words

-- a command takes n words
abbrev pub Fits : UpdatePage → ℕ → Type 0
Fits page.Append n = 1 ≤ n
Fits page.Incr n = (1 ≤ n) × (n ≤ 2)
Fits page.Lappend n = 1 ≤ n
Fits page.Lset n = 2 ≤ n
Fits page.DictAppend n = 2 ≤ n
Fits page.DictIncr n = (2 ≤ n) × (n ≤ 3)
Fits page.DictLappend n = 2 ≤ n
Fits page.DictSet n = 3 ≤ n
Fits page.DictUnset n = 2 ≤ n

-- there is no increment among n words: it is 1
abbrev pub AddsOne : UpdatePage → ℕ → Type 0
AddsOne page.Incr n = n ≡ 1
AddsOne page.DictIncr n = n ≡ 2
AddsOne _ n = ⊥

abbrev pub usage_of : UpdatePage → Text
usage_of page.Append = literal "append varName ?value ...?"
usage_of page.Incr = literal "incr varName ?increment?"
usage_of page.Lappend = literal "lappend varName ?value ...?"
usage_of page.Lset = literal "lset varName ?index ...? newValue"
usage_of page.DictAppend = literal "dict append dictVarName key ?value ...?"
usage_of page.DictIncr = literal "dict incr dictVarName key ?increment?"
usage_of page.DictLappend = literal "dict lappend dictVarName key ?value ...?"
usage_of page.DictSet = literal "dict set dictVarName key ?key ...? value"
usage_of page.DictUnset = literal "dict unset dictVarName key ?key ...?"

-- n words stand behind the name
abbrev pub IsTaken : UpdatePage → ℕ → Type 0
IsTaken page.DictIncr n = n ≡ 2
IsTaken page.DictSet n = 2 ≤ n
IsTaken page.DictUnset n = 1 ≤ n
IsTaken _ n = Unit {0}

-- ---- the old text

abbrev pub seen_first : First → Old
seen_first first.Empty = begins []
seen_first first.Nought = begins (literal "0")
seen_first first.Read = is_read
seen_first first.There = must_be_there

-- ---- the new text

-- the variable gets the text that is judged, which is the answer
abbrev pub becomes : Text → Answer Text → Asks
becomes name answer = do
  t ← judged answer
  _ ← set name t
  done (normal t)

module _ (dialect : Dialect) where
  abbrev pub from_old : UpdatePage → Text → List Text → Text → Asks
  from_old p name ws old = becomes name (updated dialect p old ws)

  -- what a command does behind the name that it was given
  abbrev pub on_variable : UpdatePage → Text → List Text → Asks
  on_variable p name ws = do
    s ← look
    old ← old_text (old_of p ws) name (get s name)
    from_old p name ws old

  -- the same, where the variable can't be read
  abbrev pub on_missing : UpdatePage → Text → List Text → Refusal → Asks
  on_missing p name ws refusal = do
    old ← old_text (old_of p ws) name (Err refusal)
    from_old p name ws old

-- The page is done with a normal completion of this text, or stops with the script's error; or memory was refused.
abbrev pub Begins : Asks → Standing → Result Text Stop → Standing → Type 0
Begins page before (Ok t) after = EndsDone page before (Ok (normal t)) after
Begins page before (Err s) after = EndsDone page before (Err s) after
