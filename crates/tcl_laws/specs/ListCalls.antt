-- A written list that is run is a call of the command that its first element names, with the others as its arguments: list(n),
-- eval(n); Tcl(n), rule 2.
use Rattle.std.specs.Prelude.{◌≡◌, ℕ, ◌+◌, ◌<◌, ◌≤◌, false, true, List, [], ◌∷◌, ◌++◌, Ok}
use Rattle.tcl_chars.specs.declared.numbers.Dialect.{Dialect}
use Rattle.tcl_laws.specs.OneCommand.{ends_command}
use Rattle.tcl_list.specs.Written.{written}
use Rattle.tcl_pages.specs.declared.lists.ListPage.TheVariants as list
use Rattle.tcl_pages.specs.declared.pages.PurePage.TheVariants as pages
use Rattle.tcl_meaning.specs.Pure.{pure}
use Rattle.tcl_pages.specs.Texts.{Text}
use Rattle.tcl_meaning.specs.declared.code.Code.{Code}
use Rattle.tcl_meaning.specs.declared.code.Code.TheVariants as code
use Rattle.tcl_meaning.specs.declared.page.Page.TheVariants as page
use Rattle.tcl_meaning.specs.Asking.{all_answered}
use Rattle.tcl_meaning.specs.Completions.{Completion, code_now}
use Rattle.tcl_meaning.specs.Effects.{Scope, Got, Gives, on_got, entered, returned, exec, paid}
use Rattle.tcl_meaning.specs.Pages.{invoked, owed, page_asks}
use Rattle.tcl_meaning.specs.Script.{Run, most_depth, page_in}
use Rattle.tcl_meaning.specs.State.{State}
use Rattle.tcl_meaning.specs.Tasks.{Script, Owes}
use Rattle.tcl_meaning.specs.Tasks as tasks

module _ (dialect : Dialect) (depth : ℕ) where
  -- The call of a command in a script of this depth: it costs a unit, and then what the first word names is
  -- done with the others.
  abbrev pub call_of_words : List Text → State → Got Completion
  call_of_words words s = paid (Run dialect) (page_in dialect depth (invoked dialect words)) s s.units

  -- The rest of a script is run after a command that was ok. Any other code ends the script: return(n).
  abbrev pub then_rest : Text → Code → Completion → State → Got Completion
  then_rest rest code.Ok c s = Run dialect (Script depth c rest) s
  then_rest rest _ c s = Gives c s

-- To run a written list as a script is to call the command that its first element names, with the others as arguments, each as it
-- is: nothing in them is substituted.
abbrev pub ListIsCalled : Type 0
ListIsCalled = (dialect : Dialect) (depth : ℕ) (last : Completion) (e : Text) (es : List Text) (s : State) → depth ≤ most_depth →
    Run dialect (Script depth last (written (e ∷ es))) s ≡ call_of_words dialect depth (e ∷ es) s

-- With a newline or a semicolon and more text behind it, it is this call, and then the rest.
abbrev pub ListThenRest : Type 0
ListThenRest = (dialect : Dialect) (depth : ℕ) (last : Completion) (e : Text) (es : List Text) (separator : ℕ) (rest : Text) (s : State) →
    depth ≤ most_depth → ends_command false (separator ∷ rest) ≡ true
    → Run dialect (Script depth last (written (e ∷ es) ++ separator ∷ rest)) s
    ≡ on_got (call_of_words dialect depth (e ∷ es) s) (λ c t. then_rest dialect depth rest (code_now c) c t)

-- A page that asks for a written list to be run has this call made, one deeper, in the frame that it asks for. Then it does
-- what it owes.
abbrev pub AskedListIsCalled : Type 0
AskedListIsCalled = (dialect : Dialect) (depth : ℕ) (scope : Scope) (e : Text) (es : List Text) (owes : Owes) (s : State) → depth < most_depth →
    exec (Run dialect) (all_answered dialect (owed dialect) depth (tasks.Run scope (written (e ∷ es)) owes)) s
    ≡ on_got (call_of_words dialect (depth + 1) (e ∷ es) (entered scope s)) (λ c t. exec (Run dialect) (page_in dialect depth (owed dialect owes c)) (returned scope s t))

-- `eval` of a written list is this call, one deeper.
abbrev pub EvalIsCalled : Type 0
EvalIsCalled = (dialect : Dialect) (depth : ℕ) (e : Text) (es : List Text) (s : State) → depth < most_depth →
    exec (Run dialect) (page_in dialect depth (page_asks dialect page.Eval (written (e ∷ es) ∷ []))) s ≡ call_of_words dialect (depth + 1) (e ∷ es) s

-- So `eval` may be used to execute what `list` answers: list(n).
abbrev pub ListingIsCalled : Type 0
ListingIsCalled = (dialect : Dialect) (depth : ℕ) (e : Text) (es : List Text) (listing : Text) (s : State) → depth < most_depth →
    pure dialect (pages.List list.List) (e ∷ es) ≡ Ok listing
    → exec (Run dialect) (page_in dialect depth (page_asks dialect page.Eval (listing ∷ []))) s ≡ call_of_words dialect (depth + 1) (e ∷ es) s
