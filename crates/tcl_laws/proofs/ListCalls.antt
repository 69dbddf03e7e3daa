-- A written list that is run is the call of a command.
use Rattle.std.proofs.Common.{◌≡◌, ℕ, zero, suc, ◌+◌, ◌≤◌, true, false, ◌==◌, List, [], ◌∷◌, ◌++◌, Result, Ok, refl, ap, ◌∙◌, arith}
use Rattle.std.proofs.lemmas.Bool.Decides.{nat_tests}
use Rattle.tcl_chars.specs.Characters.{close_bracket}
use Rattle.tcl_chars.specs.Place.{bytes}
use Rattle.tcl_chars.specs.declared.numbers.Dialect.{Dialect}
use Rattle.tcl_words.specs.First.{none, command, first, first_command, most_levels}
use Rattle.tcl_words.specs.Parts.{Shape}
use Rattle.tcl_words.specs.Words.{after_command, after_gaps, first_at}
use Rattle.tcl_laws.specs.OneCommand.{AreWords, ends_command}
use Rattle.tcl_list.specs.Written.{written}
use Rattle.tcl_laws.proofs.OneCommand.{one_command, next_command}
use Rattle.tcl_pages.specs.declared.lists.ListPage.TheVariants as list
use Rattle.tcl_pages.specs.declared.pages.PurePage.TheVariants as pages
use Rattle.tcl_pages.specs.ListPages.{list_page}
use Rattle.tcl_meaning.specs.Pure.{pure}
use Rattle.tcl_pages.specs.Texts.{Text}
use Rattle.tcl_meaning.specs.declared.code.Code.{Code}
use Rattle.tcl_meaning.specs.declared.code.Code.TheVariants as code
use Rattle.tcl_meaning.specs.declared.page.Page.TheVariants as page
use Rattle.tcl_meaning.specs.Asking.{answered, all_answered, asked}
use Rattle.tcl_meaning.specs.Completions.{Completion, code_now}
use Rattle.tcl_meaning.specs.Control.{eval_page}
use Rattle.tcl_meaning.specs.Effects.{Here, Prog, Gives, on_got, entered, returned, exec, paid, ◌>>=◌}
use Rattle.tcl_meaning.specs.Pages.{invoked, owed, page_asks}
use Rattle.tcl_meaning.specs.Script.{Run, most_depth, page_in, rest_by, sequence, with_words}
use Rattle.tcl_meaning.specs.State.{State, with_units}
use Rattle.tcl_meaning.specs.Tasks.{Task, Script, Nothing}
use Rattle.tcl_meaning.specs.Value.{Value}
use Rattle.tcl_meaning.proofs.Questions.{run_answered}
use Rattle.tcl_meaning.proofs.Reaching.{on_got_give, on_got_same}
use Rattle.tcl_meaning.proofs.Runs.{exec_bind}
use Rattle.tcl_meaning.proofs.ScriptRules.{script_plan, script_end}
use Rattle.tcl_laws.specs.ListCalls.{call_of_words, then_rest, ListIsCalled, ListThenRest, AskedListIsCalled, EvalIsCalled, ListingIsCalled}
use Rattle.tcl_laws.proofs.ListWords.{words_say}

no_command : first_command most_levels [] ≡ none []
unfolding first first_at after_gaps
no_command = refl

module _ (dialect : Dialect) (d : ℕ) where
  -- a command whose words are these, and then the rest
  sequence_said : (ws : List Shape) (e : Text) (es : List Text) (rest : Text) → AreWords ws (e ∷ es) → sequence dialect d ws rest ≡ (page_in dialect d (invoked dialect (e ∷ es)) >>= λ c. rest_by d rest (code_now c) c)
  sequence_said ws e es rest h = ap (λ (p : Prog Task (Value (List Text))). (p >>= with_words dialect d) >>= λ c. rest_by d rest (code_now c) c) (words_say d ws (e ∷ es) h)

  rest_runs : (rest : Text) (k : Code) (c : Completion) (s : State) → exec (Run dialect) (rest_by d rest k c) s ≡ then_rest dialect d rest k c s
  rest_runs rest code.Ok c s = on_got_give (Run dialect (Script d c rest) s)
  rest_runs rest code.Error c s = refl
  rest_runs rest code.Return c s = refl
  rest_runs rest code.Break c s = refl
  rest_runs rest code.Continue c s = refl
  rest_runs rest (code.Other z) c s = refl

  paid_then : (p : Prog Task Completion) (rest : Text) (s : State) (n : ℕ) →
      paid (Run dialect) (p >>= λ c. rest_by d rest (code_now c) c) s n ≡ on_got (paid (Run dialect) p s n) (λ c t. then_rest dialect d rest (code_now c) c t)
  paid_then p rest s zero = refl
  paid_then p rest s (suc n) =
      exec_bind (Run dialect) p (λ c. rest_by d rest (code_now c) c) (with_units n s)
      ∙ on_got_same (exec (Run dialect) p (with_units n s)) (λ c t. exec (Run dialect) (rest_by d rest (code_now c) c) t) (λ c t. then_rest dialect d rest (code_now c) c t) (λ c t. rest_runs rest (code_now c) c t)

  command_runs : (last : Completion) (t : Text) (ws : List Shape) (e : Text) (es : List Text) (rest : Text) (s : State) →
      d ≤ most_depth → first_command most_levels t ≡ command ws rest → AreWords ws (e ∷ es)
      → Run dialect (Script d last t) s ≡ on_got (call_of_words dialect d (e ∷ es) s) (λ c u. then_rest dialect d rest (code_now c) c u)
  command_runs last t ws e es rest s h f w =
      script_plan dialect d last t s (command ws rest) h f
      ∙ ap (λ p. paid (Run dialect) p s s.units) (sequence_said ws e es rest w)
      ∙ paid_then (page_in dialect d (invoked dialect (e ∷ es))) rest s s.units

  nothing_left : (k : Code) (c : Completion) (s : State) → d ≤ most_depth → then_rest dialect d [] k c s ≡ Gives c s
  nothing_left code.Ok c s h = script_end dialect d c [] s [] h no_command
  nothing_left code.Error c s h = refl
  nothing_left code.Return c s h = refl
  nothing_left code.Break c s h = refl
  nothing_left code.Continue c s h = refl
  nothing_left (code.Other z) c s h = refl

pub list_is_called : ListIsCalled
list_is_called dialect d last e es s h =
    let c = one_command (bytes (written (e ∷ es))) most_levels false e es in
    command_runs dialect d last (written (e ∷ es)) c.0 e es [] s h c.1 c.2
    ∙ on_got_same (call_of_words dialect d (e ∷ es) s) (λ c t. then_rest dialect d [] (code_now c) c t) (λ c t. Gives c t) (λ c t. nothing_left dialect d (code_now c) c t h)
    ∙ on_got_give (call_of_words dialect d (e ∷ es) s)

no_bracket : (c : ℕ) (cs : List ℕ) → ends_command false (c ∷ cs) ≡ true → (c == close_bracket) ≡ false
no_bracket c cs h = grind (arith, nat_tests)

passed : (c : ℕ) (cs : List ℕ) → ends_command false (c ∷ cs) ≡ true → after_command (c ∷ cs) ≡ cs
passed c cs h = rw (no_bracket c cs h) refl

pub list_then_rest : ListThenRest
list_then_rest dialect d last e es separator rest s h k =
    let whole = written (e ∷ es) ++ separator ∷ rest in
    let c = next_command (bytes whole) most_levels false e es (separator ∷ rest) k in
    command_runs dialect d last whole c.0 e es rest s h (c.1 ∙ ap (command c.0) (passed separator rest k)) c.2

pub asked_list_is_called : AskedListIsCalled
asked_list_is_called dialect d scope e es owes s h =
    ap (λ p. exec (Run dialect) p s) (run_answered dialect d scope (written (e ∷ es)) owes)
    ∙ ap (λ g. on_got g (λ c t. exec (Run dialect) (page_in dialect d (owed dialect owes c)) (returned scope s t)))
    (list_is_called dialect (d + 1) _ e es (entered scope s) (omega arith))

pub eval_is_called : EvalIsCalled
unfolding page_asks eval_page asked all_answered answered owed
eval_is_called dialect d e es s h =
    asked_list_is_called dialect d Here e es Nothing s h ∙ on_got_give (call_of_words dialect (d + 1) (e ∷ es) s)

listed : (dialect : Dialect) (ts : List Text) → pure dialect (pages.List list.List) ts ≡ Ok (written ts)
unfolding pure list_page
listed dialect ts = refl

same_ok : (t u : Text) (r : Result Text Text) → r ≡ Ok t → r ≡ Ok u → t ≡ u
same_ok t u r e f = cc

pub listing_is_called : ListingIsCalled
listing_is_called dialect d e es listing s h l =
    let same = same_ok listing (written (e ∷ es)) (pure dialect (pages.List list.List) (e ∷ es)) l (listed dialect (e ∷ es)) in
    ap (λ t. exec (Run dialect) (page_in dialect d (page_asks dialect page.Eval (t ∷ []))) s) same ∙ eval_is_called dialect d e es s h
