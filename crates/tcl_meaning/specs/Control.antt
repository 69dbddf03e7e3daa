-- Conditions and loops: if(n), while(n), for(n), foreach(n), lmap(n), dict(n) for, switch(n), eval(n), expr(n). In a dialect
-- of numbers.
use Rattle.std.specs.Prelude.{Bool, true, false, ◌||◌, ◌==◌, not, List, [], ◌∷◌, ◌++◌, take, drop, length, Option, Some, None, Ok, Err, if◌then◌else◌}
use Rattle.tcl_chars.specs.declared.numbers.Dialect.{Dialect}
use Rattle.tcl_chars.specs.Texts.{literal}
use Rattle.tcl_list.specs.Elements.{elements_of}
use Rattle.tcl_list.specs.Written.{written}
use Rattle.tcl_meaning.specs.declared.code.Code.{Code}
use Rattle.tcl_meaning.specs.declared.code.Code.TheVariants as code
use Rattle.tcl_pages.specs.Answers.{Answer}
use Rattle.tcl_pages.specs.DictPages.{flat}
use Rattle.tcl_pages.specs.Dictionaries.{pairs_of}
use Rattle.tcl_pages.specs.Lists.{one_text}
use Rattle.tcl_chars.specs.Messages.{truth_value}
use Rattle.tcl_pages.specs.Texts.{Text}
use Rattle.tcl_meaning.specs.Completions.{Completion, normal, nothing, code_now}
use Rattle.tcl_meaning.specs.Effects.{Here}
use Rattle.tcl_meaning.specs.Value.{◌>>=◌, fail, judged}
use Rattle.tcl_meaning.specs.Variables.{set_all}
use Rattle.tcl_meaning.specs.Shapes.{Eaches, if_shape, each_shape, loop_lists_of, switch_words, paired, last_checked, chosen}
use Rattle.tcl_meaning.specs.Tasks.{LoopList, Each, Loop, While, For, ForEach, Others, Run, Evaluate, Pay, Nothing, IfTest, WhileTest, ForTest, WhileBody, ForStart, ForBody, ForNext, EachBody}
use Rattle.tcl_meaning.specs.Asking.{Asks, done, ask, usage}

abbrev pub ask_if : Bool → Asks → Asks → Asks
ask_if true a b = a
ask_if false a b = b

-- ---- what a completion is for a page that goes on after it

-- on if the code is ok; any other completion is the page's
abbrev pub if_ok : Code → Completion → Asks → Asks
if_ok code.Ok c go = go
if_ok _ c go = fail c

-- after a loop's body: on if the code is ok or `continue`, out of the loop at `break`
abbrev pub if_goes_on : Code → Completion → Asks → Asks → Asks
if_goes_on code.Ok c on out = on
if_goes_on code.Continue c on out = on
if_goes_on code.Break c on out = out
if_goes_on _ c on out = fail c

-- ---- if

abbrev pub if_usage : Text
if_usage = literal "if cond ?then? body ?elseif cond ?then? body ...? ?else? ?body?"

abbrev pub body_asks : Option Text → Asks
body_asks None = done nothing
body_asks (Some body) = ask (Run Here body Nothing)

-- the next condition, or what is run if none holds
abbrev pub next_clause : List (Text × Text) → Option Text → Asks
next_clause [] otherwise = body_asks otherwise
next_clause (c ∷ cs) otherwise = ask (Evaluate c.0 (IfTest c.1 (record { clauses = cs; otherwise = otherwise })))

abbrev pub if_shaped : Option Others → Asks
if_shaped None = usage if_usage
if_shaped (Some others) = next_clause others.clauses others.otherwise

-- if cond ?then? body ?elseif cond ?then? body ...? ?else? ?body?
unfoldable pub if_page : List Text → Asks
if_page ws = if_shaped (if_shape ws)

-- ---- foreach, lmap, dict for

-- is an element left in one of the lists
abbrev pub has_more : List LoopList → Bool
has_more [] = false
has_more (l ∷ ls) = (not (length l.elements == 0)) || has_more ls

abbrev pub behind_turn : LoopList → LoopList
behind_turn l = record l { elements = drop (length l.names) l.elements }

abbrev pub behind_turns : List LoopList → List LoopList
behind_turns [] = []
behind_turns (l ∷ ls) = behind_turn l ∷ behind_turns ls

-- the loop's answer: the list of what was gathered, or nothing
abbrev pub each_answer : Option (List Text) → Completion
each_answer None = nothing
each_answer (Some results) = normal (written results)

-- turns are as many as the longest list needs
abbrev pub each_next : Each → Asks
each_next e = ask_if (has_more e.lists) (ask (Pay (ForEach e))) (done (each_answer e.results))

-- each list's variables are set, from left to right; an element that is missing is empty
abbrev pub each_set : Each → List LoopList → Asks
each_set e [] = ask (Run Here e.body (EachBody (record e { lists = behind_turns e.lists })))
each_set e (l ∷ ls) = do
  _ ← set_all l.names (take (length l.names) l.elements)
  each_set e ls

abbrev pub gathered : Option (List Text) → Text → Option (List Text)
gathered None t = None
gathered (Some results) t = Some (results ++ t ∷ [])

abbrev pub after_each : Each → Code → Completion → Asks
after_each e code.Ok c = each_next (record e { results = gathered e.results c.result })
after_each e code.Continue c = each_next e
after_each e code.Break c = done (each_answer e.results)
after_each e _ c = fail c

abbrev pub each_among : Option (List Text) → Text → Eaches → Asks
each_among results empty shape = do
  lists ← judged (loop_lists_of empty shape.lists)
  each_next (record { lists = lists; body = shape.body; results = results })

abbrev pub each_shaped : Option (List Text) → Text → Text → Option Eaches → Asks
each_shaped results u empty None = usage u
each_shaped results u empty (Some shape) = each_among results empty shape

-- foreach varList list ?varList list ...? command
unfoldable pub foreach_page : List Text → Asks
foreach_page ws = each_shaped None (literal "foreach varList list ?varList list ...? command") (literal "foreach varlist is empty") (each_shape ws)

-- lmap varList list ?varList list ...? command
unfoldable pub lmap_page : List Text → Asks
lmap_page ws = each_shaped (Some []) (literal "lmap varList list ?varList list ...? command") (literal "lmap varlist is empty") (each_shape ws)

-- a list of two names
abbrev pub two_names : List Text → Answer (List Text)
two_names (k ∷ v ∷ []) = Ok (k ∷ v ∷ [])
two_names _ = Err (literal "must have exactly two variable names")

-- dict for {keyVarName valueVarName} dictionary script: the pairs as they are read at the start
unfoldable pub dict_for_page : List Text → Asks
dict_for_page (names ∷ dictionary ∷ body ∷ []) = do
  ns ← judged (elements_of names)
  two ← judged (two_names ns)
  ps ← judged (pairs_of dictionary)
  each_next (record { lists = record { names = two; elements = flat ps } ∷ []; body = body; results = None })
dict_for_page _ = usage (literal "dict for {keyVarName valueVarName} dictionary script")

-- ---- switch

abbrev pub switch_usage : Text
switch_usage = literal "switch ?-option ...? string ?pattern body ...? ?default body?"

abbrev pub switch_among : Bool → Text → List Text → Asks
switch_among globs t words = do
  ps ← judged (paired words)
  _ ← judged (last_checked ps)
  body_asks (chosen globs t ps)

-- One word behind the string is the list of patterns and bodies.
abbrev pub switch_of : Bool → List Text → Asks
switch_of globs (t ∷ list ∷ []) = do
  words ← judged (elements_of list)
  switch_among globs t words
switch_of globs (t ∷ a ∷ b ∷ ws) = switch_among globs t (a ∷ b ∷ ws)
switch_of globs _ = usage switch_usage

-- switch ?-option ...? string ?pattern body ...? ?default body?
unfoldable pub switch_page : List Text → Asks
switch_page ws = do
  s ← judged (switch_words false ws)
  switch_of s.globs s.words

-- ---- eval, expr

-- eval arg ?arg ...?
unfoldable pub eval_page : List Text → Asks
eval_page [] = usage (literal "eval arg ?arg ...?")
eval_page (w ∷ ws) = ask (Run Here (one_text (w ∷ ws)) Nothing)

-- expr arg ?arg ...?
unfoldable pub expr_page : List Text → Asks
expr_page [] = usage (literal "expr arg ?arg ...?")
expr_page (w ∷ ws) = ask (Evaluate (one_text (w ∷ ws)) Nothing)

module _ (dialect : Dialect) where
  -- The completion of a condition: a truth value, and what follows where it is true and where it isn't.
  abbrev pub if_true : Completion → Asks → Asks → Asks
  if_true c go stay = if_ok (code_now c) c (judged (truth_value dialect c.result) >>= λ b. ask_if b go stay)

  abbrev pub after_if_test : Text → Others → Completion → Asks
  after_if_test body others c = if_true c (ask (Run Here body Nothing)) (next_clause others.clauses others.otherwise)

  -- ---- while test command

  abbrev pub while_next : Text → Text → Asks
  while_next test body = ask (Evaluate test (WhileTest test body))

  unfoldable pub while_page : List Text → Asks
  while_page (test ∷ body ∷ []) = while_next test body
  while_page _ = usage (literal "while test command")

  abbrev pub after_while_test : Text → Text → Completion → Asks
  after_while_test test body c = if_true c (ask (Pay (While test body))) (done nothing)

  abbrev pub after_while_body : Text → Text → Completion → Asks
  after_while_body test body c = if_goes_on (code_now c) c (while_next test body) (done nothing)

  -- ---- for start test next command

  abbrev pub for_next : Text → Text → Text → Asks
  for_next test next body = ask (Evaluate test (ForTest test next body))

  unfoldable pub for_page : List Text → Asks
  for_page (first ∷ test ∷ next ∷ body ∷ []) = ask (Run Here first (ForStart test next body))
  for_page _ = usage (literal "for start test next command")

  abbrev pub after_for_start : Text → Text → Text → Completion → Asks
  after_for_start test next body c = if_ok (code_now c) c (for_next test next body)

  abbrev pub after_for_test : Text → Text → Text → Completion → Asks
  after_for_test test next body c = if_true c (ask (Pay (For test next body))) (done nothing)

  abbrev pub after_for_body : Text → Text → Text → Completion → Asks
  after_for_body test next body c = if_goes_on (code_now c) c (ask (Run Here next (ForNext test next body))) (done nothing)

  -- `break` in `next` ends the loop, and `continue` there is the command's
  abbrev pub after_for_next : Text → Text → Text → Code → Completion → Asks
  after_for_next test next body code.Ok c = for_next test next body
  after_for_next test next body code.Break c = done nothing
  after_for_next test next body _ c = fail c

-- a turn that has been paid for
abbrev pub turned : Loop → Asks
turned (While test body) = ask (Run Here body (WhileBody test body))
turned (For test next body) = ask (Run Here body (ForBody test next body))
turned (ForEach e) = each_set e e.lists
