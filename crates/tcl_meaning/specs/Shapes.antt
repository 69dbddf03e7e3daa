-- The shapes of control commands, read from their words before anything is evaluated: if(n), foreach(n), switch(n).
use Rattle.std.specs.Prelude.{ℕ, Bool, true, false, ◌||◌, List, [], ◌∷◌, ◌++◌, Option, Some, None, Ok, Err, if◌then◌else◌}
use Rattle.tcl_chars.specs.Place.{begins}
use Rattle.tcl_chars.specs.Texts.{literal}
use Rattle.tcl_list.specs.Elements.{elements_of}
use Rattle.tcl_pages.specs.Texts.{Text, same_text}
use Rattle.tcl_pages.specs.Answers.{Answer, ◌>>=◌}
use Rattle.tcl_pages.specs.Glob.{glob}
use Rattle.tcl_chars.specs.Messages.{about}
use Rattle.tcl_pages.specs.Usage.{bad_option}
use Rattle.tcl_meaning.specs.Tasks.{LoopList, Others}

-- is a word this one
abbrev pub is_word : List ℕ → Text → Bool
is_word word t = same_text t word

-- ---- if

abbrev pub with_clause : Text → Text → Option Others → Option Others
with_clause cond body None = None
with_clause cond body (Some others) = Some (record others { clauses = (cond, body) ∷ others.clauses })

abbrev pub only_clause : Text → Text → Option Text → Option Others
only_clause cond body otherwise = Some (record { clauses = (cond, body) ∷ []; otherwise = otherwise })

-- the words behind `else`, or behind a body where no keyword stands: one body
abbrev pub last_body : Text → Text → List Text → Option Others
last_body cond body (t ∷ []) = only_clause cond body (Some t)
last_body cond body _ = None

-- The shape of an `if` is read before any condition is evaluated. What may stand next is a condition; what stands behind
-- it; a body; or what stands behind that.
abbrev mutual
  pub at_condition : List Text → Option Others
  at_condition [] = None
  at_condition (cond ∷ ws) = behind_condition cond ws

  pub behind_condition : Text → List Text → Option Others
  behind_condition cond [] = None
  behind_condition cond (w ∷ ws) = if is_word (literal "then") w then at_body cond ws else behind_body cond w ws

  pub at_body : Text → List Text → Option Others
  at_body cond [] = None
  at_body cond (body ∷ ws) = behind_body cond body ws

  pub behind_body : Text → Text → List Text → Option Others
  behind_body cond body [] = only_clause cond body None
  behind_body cond body (w ∷ ws) =
      if is_word (literal "elseif") w then with_clause cond body (at_condition ws)
      else if is_word (literal "else") w then last_body cond body ws
      else last_body cond body (w ∷ ws)

abbrev pub if_shape : List Text → Option Others
if_shape = at_condition

-- ---- foreach, lmap

-- lists of names with their lists, and the body behind them
pub record Eaches : Type 0 where
  pub lists : List (Text × Text)
  pub body : Text

abbrev pub with_list : Text → Text → Option Eaches → Option Eaches
with_list names list None = None
with_list names list (Some shape) = Some (record shape { lists = (names, list) ∷ shape.lists })

abbrev pub each_shape : List Text → Option Eaches
each_shape (names ∷ list ∷ body ∷ []) = Some (record { lists = (names, list) ∷ []; body = body })
each_shape (names ∷ list ∷ more ∷ list' ∷ ws) = with_list names list (each_shape (more ∷ list' ∷ ws))
each_shape _ = None

-- a list of no names is an error of this message
abbrev pub some_names : Text → List Text → Answer (List Text)
some_names empty [] = Err empty
some_names empty (n ∷ ns) = Ok (n ∷ ns)

-- the lists are read from left to right
abbrev pub loop_lists_of : Text → List (Text × Text) → Answer (List LoopList)
loop_lists_of empty [] = Ok []
loop_lists_of empty (p ∷ ps) = do
  ns ← elements_of p.0
  names ← some_names empty ns
  es ← elements_of p.1
  ls ← loop_lists_of empty ps
  Ok (record { names = names; elements = es } ∷ ls)

-- ---- switch

-- how patterns are read, and the words behind the options
pub record Switch : Type 0 where
  pub globs : Bool
  pub words : List Text

abbrev pub switch_option : Text → Answer Bool
switch_option w =
    if is_word (literal "-exact") w then Ok false
    else if is_word (literal "-glob") w then Ok true
    else bad_option w (literal "-exact" ∷ literal "-glob" ∷ literal "--" ∷ [])

abbrev minus : ℕ
minus = 45

-- A word that begins with `-` is an option while more than two words are left. Behind `--` there are none.
abbrev pub switch_words : Bool → List Text → Answer Switch
switch_words globs (a ∷ b ∷ c ∷ ws) =
    if is_word (literal "--") a then Ok (record { globs = globs; words = b ∷ c ∷ ws })
    else if begins minus a then switch_option a >>= (λ g. switch_words g (b ∷ c ∷ ws))
    else Ok (record { globs = globs; words = a ∷ b ∷ c ∷ ws })
switch_words globs ws = Ok (record { globs = globs; words = ws })

-- Patterns and bodies come in pairs, and the last body is one.
abbrev pub odd_pattern : Text
odd_pattern = literal "extra switch pattern with no body"

abbrev pub with_pattern : Text → Text → Answer (List (Text × Text)) → Answer (List (Text × Text))
with_pattern pattern body (Ok ps) = Ok ((pattern, body) ∷ ps)
with_pattern pattern body (Err message) = Err message

abbrev pub paired : List Text → Answer (List (Text × Text))
paired [] = Ok []
paired (t ∷ []) = Err odd_pattern
paired (pattern ∷ body ∷ ts) = with_pattern pattern body (paired ts)

abbrev pub is_dash : Text → Bool
is_dash body = is_word (literal "-") body

abbrev pub no_body : Text → Text
no_body pattern = about (literal "no body specified for pattern") pattern []

abbrev pub last_checked : List (Text × Text) → Answer (Unit {0})
last_checked [] = Ok tt
last_checked (p ∷ []) = if is_dash p.1 then Err (no_body p.0) else Ok tt
last_checked (p ∷ q ∷ ps) = last_checked (q ∷ ps)

-- the first body from here that is none of `-`
abbrev pub body_from : List (Text × Text) → Option Text
body_from [] = None
body_from (p ∷ ps) = if is_dash p.1 then body_from ps else Some p.1

abbrev pub is_default : Text → List (Text × Text) → Bool
is_default pattern [] = is_word (literal "default") pattern
is_default pattern (p ∷ ps) = false

abbrev pub matches : Bool → Text → Text → Bool
matches true pattern t = glob pattern t
matches false pattern t = same_text pattern t

-- the body of the first pattern that matches; `default` at the end always does
abbrev pub chosen : Bool → Text → List (Text × Text) → Option Text
chosen globs t [] = None
chosen globs t (p ∷ ps) = if matches globs p.0 t || is_default p.0 ps then body_from (p ∷ ps) else chosen globs t ps
