-- The commands of procedures and frames: proc(n), apply(n), rename(n), uplevel(n), upvar(n), global(n).
use Rattle.std.specs.Prelude.{Bool, true, false, ◌==◌, List, [], ◌∷◌, Option, Some, None, Ok, Err, if◌then◌else◌}
use Rattle.std.specs.FinMap as map
use Rattle.tcl_chars.specs.Texts.{literal}
use Rattle.tcl_list.specs.Elements.{elements_of}
use Rattle.tcl_pages.specs.Answers.{Answer}
use Rattle.tcl_pages.specs.Lists.{one_text}
use Rattle.tcl_chars.specs.Messages.{about}
use Rattle.tcl_pages.specs.Texts.{Text}
use Rattle.tcl_meaning.specs.declared.refusal.LinkRefusal.{LinkRefusal}
use Rattle.tcl_meaning.specs.declared.refusal.LinkRefusal.TheVariants.{BadLevel, BadName, Itself, Exists}
use Rattle.tcl_meaning.specs.Asking.{Asks, done, ask, usage}
use Rattle.tcl_meaning.specs.Completions.{Completion, failure, nothing, left_body}
use Rattle.tcl_meaning.specs.Effects.{Link, At, Within, Plain}
use Rattle.tcl_meaning.specs.Frames.{Variables, Level, at}
use Rattle.tcl_meaning.specs.Names.{without_colons}
use Rattle.tcl_meaning.specs.Procedures.{procedure_of, bound, procedure_usage, is_level, level_named, bad_level, is_odd}
use Rattle.tcl_meaning.specs.State.{Procedure, Command, procedure, active_frame, set_command, drop_command}
use Rattle.tcl_meaning.specs.Tasks.{Run, Nothing, Leaving}
use Rattle.tcl_meaning.specs.Value.{Value, ◌>>=◌, give, fail, judged, look, make}

-- ---- procedures

abbrev pub call_bound : Text → Procedure → Option Variables → Asks
call_bound word p None = usage (procedure_usage word p.formals)
call_bound word p (Some vs) = ask (Run (Within vs) p.body Leaving)

-- A call: the words go to the formals, and the body is run in a new frame. `word` is the command as it is written.
unfoldable pub call_procedure : Text → Procedure → List Text → Asks
call_procedure word p ws = call_bound word p (bound (Some map.empty) p.formals ws)

-- the end of the body
abbrev pub after_body : Completion → Asks
after_body c = done (left_body c)

-- proc name args body
unfoldable pub proc_page : List Text → Asks
proc_page (name ∷ formals ∷ body ∷ []) = do
  p ← judged (procedure_of formals body)
  _ ← make (set_command (without_colons name) (procedure p))
  done nothing
proc_page _ = usage (literal "proc name args body")

abbrev pub lambda_of : Text → Answer (List Text) → Answer (Text × Text)
lambda_of t (Ok (formals ∷ body ∷ [])) = Ok (formals, body)
lambda_of t _ = Err (about (literal "can't interpret") t (literal " as a lambda expression"))

-- apply lambdaExpr ?arg ...?
unfoldable pub apply_page : List Text → Asks
apply_page (t ∷ ws) = do
  lambda ← judged (lambda_of t (elements_of t))
  p ← judged (procedure_of lambda.0 lambda.1)
  call_procedure (literal "apply lambdaExpr") p ws
apply_page [] = usage (literal "apply lambdaExpr ?arg ...?")

-- ---- rename

abbrev pub no_command : Text → Text → Text
no_command verb name = about verb name (literal ": command doesn't exist")

-- The name that goes away stood for this.
abbrev pub delete_command : Text → Option Command → Asks
delete_command name None = fail (failure (no_command (literal "can't delete") name))
delete_command name (Some c) = do
  _ ← make (drop_command (without_colons name))
  done nothing

abbrev pub rename_command : Text → Text → Option Command → Option Command → Asks
rename_command old new None there = fail (failure (no_command (literal "can't rename") old))
rename_command old new (Some c) (Some d) = fail (failure (about (literal "can't rename to") new (literal ": command already exists")))
rename_command old new (Some c) None = do
  _ ← make (drop_command (without_colons old))
  _ ← make (set_command (without_colons new) c)
  done nothing

-- rename oldName newName: an empty new name deletes
unfoldable pub rename_page : List Text → Asks
rename_page (old ∷ [] ∷ []) = do
  s ← look
  delete_command old (map.get s.commands (without_colons old))
rename_page (old ∷ (c ∷ cs) ∷ []) = do
  s ← look
  rename_command old (c ∷ cs) (map.get s.commands (without_colons old)) (map.get s.commands (without_colons (c ∷ cs)))
rename_page _ = usage (literal "rename oldName newName")

-- ---- uplevel

abbrev pub uplevel_usage : Text
uplevel_usage = literal "uplevel ?level? command ?arg ...?"

abbrev pub run_at : Text → List Text → Asks
run_at word [] = usage uplevel_usage
run_at word (w ∷ ws) = do
  s ← look
  level ← judged (level_named s word)
  ask (Run (At level) (one_text (w ∷ ws)) Nothing)

-- uplevel ?level? command ?arg ...?
unfoldable pub uplevel_page : List Text → Asks
uplevel_page [] = usage uplevel_usage
uplevel_page (w ∷ ws) = if is_level w then run_at w ws else run_at (literal "1") (w ∷ ws)

-- ---- upvar, global

abbrev pub cant_link : Text → Text → LinkRefusal → Completion
cant_link word local BadLevel = failure (bad_level word)
cant_link word local BadName = failure (about (literal "bad variable name") local [])
cant_link word local Itself = failure (literal "can't upvar from variable to itself")
cant_link word local Exists = failure (about (literal "variable") local (literal " already exists"))

abbrev pub if_linked : Text → Text → Option LinkRefusal → Plain (Value (Unit {0}))
if_linked word local None = give tt
if_linked word local (Some refusal) = fail (cant_link word local refusal)

-- a link to what `other` means at the level that a word names
abbrev pub link_name : Text → Level → Text → Text → Plain (Value (Unit {0}))
link_name word level other local = Link level other local (if_linked word local)

-- links are made in their order
abbrev pub link_pairs : Text → Level → List Text → Asks
link_pairs word level [] = done nothing
link_pairs word level (t ∷ []) = done nothing
link_pairs word level (other ∷ local ∷ ts) = do
  _ ← link_name word level other local
  link_pairs word level ts

abbrev pub link_all : Text → List Text → Asks
link_all word [] = usage (literal "upvar ?level? otherVar localVar ?otherVar localVar ...?")
link_all word (t ∷ ts) = do
  s ← look
  level ← judged (level_named s word)
  link_pairs word level (t ∷ ts)

abbrev pub upvar_by : Bool → List Text → Asks
upvar_by true (word ∷ ts) = link_all word ts
upvar_by _ ts = link_all (literal "1") ts

-- upvar ?level? otherVar localVar ?otherVar localVar ...?: where the words are odd in number the first is a level
unfoldable pub upvar_page : List Text → Asks
upvar_page ws = upvar_by (is_odd ws) ws

abbrev pub link_globals : List Text → Asks
link_globals [] = done nothing
link_globals (t ∷ ts) = do
  _ ← link_name (literal "#0") (at 0) (without_colons t) (without_colons t)
  link_globals ts

-- at level 0 `global` does nothing
abbrev pub global_at : Bool → List Text → Asks
global_at true ts = done nothing
global_at false ts = link_globals ts

-- global ?varName ...?
unfoldable pub global_page : List Text → Asks
global_page ts = do
  s ← look
  global_at ((active_frame s).level == 0) ts
