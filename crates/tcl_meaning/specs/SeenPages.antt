-- Commands that look at what scripts keep, and change nothing: info(n), array(n). Lists of names are in the order of code points.
use Rattle.std.specs.Prelude.{ℕ, Bool, true, false, is_some, ◌&&◌, List, [], ◌∷◌, ◌++◌, map as each, Option, Some, None, Ok, Err, if◌then◌else◌}
use Rattle.std.specs.FinMap as map
use Rattle.tcl_chars.specs.Texts.{literal}
use Rattle.tcl_list.specs.Written.{written}
use Rattle.tcl_names.specs.Named.{Named}
use Rattle.tcl_pages.specs.Answers.{Answer, ◌>>=◌}
use Rattle.tcl_pages.specs.Results.{truth_text}
use Rattle.tcl_pages.specs.Texts.{Text, count_text}
use Rattle.tcl_pages.specs.Usage.{usage}
use Rattle.tcl_meaning.specs.declared.page.SeenPage.{SeenPage}
use Rattle.tcl_meaning.specs.declared.page.SeenPage.TheVariants as page
use Rattle.tcl_meaning.specs.Arrays.{spot_named, array_of, elements, name_fits, names_among, pairs_among}
use Rattle.tcl_meaning.specs.Frames.{Variable, text, array, Part, whole, element, deeper, Spot, Frame}
use Rattle.tcl_meaning.specs.Links.{destination}
use Rattle.tcl_meaning.specs.Names.{without_colons}
use Rattle.tcl_meaning.specs.State.{Formal, Procedure, Command, built_in, procedure, Store, active_frame}
use Rattle.tcl_meaning.specs.Variables.{variable_at}

-- ---- array

-- array names arrayName ?pattern?, array get arrayName ?pattern?
abbrev pub array_names : Store → List Text → Answer Text
array_names s (name ∷ []) = Ok (written (names_among None (map.entries (elements s name))))
array_names s (name ∷ pattern ∷ []) = Ok (written (names_among (Some pattern) (map.entries (elements s name))))
array_names s _ = usage (literal "array names arrayName ?pattern?")

abbrev pub array_get : Store → List Text → Answer Text
array_get s (name ∷ []) = Ok (written (pairs_among None (map.entries (elements s name))))
array_get s (name ∷ pattern ∷ []) = Ok (written (pairs_among (Some pattern) (map.entries (elements s name))))
array_get s _ = usage (literal "array get arrayName ?pattern?")

-- array exists arrayName, array size arrayName
abbrev pub array_exists : Store → List Text → Answer Text
array_exists s (name ∷ []) = Ok (truth_text (is_some (array_of s name)))
array_exists s _ = usage (literal "array exists arrayName")

abbrev pub array_size : Store → List Text → Answer Text
array_size s (name ∷ []) = Ok (count_text (map.len (elements s name)))
array_size s _ = usage (literal "array size arrayName")

-- ---- info: procedures

abbrev pub no_procedure : Text → Text
no_procedure name = literal "\"" ++ name ++ literal "\" isn't a procedure"

abbrev pub as_procedure : Text → Option Command → Answer Procedure
as_procedure name (Some (procedure p)) = Ok p
as_procedure name (Some (built_in p)) = Err (no_procedure name)
as_procedure name None = Err (no_procedure name)

abbrev pub procedure_named : Store → Text → Answer Procedure
procedure_named s name = as_procedure name (map.get s.commands (without_colons name))

-- info args procname: in the order of the formals
abbrev pub info_args : Store → List Text → Answer Text
info_args s (name ∷ []) = do
  p ← procedure_named s name
  Ok (written (each (λ f. f.name) p.formals))
info_args s _ = usage (literal "info args procname")

-- info body procname
abbrev pub info_body : Store → List Text → Answer Text
info_body s (name ∷ []) = do
  p ← procedure_named s name
  Ok p.body
info_body s _ = usage (literal "info body procname")

-- ---- info: names

abbrev pub is_procedure : Command → Bool
is_procedure (procedure p) = true
is_procedure (built_in p) = false

abbrev pub any_command : Command → Bool
any_command c = true

-- the names of commands of a kind that match
abbrev pub commands_among : (Command → Bool) → Option Text → List (Text × Command) → List Text
commands_among is pattern [] = []
commands_among is pattern (c ∷ cs) = if is c.1 && name_fits pattern c.0 then c.0 ∷ commands_among is pattern cs else commands_among is pattern cs

-- info commands ?pattern?, info procs ?pattern?
abbrev pub info_commands : Store → List Text → Answer Text
info_commands s [] = Ok (written (commands_among any_command None (map.entries s.commands)))
info_commands s (pattern ∷ []) = Ok (written (commands_among any_command (Some pattern) (map.entries s.commands)))
info_commands s _ = usage (literal "info commands ?pattern?")

abbrev pub info_procs : Store → List Text → Answer Text
info_procs s [] = Ok (written (commands_among is_procedure None (map.entries s.commands)))
info_procs s (pattern ∷ []) = Ok (written (commands_among is_procedure (Some pattern) (map.entries s.commands)))
info_procs s _ = usage (literal "info procs ?pattern?")

-- ---- info: variables

-- is there a variable, or an element
abbrev pub is_there : Option Variable → Part → Bool
is_there v deeper = false
is_there None whole = false
is_there None (element i) = false
is_there (Some v) whole = true
is_there (Some (text t)) (element i) = false
is_there (Some (array m)) (element i) = is_some (map.get m i)

abbrev pub is_there_at : Store → Spot → Bool
is_there_at s p = is_there (variable_at s p) p.part

-- info exists varName
abbrev pub info_exists : Store → List Text → Answer Text
info_exists s (name ∷ []) = Ok (truth_text (is_there_at s (spot_named s name)))
info_exists s _ = usage (literal "info exists varName")

-- the names of variables and of links of a frame
abbrev pub names_of : {A : Type 0} → Named A → List (Text × Unit {0})
names_of m = each (λ e. (e.0, tt)) (map.entries m)

abbrev pub frame_names : Frame → Named (Unit {0})
frame_names f = map.from_entries (names_of f.variables ++ names_of f.links)

abbrev pub exists_here : Store → Text → Bool
exists_here s name = is_there_at s (destination s.frames (record { frame = s.active; name = name; part = whole }))

abbrev pub variables_among : Store → Option Text → List (Text × Unit {0}) → List Text
variables_among s pattern [] = []
variables_among s pattern (e ∷ es) = if exists_here s e.0 && name_fits pattern e.0 then e.0 ∷ variables_among s pattern es else variables_among s pattern es

-- info vars ?pattern?: of the active frame
abbrev pub info_vars : Store → List Text → Answer Text
info_vars s [] = Ok (written (variables_among s None (map.entries (frame_names (active_frame s)))))
info_vars s (pattern ∷ []) = Ok (written (variables_among s (Some pattern) (map.entries (frame_names (active_frame s)))))
info_vars s _ = usage (literal "info vars ?pattern?")

-- info level
abbrev pub info_level : Store → List Text → Answer Text
info_level s [] = Ok (count_text (active_frame s).level)
info_level s _ = usage (literal "info level")

-- ---- all of them

-- what a command answers, or its error, by what scripts keep and the words behind its name
unfoldable pub seen_answer : SeenPage → Store → List Text → Answer Text
seen_answer page.ArrayExists s ws = array_exists s ws
seen_answer page.ArrayGet s ws = array_get s ws
seen_answer page.ArrayNames s ws = array_names s ws
seen_answer page.ArraySize s ws = array_size s ws
seen_answer page.InfoArgs s ws = info_args s ws
seen_answer page.InfoBody s ws = info_body s ws
seen_answer page.InfoCommands s ws = info_commands s ws
seen_answer page.InfoExists s ws = info_exists s ws
seen_answer page.InfoLevel s ws = info_level s ws
seen_answer page.InfoProcs s ws = info_procs s ws
seen_answer page.InfoVars s ws = info_vars s ws
