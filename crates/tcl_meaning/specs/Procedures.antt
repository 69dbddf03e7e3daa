-- Procedures, their arguments, and words that name a level: proc(n), apply(n), uplevel(n), upvar(n).
use Rattle.std.specs.Prelude.{ℕ, ◌==◌, ◌&&◌, ◌||◌, Bool, true, false, not, List, [], ◌∷◌, ◌++◌, Option, Some, None, Ok, Err, if◌then◌else◌}
use Rattle.std.specs.Char.{is_ascii_digit}
use Rattle.std.specs.FinMap as map
use Rattle.std.specs.Str.Parse.{digits_value}
use Rattle.tcl_chars.specs.Characters.{number_sign}
use Rattle.tcl_chars.specs.Texts.{literal}
use Rattle.tcl_list.specs.Elements.{elements_of}
use Rattle.tcl_list.specs.Written.{written}
use Rattle.tcl_pages.specs.Answers.{Answer, ◌>>=◌}
use Rattle.tcl_chars.specs.Messages.{about}
use Rattle.tcl_pages.specs.Texts.{Text, same_text, spaced}
use Rattle.tcl_meaning.specs.Frames.{text, Variables, Level, up, at, frame_of_level}
use Rattle.tcl_meaning.specs.Names.{divided_name, is_element, is_global}
use Rattle.tcl_meaning.specs.State.{Formal, Procedure, Store}

-- ---- formals

abbrev pub no_name : Text
no_name = literal "argument with no name"

abbrev pub simple_formal : Text → Option Text → Answer Formal
simple_formal [] default = Err no_name
simple_formal (c ∷ cs) default =
    if is_element (divided_name (c ∷ cs)).part then Err (about (literal "formal parameter") (c ∷ cs) (literal " is an array element"))
    else if is_global (c ∷ cs) then Err (about (literal "formal parameter") (c ∷ cs) (literal " is not a simple name"))
    else Ok (record { name = c ∷ cs; default = default })

-- a formal is a name, or a name and its default
abbrev pub formal_by : Text → List Text → Answer Formal
formal_by t [] = Err no_name
formal_by t (name ∷ []) = simple_formal name None
formal_by t (name ∷ default ∷ []) = simple_formal name (Some default)
formal_by t _ = Err (about (literal "too many fields in argument specifier") t [])

abbrev pub formals_by : List Text → Answer (List Formal)
formals_by [] = Ok []
formals_by (t ∷ ts) = do
  fields ← elements_of t
  f ← formal_by t fields
  fs ← formals_by ts
  Ok (f ∷ fs)

-- a procedure of these formals and this body
unfoldable pub procedure_of : Text → Text → Answer Procedure
procedure_of formals body = do
  ts ← elements_of formals
  fs ← formals_by ts
  Ok (record { formals = fs; body = body })

-- ---- arguments

-- does a formal take the rest: a last one that is the one word `args`
abbrev pub is_rest : Formal → Bool
is_rest f = same_text f.name (literal "args") && no_default f.default
  where
    no_default : Option Text → Bool
    no_default None = true
    no_default (Some t) = false

abbrev pub with_argument : Variables → Formal → Text → Variables
with_argument vs f t = map.insert vs f.name (text t)

-- a formal without a word has its default
abbrev pub with_default : Variables → Formal → Option Text → Option Variables
with_default vs f None = None
with_default vs f (Some t) = Some (with_argument vs f t)

-- The words go to the formals in their order; there is nothing where one is missing or too many.
abbrev pub bound : Option Variables → List Formal → List Text → Option Variables
bound None fs ws = None
bound (Some vs) [] [] = Some vs
bound (Some vs) [] (w ∷ ws) = None
bound (Some vs) (f ∷ []) [] = if is_rest f then Some (with_argument vs f []) else with_default vs f f.default
bound (Some vs) (f ∷ []) (w ∷ ws) = if is_rest f then Some (with_argument vs f (written (w ∷ ws))) else bound (Some (with_argument vs f w)) [] ws
bound (Some vs) (f ∷ g ∷ fs) [] = bound (with_default vs f f.default) (g ∷ fs) []
bound (Some vs) (f ∷ g ∷ fs) (w ∷ ws) = bound (Some (with_argument vs f w)) (g ∷ fs) ws

abbrev pub shown_formal : Formal → Option Text → Text
shown_formal f None = f.name
shown_formal f (Some default) = literal "?" ++ f.name ++ literal "?"

abbrev pub shown_formals : List Formal → List Text
shown_formals [] = []
shown_formals (f ∷ []) = (if is_rest f then literal "?arg ...?" else shown_formal f f.default) ∷ []
shown_formals (f ∷ g ∷ fs) = shown_formal f f.default ∷ shown_formals (g ∷ fs)

-- how a command of this name is used that has these formals
abbrev pub procedure_usage : Text → List Formal → Text
procedure_usage word fs = spaced (word ∷ shown_formals fs)

-- ---- levels

abbrev pub only_digits : Text → Bool
only_digits [] = true
only_digits (c ∷ cs) = is_ascii_digit c && only_digits cs

abbrev pub digits_number : Text → Option ℕ
digits_number [] = None
digits_number (c ∷ cs) = if only_digits (c ∷ cs) then Some (digits_value 10 (c ∷ cs)) else None

-- is a first word meant as a level
abbrev pub is_level : Text → Bool
is_level [] = false
is_level (c ∷ cs) = is_ascii_digit c || c == number_sign

abbrev pub as_level : (ℕ → Level) → Option ℕ → Option Level
as_level f None = None
as_level f (Some n) = Some (f n)

-- Digits count callers up, and `#` and digits are a level.
abbrev pub level_word : Text → Option Level
level_word [] = None
level_word (c ∷ cs) = if c == number_sign then as_level at (digits_number cs) else as_level up (digits_number (c ∷ cs))

abbrev pub bad_level : Text → Text
bad_level t = about (literal "bad level") t []

abbrev pub if_there : Text → Level → Option ℕ → Answer Level
if_there t level None = Err (bad_level t)
if_there t level (Some i) = Ok level

abbrev pub level_in : Store → Text → Option Level → Answer Level
level_in s t None = Err (bad_level t)
level_in s t (Some level) = if_there t level (frame_of_level s.frames s.active level)

-- the level that a word names, if a frame is there
unfoldable pub level_named : Store → Text → Answer Level
level_named s t = level_in s t (level_word t)

-- is the count of these words odd
abbrev pub is_odd : List Text → Bool
is_odd [] = false
is_odd (t ∷ ts) = not (is_odd ts)
