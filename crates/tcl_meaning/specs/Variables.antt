-- Variables by their names: set(n), unset(n), array(n).
use Rattle.std.specs.Prelude.{List, [], ◌∷◌, Option, Some, None, Result, Ok, Err}
use Rattle.std.specs.FinMap as map
use Rattle.tcl_chars.specs.Messages.{about}
use Rattle.tcl_chars.specs.Texts.{literal}
use Rattle.tcl_names.specs.Named.{Named}
use Rattle.tcl_meaning.specs.declared.refusal.Refusal.{Refusal}
use Rattle.tcl_meaning.specs.declared.refusal.Refusal.TheVariants.{NoSuch, IsArray, IsntArray, NoElement}
use Rattle.tcl_pages.specs.Texts.{Text}
use Rattle.tcl_meaning.specs.Frames.{Variable, text, array, Part, whole, element, deeper, Spot, frame_at}
use Rattle.tcl_meaning.specs.Links.{spot_in}
use Rattle.tcl_meaning.specs.Names.{Name, divided_name}
use Rattle.tcl_meaning.specs.State.{Store, Change, set_variable, drop_variable}
use Rattle.tcl_meaning.specs.Completions.{Completion, failure}
use Rattle.tcl_meaning.specs.Effects.{Prog}
use Rattle.tcl_meaning.specs.Value.{Value, ◌>>=◌, give, fail, look, make}

-- ---- places

-- where a name leads that the active frame's scripts write
abbrev pub spot_of : Store → Name → Spot
spot_of s n = spot_in s.frames s.active n

-- the variable at a place
abbrev pub variable_at : Store → Spot → Option Variable
variable_at s p = map.get (frame_at s.frames p.frame).variables p.name

-- ---- reading

-- An array that is there has no such element: it is missed as the name is written.
abbrev pub missing : Part → Refusal
missing whole = NoSuch
missing (element i) = NoElement
missing deeper = NoElement

abbrev pub element_in : Refusal → Option Text → Result Text Refusal
element_in miss None = Err miss
element_in miss (Some t) = Ok t

abbrev pub get_part : Refusal → Option Variable → Part → Result Text Refusal
get_part miss v deeper = Err IsntArray
get_part miss None whole = Err NoSuch
get_part miss None (element i) = Err NoSuch
get_part miss (Some (text t)) whole = Ok t
get_part miss (Some (text t)) (element i) = Err IsntArray
get_part miss (Some (array m)) whole = Err IsArray
get_part miss (Some (array m)) (element i) = element_in miss (map.get m i)

abbrev pub get_named : Store → Name → Result Text Refusal
get_named s n = let p = spot_of s n in get_part (missing n.part) (variable_at s p) p.part

-- the text of a variable or of an element
unfoldable pub get : Store → Text → Result Text Refusal
get s name = get_named s (divided_name name)

-- ---- writing

abbrev pub put_part : Option Variable → Part → Text → Result Variable Refusal
put_part v deeper t = Err IsntArray
put_part None whole t = Ok (text t)
put_part None (element i) t = Ok (array (map.insert map.empty i t))
put_part (Some (text u)) whole t = Ok (text t)
put_part (Some (text u)) (element i) t = Err IsntArray
put_part (Some (array m)) whole t = Err IsArray
put_part (Some (array m)) (element i) t = Ok (array (map.insert m i t))

abbrev pub stored : Spot → Result Variable Refusal → Result Change Refusal
stored p (Ok v) = Ok (set_variable p.frame p.name v)
stored p (Err refusal) = Err refusal

abbrev pub put_named : Store → Name → Text → Result Change Refusal
put_named s n t = let p = spot_of s n in stored p (put_part (variable_at s p) p.part t)

-- the change that puts a text under a name, which is made where it is missing
unfoldable pub put_change : Store → Text → Text → Result Change Refusal
put_change s name t = put_named s (divided_name name) t

-- ---- taking away: an array goes with its elements, and a link stays

abbrev pub without_element : Refusal → Named Text → Text → Option Text → Result (Option Variable) Refusal
without_element miss m i None = Err miss
without_element miss m i (Some t) = Ok (Some (array (map.remove m i)))

abbrev pub remove_part : Refusal → Option Variable → Part → Result (Option Variable) Refusal
remove_part miss v deeper = Err IsntArray
remove_part miss None whole = Err NoSuch
remove_part miss None (element i) = Err NoSuch
remove_part miss (Some v) whole = Ok None
remove_part miss (Some (text t)) (element i) = Err IsntArray
remove_part miss (Some (array m)) (element i) = without_element miss m i (map.get m i)

abbrev pub removed : Spot → Result (Option Variable) Refusal → Result Change Refusal
removed p (Ok (Some v)) = Ok (set_variable p.frame p.name v)
removed p (Ok None) = Ok (drop_variable p.frame p.name)
removed p (Err refusal) = Err refusal

abbrev pub remove_named : Store → Name → Result Change Refusal
remove_named s n = let p = spot_of s n in removed p (remove_part (missing n.part) (variable_at s p) p.part)

-- the change that takes a variable or an element away
unfoldable pub remove_change : Store → Text → Result Change Refusal
remove_change s name = remove_named s (divided_name name)

-- ---- what the refusals say

abbrev pub because : Refusal → Text
because NoSuch = literal ": no such variable"
because IsArray = literal ": variable is array"
because IsntArray = literal ": variable isn't array"
because NoElement = literal ": no such element in array"

abbrev pub cant_read : Text → Refusal → Completion
cant_read name refusal = failure (about (literal "can't read") name (because refusal))

abbrev pub cant_set : Text → Refusal → Completion
cant_set name refusal = failure (about (literal "can't set") name (because refusal))

abbrev pub cant_unset : Text → Refusal → Completion
cant_unset name refusal = failure (about (literal "can't unset") name (because refusal))

-- ---- as programs

module _ {T : Type 0} where
  abbrev pub read_result : Text → Result Text Refusal → Prog T (Value Text)
  read_result name (Ok t) = give t
  read_result name (Err refusal) = fail (cant_read name refusal)

  -- the text of a variable
  abbrev pub read : Text → Prog T (Value Text)
  read name = do
    s ← look
    read_result name (get s name)

  abbrev pub set_result : Text → Result Change Refusal → Prog T (Value (Unit {0}))
  set_result name (Ok ch) = make ch
  set_result name (Err refusal) = fail (cant_set name refusal)

  -- a variable gets a text
  abbrev pub set : Text → Text → Prog T (Value (Unit {0}))
  set name t = do
    s ← look
    set_result name (put_change s name t)

  abbrev pub unset_result : Text → Result Change Refusal → Prog T (Value (Unit {0}))
  unset_result name (Ok ch) = make ch
  unset_result name (Err refusal) = fail (cant_unset name refusal)

  -- a variable or an element goes
  abbrev pub unset : Text → Prog T (Value (Unit {0}))
  unset name = do
    s ← look
    unset_result name (remove_change s name)

  -- variables get texts, from left to right; a text that is missing is empty, and one too many is passed over
  abbrev pub set_all : List Text → List Text → Prog T (Value (Unit {0}))
  set_all [] ts = give tt
  set_all (name ∷ names) [] = do
    _ ← set name []
    set_all names []
  set_all (name ∷ names) (t ∷ ts) = do
    _ ← set name t
    set_all names ts
