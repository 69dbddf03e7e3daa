-- Arrays: array(n).
use Rattle.std.specs.Prelude.{Bool, true, false, List, [], ◌∷◌, ◌++◌, Option, Some, None, Ok, Err, if◌then◌else◌}
use Rattle.std.specs.FinMap as map
use Rattle.tcl_chars.specs.Texts.{literal}
use Rattle.tcl_list.specs.Elements.{elements_of}
use Rattle.tcl_list.specs.Written.{written}
use Rattle.tcl_names.specs.Named.{Named}
use Rattle.tcl_pages.specs.Answers.{Answer, ◌>>=◌}
use Rattle.tcl_pages.specs.Glob.{glob}
use Rattle.tcl_chars.specs.Messages.{about}
use Rattle.tcl_pages.specs.Texts.{Text}
use Rattle.tcl_meaning.specs.Frames.{Variable, text, array, Part, whole, element, deeper, Spot}
use Rattle.tcl_meaning.specs.Names.{divided_name}
use Rattle.tcl_meaning.specs.State.{Store, Change, set_variable, drop_variable}
use Rattle.tcl_meaning.specs.Variables.{spot_of, variable_at}

abbrev pub Elements : Type 0
Elements = Named Text

-- ---- the array that a name means

-- where a name leads, and what is there
abbrev pub spot_named : Store → Text → Spot
spot_named s name = spot_of s (divided_name name)

abbrev pub whole_array : Option Variable → Part → Option Elements
whole_array (Some (array m)) whole = Some m
whole_array (Some (array m)) (element i) = None
whole_array (Some (array m)) deeper = None
whole_array (Some (text t)) part = None
whole_array None part = None

abbrev pub array_of : Store → Text → Option Elements
array_of s name = let p = spot_named s name in whole_array (variable_at s p) p.part

-- A name that is no array has no elements.
abbrev pub elements_or_none : Option Elements → Elements
elements_or_none None = map.empty
elements_or_none (Some m) = m

abbrev pub elements : Store → Text → Elements
elements s name = elements_or_none (array_of s name)

-- ---- array get, array names: in the order of code points

-- the names that match a pattern; without one, all do
abbrev pub name_fits : Option Text → Text → Bool
name_fits None name = true
name_fits (Some pattern) name = glob pattern name

abbrev pub names_among : Option Text → List (Text × Text) → List Text
names_among pattern [] = []
names_among pattern (e ∷ es) = if name_fits pattern e.0 then e.0 ∷ names_among pattern es else names_among pattern es

abbrev pub pairs_among : Option Text → List (Text × Text) → List Text
pairs_among pattern [] = []
pairs_among pattern (e ∷ es) = if name_fits pattern e.0 then e.0 ∷ e.1 ∷ pairs_among pattern es else pairs_among pattern es

-- ---- array set

abbrev pub no_array : Text → Text
no_array name = about (literal "can't array set") name (literal ": variable isn't array")

-- the elements that may be changed there: a name without a variable begins an array
abbrev pub array_begun : Text → Option Variable → Part → Answer Elements
array_begun name None whole = Ok map.empty
array_begun name (Some (array m)) whole = Ok m
array_begun name (Some (text t)) whole = Err (no_array name)
array_begun name v (element i) = Err (no_array name)
array_begun name v deeper = Err (no_array name)

-- names and texts in turn, put into an array one after another
abbrev pub with_elements : Elements → List Text → Answer Elements
with_elements m [] = Ok m
with_elements m (t ∷ []) = Err (literal "list must have an even number of elements")
with_elements m (i ∷ t ∷ ts) = with_elements (map.insert m i t) ts

-- The list's fault comes first, then its odd length, and then the variable's.
abbrev pub array_set : Store → Text → Text → Answer Change
array_set s name list = do
  es ← elements_of list
  _ ← with_elements map.empty es
  m ← array_begun name (variable_at s (spot_named s name)) (spot_named s name).part
  new ← with_elements m es
  Ok (set_variable (spot_named s name).frame (spot_named s name).name (array new))

-- ---- array unset

-- without the elements whose names match
abbrev pub without_matches : Text → Elements → List (Text × Text) → Elements
without_matches pattern m [] = m
without_matches pattern m (e ∷ es) = without_matches pattern (if glob pattern e.0 then map.remove m e.0 else m) es

-- Without a pattern the array goes.
abbrev pub array_without : Spot → Option Text → Option Elements → Option Change
array_without p pattern None = None
array_without p None (Some m) = Some (drop_variable p.frame p.name)
array_without p (Some pattern) (Some m) = Some (set_variable p.frame p.name (array (without_matches pattern m (map.entries m))))

abbrev pub array_unset : Store → Text → Option Text → Option Change
array_unset s name pattern = array_without (spot_named s name) pattern (array_of s name)
