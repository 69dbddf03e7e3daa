-- Changes of the elements of an array: array(n).
use Rattle.std.specs.Prelude.{List, [], ◌∷◌, map as each, Option, Some, None, Result, Ok, Err}
use Rattle.std.specs.FinMap as map
use Rattle.tcl_chars.specs.Texts.{text_of}
use Rattle.tcl_values.specs.Kept.{texts}
use Rattle.tcl_pages.specs.Texts.{Text}
use Rattle.tcl_meaning.specs.declared.refusal.Refusal.{Refusal}
use Rattle.tcl_meaning.specs.declared.refusal.Refusal.TheVariants.{IsntArray}
use Rattle.tcl_meaning.specs.Arrays.{Elements, spot_named}
use Rattle.tcl_meaning.specs.Frames.{Variable, text, array, Part, whole, element, deeper}
use Rattle.tcl_meaning.specs.State.{Store, Change}
use Rattle.tcl_meaning.specs.Variables.{stored, variable_at}
use Rattle.tcl_frames.specs.declared.edit.Edit.{Edit}
use Rattle.tcl_frames.specs.declared.edit.Edit.TheVariants as edit

-- with names and texts in turn
abbrev pub with_pairs : Elements → List Text → Elements
with_pairs m [] = m
with_pairs m (i ∷ []) = m
with_pairs m (i ∷ t ∷ ts) = with_pairs (map.insert m i t) ts

abbrev pub without_names : Elements → List Text → Elements
without_names m [] = m
without_names m (i ∷ is) = without_names (map.remove m i) is

abbrev pub edited : Edit → Elements → Elements
edited (edit.Put pairs) m = with_pairs m (texts pairs.now)
edited (edit.Remove names) m = without_names m (each text_of names.now)

-- a variable as an array whose elements are changed; a name without a variable begins an array
abbrev pub edit_part : Edit → Option Variable → Part → Result Variable Refusal
edit_part e None whole = Ok (array (edited e map.empty))
edit_part e (Some (array m)) whole = Ok (array (edited e m))
edit_part e (Some (text t)) whole = Err IsntArray
edit_part e v (element i) = Err IsntArray
edit_part e v deeper = Err IsntArray

-- the change that edits the array that a name means
abbrev pub edit_change : Store → Text → Edit → Result Change Refusal
edit_change s name e = let p = spot_named s name in stored p (edit_part e (variable_at s p) p.part)
