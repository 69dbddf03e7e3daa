-- The elements of an array, once what stood under some names is put back.
use Rattle.std.specs.Prelude.{List, [], ◌∷◌, Option, Some, None, is_some, if◌then◌else◌}
use Rattle.std.specs.FinMap as map
use Rattle.tcl_chars.specs.Texts.{text_of}
use Rattle.tcl_pages.specs.Texts.{Text}
use Rattle.tcl_meaning.specs.Arrays.{Elements}
use Rattle.tcl_frames.specs.declared.earlier.Earlier.{Earlier}

-- with what a name had: nothing, or a text, which takes the place of the one that is there now
abbrev pub with_earlier : Text → Option Text → Elements → Elements
with_earlier i None m = map.remove m i
with_earlier i (Some t) m = if is_some (map.get m i) then map.insert m i t else m

abbrev pub restored : Earlier → Elements → Elements
restored e m = with_earlier (text_of e.name) e.value m

-- what was noted last is put back first
abbrev pub undone : List Earlier → Elements → Elements
undone [] m = m
undone (e ∷ es) m = restored e (undone es m)
