-- Names and parts, as the definitions see them.
use Rattle.std.specs.Prelude.{ℕ, List, [], ◌∷◌, suc, ◌==◌, if◌then◌else◌, false}
use Rattle.std.specs.Str.{chars}
use Rattle.tcl_chars.specs.Characters.{open_paren}
use Rattle.tcl_pages.specs.Texts.{Text}
use Rattle.tcl_meaning.specs.Frames.{Part, whole, element, deeper}
use Rattle.tcl_meaning.specs.Names.{Name}
use Rattle.tcl_frames.specs.declared.name.Part as code
use Rattle.tcl_frames.specs.declared.name.Part.TheVariants as variant
use Rattle.tcl_frames.specs.declared.name.Name as name

abbrev pub part_of : code.Part → Part
part_of variant.Whole = whole
part_of (variant.Element i) = element (chars i.now)
part_of variant.Deeper = deeper

-- the name of a variable of the active frame, as a whole
abbrev pub plain_name : Text → Name
plain_name cs = record { global = false; base = cs; part = whole }

abbrev pub name_of : name.Name → Name
name_of n = record { global = n.global; base = chars n.base.now; part = part_of n.part }

-- where the first `(` of these bytes stands; where there is none, how many they are
abbrev pub paren_in : List ℕ → ℕ
paren_in [] = 0
paren_in (b ∷ bs) = if b == open_paren then 0 else suc (paren_in bs)
