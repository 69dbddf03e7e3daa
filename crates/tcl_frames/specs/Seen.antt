-- What a name stands for or leads to, as a host is told of it.
use Rattle.std.specs.Prelude.{Option, Some, None, Result, Ok, Err}
use Rattle.tcl_names.specs.Named.{Named}
use Rattle.tcl_pages.specs.Texts.{Text}
use Rattle.tcl_meaning.specs.declared.refusal.Refusal.{Refusal}
use Rattle.tcl_meaning.specs.declared.refusal.Refusal.TheVariants.{NoSuch}
use Rattle.tcl_meaning.specs.Arrays.{whole_array}
use Rattle.tcl_meaning.specs.Frames.{Variable, text, array, Part, whole, Spot}
use Rattle.tcl_meaning.specs.Links.{destination}
use Rattle.tcl_meaning.specs.State.{Store}
use Rattle.tcl_meaning.specs.Variables.{get_part, variable_at}
use Rattle.tcl_frames.specs.declared.globals.Seen.{Seen}
use Rattle.tcl_frames.specs.declared.globals.Seen.TheVariants as seen

-- the elements of an array, or else the text that is read
abbrev pub seen_as : Option (Named Text) → Result Text Refusal → Option Variable
seen_as (Some m) read = Some (array m)
seen_as None (Ok t) = Some (text t)
seen_as None (Err refusal) = None

abbrev pub seen_part : Option Variable → Part → Option Variable
seen_part v part = seen_as (whole_array v part) (get_part NoSuch v part)

abbrev pub seen_at : Store → Spot → Option Variable
seen_at s p = seen_part (variable_at s p) p.part

-- what a name of the active frame stands for or leads to, which is not divided
abbrev pub seen_here : Store → Text → Option Variable
seen_here s name = seen_at s (destination s.frames (record { frame = s.active; name = name; part = whole }))

-- what is lent, as the definitions see it
abbrev pub variable_seen : Seen → Variable
variable_seen (seen.Text value) = text value.now
variable_seen (seen.Array elements) = array elements.now
