-- How a variable is stored.
use Rattle.tcl_meaning.specs.Frames.{Variable, text, array}
use Rattle.tcl_frames.specs.declared.variable.Held.{Held}
use Rattle.tcl_frames.specs.declared.variable.Held.TheVariants as held

abbrev pub variable_of : Held → Variable
variable_of (held.Text t) = text t
variable_of (held.Array m) = array m.value
