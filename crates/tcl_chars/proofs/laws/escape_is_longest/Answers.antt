use Rattle.tcl_chars.proofs.LongestEscapes.{escape_is_longest}
use Rattle.tcl_chars.proofs.laws.escape_is_longest.Goals as goal

pub returns : goal.returns
returns c = escape_is_longest
