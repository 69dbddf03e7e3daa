use Rattle.std.proofs.Common.{◌≡◌, length}
use denote.Text.{Utf8}
use denote.Shadow.{shadow}
use Rattle.std.specs.Str.{chars}
use Rattle.tcl_meaning.specs.Names.{after_colons}
use Rattle.tcl_frames.proofs.name.after_colons.Given as goal

abbrev pub invariant-scan : goal.invariant-scan
invariant-scan l = shadow (Utf8 l.rest) × (after_colons (chars l.rest) ≡ after_colons (chars l.fn.text))

abbrev pub decreases-scan : goal.decreases-scan
decreases-scan l = length l.rest
