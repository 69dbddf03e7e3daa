use Rattle.std.proofs.Common.{◌≡◌, ◌++◌, length}
use denote.Text.{Utf8}
use denote.Shadow.{shadow}
use Rattle.std.specs.Str.{chars}
use Rattle.std.specs.String.{string_bytes}
use Rattle.tcl_chan.specs.Newlines.{joined_newlines}
use Rattle.tcl_shell.proofs.newlines.joined_lines.Given as goal

abbrev pub invariant-characters : goal.invariant-characters
invariant-characters l = shadow (Utf8 l.rest) × (chars (string_bytes l.script) ++ joined_newlines (chars l.rest) ≡ joined_newlines (chars l.fn.text))

abbrev pub decreases-characters : goal.decreases-characters
decreases-characters l = length l.rest
