use Rattle.std.proofs.Common.{◌≡◌, length}
use denote.Text.{Utf8}
use denote.Shadow.{shadow}
use Rattle.std.specs.Str.{chars}
use Rattle.tcl_pages.specs.Strings.{is_among}
use Rattle.tcl_glob.specs.Seek.{to_separator}
use Rattle.tcl_strings.proofs.lists.to_separator.Given as goal

abbrev pub invariant-loop-c : goal.invariant-loop-c
invariant-loop-c l = record {
  text : shadow (Utf8 l.rest);
  same : to_separator (is_among (chars l.set)) (chars l.rest) ≡ to_separator (is_among (chars l.set)) (chars l.text);
}

abbrev pub decreases-loop-c : goal.decreases-loop-c
decreases-loop-c l = length l.rest
