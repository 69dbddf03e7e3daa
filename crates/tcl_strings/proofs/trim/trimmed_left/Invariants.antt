use Rattle.std.proofs.Common.{◌≡◌, length, option_map}
use denote.Text.{Utf8}
use denote.Shadow.{shadow}
use Rattle.std.specs.Str.{chars}
use Rattle.tcl_chars.specs.Texts.{text_of}
use Rattle.tcl_pages.specs.Strings.{trimmed_left, taken_off}
use Rattle.tcl_strings.proofs.trim.trimmed_left.Given as goal

abbrev pub invariant-loop-c : goal.invariant-loop-c
invariant-loop-c l = record {
  text : shadow (Utf8 l.rest);
  same : trimmed_left (taken_off (option_map text_of l.set)) (chars l.rest) ≡ trimmed_left (taken_off (option_map text_of l.set)) (chars l.text);
}

abbrev pub decreases-loop-c : goal.decreases-loop-c
decreases-loop-c l = length l.rest
