use Rattle.std.proofs.Common.{◌≡◌, length, option_map}
use denote.Text.{Utf8}
use denote.Shadow.{shadow}
use Rattle.std.specs.Str.{chars}
use Rattle.tcl_chars.specs.Texts.{text_of}
use Rattle.tcl_pages.specs.Strings.{trimmed_right, taken_off}
use Rattle.tcl_strings.proofs.trim.trimmed_right.Given as goal

abbrev pub invariant-loop-front : goal.invariant-loop-front
invariant-loop-front l = record {
  text : shadow (Utf8 l.rest);
  same : trimmed_right (taken_off (option_map text_of l.set)) (chars l.rest) ≡ trimmed_right (taken_off (option_map text_of l.set)) (chars l.text);
}

abbrev pub decreases-loop-front : goal.decreases-loop-front
decreases-loop-front l = length l.rest
