use Rattle.std.proofs.Common.{◌≡◌, length}
use denote.Text.{Utf8}
use denote.Shadow.{shadow}
use Rattle.std.specs.Str.{chars}
use Rattle.std.specs.String.{string_bytes}
use Rattle.tcl_chars.specs.Reading.{with_front, all_turns}
use Rattle.tcl_list.specs.Elements.{letter}
use Rattle.tcl_list.proofs.reading.letters.Given as goal

abbrev pub invariant-letters : goal.invariant-letters
invariant-letters l = record {
  text : shadow (Utf8 l.rest);
  same : with_front (chars (string_bytes l.said)) (all_turns (letter l.end) (chars l.rest)) ≡ all_turns (letter l.end) (chars l.fn.text);
}

abbrev pub decreases-letters : goal.decreases-letters
decreases-letters l = length (chars l.rest)
