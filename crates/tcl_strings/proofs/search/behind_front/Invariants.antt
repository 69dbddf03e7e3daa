use Rattle.std.proofs.Common.{◌≡◌, length, drop}
use denote.Text.{Utf8}
use denote.Shadow.{shadow}
use Rattle.std.specs.Str.{chars}
use Rattle.tcl_chars.specs.Truth.{is_beginning}
use Rattle.tcl_strings.proofs.search.behind_front.Given as goal

abbrev pub invariant-loop-c : goal.invariant-loop-c
invariant-loop-c l = record {
  wanted_text : shadow (Utf8 l.wanted);
  text : shadow (Utf8 l.rest);
  same : is_beginning (chars l.wanted) (chars l.rest) ≡ is_beginning (chars l.front) (chars l.fn.text);
  left : drop (length (chars l.wanted)) (chars l.rest) ≡ drop (length (chars l.front)) (chars l.fn.text);
}

abbrev pub decreases-loop-c : goal.decreases-loop-c
decreases-loop-c l = length (chars l.wanted)
