use Rattle.std.proofs.Common.{◌≡◌, length}
use Rattle.std.specs.Prelude.{reverse}
use denote.Text.{Utf8}
use denote.Shadow.{shadow}
use Rattle.std.specs.Str.{chars}
use Rattle.tcl_chars.specs.Truth.{is_beginning}
use Rattle.tcl_strings.proofs.search.ends_with.Given as goal

abbrev pub invariant-loop-before : goal.invariant-loop-before
invariant-loop-before l = record {
  wanted_text : shadow (Utf8 l.wanted);
  text : shadow (Utf8 l.rest);
  same : is_beginning (reverse (chars l.wanted)) (reverse (chars l.rest)) ≡ is_beginning (reverse (chars l.end)) (reverse (chars l.fn.text));
}

abbrev pub decreases-loop-before : goal.decreases-loop-before
decreases-loop-before l = length l.wanted
