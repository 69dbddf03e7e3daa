use Rattle.std.proofs.Common.{◌≡◌, length}
use denote.Text.{Utf8}
use denote.Shadow.{shadow}
use Rattle.std.specs.Str.{chars}
use Rattle.tcl_chars.specs.Whole.{trim_end}
use Rattle.tcl_chars.proofs.numbers.trim_end.Given as goal

abbrev pub invariant-loop-front : goal.invariant-loop-front
invariant-loop-front l = record {
  text : shadow (Utf8 l.rest);
  same : trim_end (chars l.rest) ≡ trim_end (chars l.text);
}

abbrev pub decreases-loop-front : goal.decreases-loop-front
decreases-loop-front l = length l.rest
