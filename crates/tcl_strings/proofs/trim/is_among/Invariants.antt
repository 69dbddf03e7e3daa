use Rattle.std.proofs.Common.{◌≡◌, length}
use denote.Text.{Utf8}
use denote.Shadow.{shadow}
use Rattle.std.specs.Str.{chars}
use Rattle.tcl_pages.specs.Strings.{is_among}
use Rattle.tcl_strings.proofs.trim.is_among.Given as goal

abbrev pub invariant-loop-d : goal.invariant-loop-d
invariant-loop-d l = record {
  text : shadow (Utf8 l.rest);
  same : is_among (chars l.rest) l.c ≡ is_among (chars l.set) l.c;
}

abbrev pub decreases-loop-d : goal.decreases-loop-d
decreases-loop-d l = length l.rest
