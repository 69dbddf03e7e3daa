use Rattle.std.proofs.Common.{◌≡◌, ◌+◌, length}
use denote.Text.{Utf8}
use denote.Shadow.{shadow}
use Rattle.std.specs.Str.{chars}
use Rattle.tcl_pages.specs.Strings.{first_from, places_of}
use Rattle.tcl_strings.proofs.search.first_place.Given as goal

abbrev pub invariant-loop-after : goal.invariant-loop-after
invariant-loop-after l = record {
  text : shadow (Utf8 l.rest);
  place : l.place + length (chars l.rest) ≡ l.count;
  same : first_from l.start (places_of (chars l.needle) l.place (chars l.rest)) ≡ first_from l.start (places_of (chars l.needle) 0 l.places);
}

abbrev pub decreases-loop-after : goal.decreases-loop-after
decreases-loop-after l = length (chars l.rest)
