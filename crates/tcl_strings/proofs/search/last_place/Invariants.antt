use Rattle.std.proofs.Common.{◌≡◌, length, None}
use Rattle.std.specs.Prelude.{reverse}
use denote.Text.{Utf8}
use denote.Shadow.{shadow}
use Rattle.std.specs.Str.{chars}
use Rattle.tcl_pages.specs.Strings.{last_until, found_at}
use Rattle.tcl_strings.proofs.Backwards.{sought_back}
use Rattle.tcl_strings.proofs.search.last_place.Given as goal

abbrev pub invariant-loop-front : goal.invariant-loop-front
invariant-loop-front l = record {
  text : shadow (Utf8 l.rest);
  place : l.place ≡ length (chars l.rest);
  same : sought_back (chars l.needle) (reverse (chars l.rest)) ≡ last_until (length (chars l.needle)) l.end None (found_at (chars l.needle) l.places);
}

abbrev pub decreases-loop-front : goal.decreases-loop-front
decreases-loop-front l = length l.rest
