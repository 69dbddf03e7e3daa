use Rattle.std.proofs.Common.{◌≡◌, length, map}
use denote.Text.{Utf8}
use denote.Shadow.{shadow}
use Rattle.std.specs.Str.{chars}
use Rattle.tcl_chars.specs.Reading.{with_front, all_turns}
use Rattle.tcl_words.specs.Parts.{part_of}
use Rattle.tcl_words.specs.Words.{verbatim_at}
use Rattle.tcl_words.proofs.braces.verbatim_pieces.Given as goal

abbrev pub invariant-pieces : goal.invariant-pieces
invariant-pieces l = record {
  text : shadow (Utf8 l.rest);
  same : with_front (map part_of l.pieces.items) (all_turns (verbatim_at l.size) (chars l.rest)) ≡ all_turns (verbatim_at l.size) (chars l.fn.text);
}

abbrev pub decreases-pieces : goal.decreases-pieces
decreases-pieces l = length (chars l.rest)
