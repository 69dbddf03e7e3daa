use Rattle.std.proofs.Common.{◌≡◌, ◌+◌, ◌*◌, length, map}
use denote.Text.{Utf8}
use denote.Shadow.{shadow}
use Rattle.std.specs.Str.{chars}
use Rattle.tcl_chars.specs.Reading.{with_front, all_turns}
use Rattle.tcl_words.specs.Parts.{part_of, shape_of}
use Rattle.tcl_words.specs.Words.{piece_at, next_word, after_commands, inner_at}
use Rattle.tcl_words.proofs.nesting.+nesting.Given as goal

-- the levels that are left, and within a level the calls in their order
abbrev pub decreases-at_close : goal.decreases-at_close
decreases-at_close l = 13 * l.reader.levels + 0

abbrev pub decreases-index : goal.decreases-index
decreases-index l = 13 * l.reader.levels + 1

abbrev pub decreases-variable : goal.decreases-variable
decreases-variable l = 13 * l.reader.levels + 2

abbrev pub decreases-bracket : goal.decreases-bracket
decreases-bracket l = 13 * l.reader.levels + 3

abbrev pub decreases-next_piece : goal.decreases-next_piece
decreases-next_piece l = 13 * l.reader.levels + 4

abbrev pub decreases-pieces : goal.decreases-pieces
decreases-pieces l = 13 * l.reader.levels + 5

abbrev pub decreases-quoted : goal.decreases-quoted
decreases-quoted l = 13 * l.reader.levels + 6

abbrev pub decreases-word_of : goal.decreases-word_of
decreases-word_of l = 13 * l.reader.levels + 7

abbrev pub decreases-word : goal.decreases-word
decreases-word l = 13 * l.reader.levels + 8

abbrev pub decreases-next_word : goal.decreases-next_word
decreases-next_word l = 13 * l.reader.levels + 9

abbrev pub decreases-words : goal.decreases-words
decreases-words l = 13 * l.reader.levels + 10

abbrev pub decreases-first : goal.decreases-first
decreases-first l = 13 * l.reader.levels + 11

abbrev pub decreases-after_commands : goal.decreases-after_commands
decreases-after_commands l = 13 * l.reader.levels + 12

abbrev pub invariant-pieces-pieces : goal.invariant-pieces-pieces
invariant-pieces-pieces l = record {
  text : shadow (Utf8 l.rest);
  same : with_front (map part_of l.pieces.items) (all_turns (piece_at l.reader.size (inner_at l.reader.size l.reader.levels) l.mode) (chars l.rest)) ≡ all_turns (piece_at l.reader.size (inner_at l.reader.size l.reader.levels) l.mode) (chars l.fn.text);
}

abbrev pub decreases-pieces-pieces : goal.decreases-pieces-pieces
decreases-pieces-pieces l = length (chars l.rest)

abbrev pub invariant-words-words : goal.invariant-words-words
invariant-words-words l = record {
  text : shadow (Utf8 l.rest);
  same : with_front (map shape_of l.words.items) (all_turns (next_word l.reader.size (inner_at l.reader.size l.reader.levels) l.nested) (chars l.rest)) ≡ all_turns (next_word l.reader.size (inner_at l.reader.size l.reader.levels) l.nested) (chars l.fn.text);
}

abbrev pub decreases-words-words : goal.decreases-words-words
decreases-words-words l = length (chars l.rest)

abbrev pub invariant-after_commands-commands : goal.invariant-after_commands-commands
invariant-after_commands-commands l = record {
  text : shadow (Utf8 l.rest);
  same : after_commands l.reader.size (inner_at l.reader.size l.reader.levels) l.nested (chars l.rest) ≡ after_commands l.reader.size (inner_at l.reader.size l.reader.levels) l.nested (chars l.fn.text);
}

abbrev pub decreases-after_commands-commands : goal.decreases-after_commands-commands
decreases-after_commands-commands l = length (chars l.rest)
