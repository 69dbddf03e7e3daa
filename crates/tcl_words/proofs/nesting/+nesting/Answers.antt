use Rattle.std.proofs.Common.{◌≡◌, ◌∷◌, ◌++◌, [], map, sym, ◌∙◌, rules}
use Rattle.std.proofs.lemmas.List.{map_push}
use Rattle.std.proofs.lemmas.Result.{err_from_is_err_and}
use Rattle.std.specs.Str.{chars}
use Rattle.tcl_chars.specs.Reading.{all_turns}
use Rattle.tcl_chars.proofs.Turns.{goes_on, is_done, ends, shorter, ends_scan, scan_goes_on, scan_done}
use Rattle.tcl_words.specs.Parts.{part_of, shape_of}
use Rattle.tcl_words.specs.Words.{piece_at, pieces_at, next_word, words_at, first_at, commands_at, after_commands, inner_at}
use Rattle.tcl_chars.proofs.Ends.{forward_shrinks}
use Rattle.tcl_words.proofs.Forward.{inner_inside, piece_forward, word_forward, first_forward}
use Rattle.tcl_words.proofs.Levels.{deeper, deeper_err, deeper_index, deeper_index_err, no_bracket, no_index, closing_some, closing_none, close_end, braced_variable_end, name_ends, variable_ends, element_ends, script_ends, bracket_ends, escape_ends, plain_ends, backslashed_begins}
use Rattle.tcl_words.proofs.nesting.+nesting.Goals as goal

-- pieces

pub pieces-returns-in_err-piece : goal.pieces-returns-in_err-piece
unfolding pieces_at
pieces-returns-in_err-piece t c =
    let step = piece_at c.args.reader.size (inner_at c.args.reader.size c.args.reader.levels) c.args.mode in
    let p = err_from_is_err_and c.from_residual.result c.from_residual.ensures.1 in
    rw (p.1, p.2) (ends step c.in_err-piece.field-0.0 (map part_of c.pieces.pieces.items) (chars c.pieces.rest.now) (all_turns step (chars c.args.text.now)) c.in_err-piece.ensures c.pieces.invariant.same)

pub pieces-returns-in-None : goal.pieces-returns-in-None
unfolding pieces_at
pieces-returns-in-None t c =
    let step = piece_at c.args.reader.size (inner_at c.args.reader.size c.args.reader.levels) c.args.mode in
    let last = rw c.in-None.is at c.in_ok-piece.ensures in
    is_done step (map part_of c.pieces.pieces.items) (chars c.pieces.rest.now) (chars c.in_ok-piece.after.now) (all_turns step (chars c.args.text.now)) last c.pieces.invariant.same

pub pieces-pieces-smaller : goal.pieces-pieces-smaller
pieces-pieces-smaller t c =
    let step = piece_at c.args.reader.size (inner_at c.args.reader.size c.args.reader.levels) c.args.mode in
    let more = rw c.in-Some.is at c.in_ok-piece.ensures in
    shorter step (chars c.pieces.rest.now) _ (chars c.in_ok-piece.after.now) (forward_shrinks step (piece_forward c.args.reader.size (inner_at c.args.reader.size c.args.reader.levels) (inner_inside c.args.reader.size c.args.reader.levels) c.args.mode)) more

pub pieces-pieces-preserved : goal.pieces-pieces-preserved
pieces-pieces-preserved t c =
    let step = piece_at c.args.reader.size (inner_at c.args.reader.size c.args.reader.levels) c.args.mode in
    let more = rw c.in-Some.is at c.in_ok-piece.ensures in
    let pushed : map part_of c.push.new.self.items ≡ map part_of c.pieces.pieces.items ++ part_of c.in-Some.piece ∷ [] = rw c.in_ok-push-in-Some.ensures.items (map_push part_of c.pieces.pieces.items c.in-Some.piece) in
    record {
      text = search rules;
      same = rw pushed (goes_on step (map part_of c.pieces.pieces.items) (chars c.pieces.rest.now) _ (chars c.in_ok-piece.after.now) (all_turns step (chars c.args.text.now)) (forward_shrinks step (piece_forward c.args.reader.size (inner_at c.args.reader.size c.args.reader.levels) (inner_inside c.args.reader.size c.args.reader.levels) c.args.mode)) more c.pieces.invariant.same);
    }

-- words

pub words-returns-in_err-word : goal.words-returns-in_err-word
unfolding words_at
words-returns-in_err-word t c =
    let step = next_word c.args.reader.size (inner_at c.args.reader.size c.args.reader.levels) c.args.nested in
    let p = err_from_is_err_and c.from_residual.result c.from_residual.ensures.1 in
    rw (p.1, p.2) (ends step c.in_err-word.field-0.0 (map shape_of c.words.words.items) (chars c.words.rest.now) (all_turns step (chars c.args.text.now)) c.in_err-word.ensures c.words.invariant.same)

pub words-returns-in-None : goal.words-returns-in-None
unfolding words_at
words-returns-in-None t c =
    let step = next_word c.args.reader.size (inner_at c.args.reader.size c.args.reader.levels) c.args.nested in
    let last = rw c.in-None.is at c.in_ok-word.ensures in
    is_done step (map shape_of c.words.words.items) (chars c.words.rest.now) (chars c.in_ok-word.after.now) (all_turns step (chars c.args.text.now)) last c.words.invariant.same

pub words-words-smaller : goal.words-words-smaller
words-words-smaller t c =
    let step = next_word c.args.reader.size (inner_at c.args.reader.size c.args.reader.levels) c.args.nested in
    let more = rw c.in-Some.is at c.in_ok-word.ensures in
    shorter step (chars c.words.rest.now) _ (chars c.in_ok-word.after.now) (forward_shrinks step (word_forward c.args.reader.size (inner_at c.args.reader.size c.args.reader.levels) (inner_inside c.args.reader.size c.args.reader.levels) c.args.nested)) more

pub words-words-preserved : goal.words-words-preserved
words-words-preserved t c =
    let step = next_word c.args.reader.size (inner_at c.args.reader.size c.args.reader.levels) c.args.nested in
    let more = rw c.in-Some.is at c.in_ok-word.ensures in
    let pushed : map shape_of c.push.new.self.items ≡ map shape_of c.words.words.items ++ shape_of c.in-Some.word ∷ [] = rw c.in_ok-push-in-Some.ensures.items (map_push shape_of c.words.words.items c.in-Some.word) in
    record {
      text = search rules;
      same = rw pushed (goes_on step (map shape_of c.words.words.items) (chars c.words.rest.now) _ (chars c.in_ok-word.after.now) (all_turns step (chars c.args.text.now)) (forward_shrinks step (word_forward c.args.reader.size (inner_at c.args.reader.size c.args.reader.levels) (inner_inside c.args.reader.size c.args.reader.levels) c.args.nested)) more c.words.invariant.same);
    }

-- after_commands

pub after_commands-returns-in_err-command : goal.after_commands-returns-in_err-command
unfolding after_commands commands_at
after_commands-returns-in_err-command t c =
    let step = first_at c.args.reader.size (inner_at c.args.reader.size c.args.reader.levels) c.args.nested in
    let p = err_from_is_err_and c.from_residual.result c.from_residual.ensures.1 in
    rw (p.1, p.2) (ends_scan step c.in_err-command.field-0.0 (chars c.commands.rest.now) _ c.in_err-command.ensures c.commands.invariant.same)

pub after_commands-returns-in-None : goal.after_commands-returns-in-None
unfolding after_commands commands_at
after_commands-returns-in-None t c =
    let step = first_at c.args.reader.size (inner_at c.args.reader.size c.args.reader.levels) c.args.nested in
    let last = rw c.in-None.is at c.in_ok-command.ensures in
    sym c.commands.invariant.same ∙ scan_done step (chars c.commands.rest.now) (chars c.in_ok-command.after.now) last

pub after_commands-commands-smaller-in-Some : goal.after_commands-commands-smaller-in-Some
after_commands-commands-smaller-in-Some t c =
    let step = first_at c.args.reader.size (inner_at c.args.reader.size c.args.reader.levels) c.args.nested in
    let more = rw c.in-Some.is at c.in_ok-command.ensures in
    shorter step (chars c.commands.rest.now) _ (chars c.in_ok-command.after.now) (forward_shrinks step (first_forward c.args.reader.size (inner_at c.args.reader.size c.args.reader.levels) (inner_inside c.args.reader.size c.args.reader.levels) c.args.nested)) more

pub after_commands-commands-preserved-in-Some : goal.after_commands-commands-preserved-in-Some
unfolding after_commands commands_at
after_commands-commands-preserved-in-Some t c =
    let step = first_at c.args.reader.size (inner_at c.args.reader.size c.args.reader.levels) c.args.nested in
    let more = rw c.in-Some.is at c.in_ok-command.ensures in
    record {
      text = search rules;
      same = sym (scan_goes_on step (chars c.commands.rest.now) _ (chars c.in_ok-command.after.now) (forward_shrinks step (first_forward c.args.reader.size (inner_at c.args.reader.size c.args.reader.levels) (inner_inside c.args.reader.size c.args.reader.levels) c.args.nested)) more) ∙ c.commands.invariant.same;
    }

-- at_close

pub at_close-returns-then-reader-eq0 : goal.at_close-returns-then-reader-eq0
at_close-returns-then-reader-eq0 t c = no_bracket c.args.reader.size c.args.reader.levels (chars c.args.text.now) c.if-reader-eq0.true

pub at_close-returns-in_err-rest : goal.at_close-returns-in_err-rest
at_close-returns-in_err-rest t c =
    let p = err_from_is_err_and c.from_residual.result c.from_residual.ensures.1 in
    rw (p.1, p.2) (deeper_err c.args.reader.size c.args.reader.levels (chars c.args.text.now) c.in_err-rest.field-0.0 c.if-reader-eq0.false c.in_err-rest.ensures)

pub at_close-returns-in-Some : goal.at_close-returns-in-Some
at_close-returns-in-Some t c = deeper c.args.reader.size c.args.reader.levels (chars c.args.text.now) (chars c.in_ok-rest.rest.now) c.if-reader-eq0.false c.in_ok-rest.ensures ∙ closing_some (chars c.in_ok-rest.rest.now) _ _ c.in-Some.ensures.parts.in_chars

pub at_close-returns-in-None : goal.at_close-returns-in-None
at_close-returns-in-None t c = deeper c.args.reader.size c.args.reader.levels (chars c.args.text.now) (chars c.in_ok-rest.rest.now) c.if-reader-eq0.false c.in_ok-rest.ensures ∙ closing_none (chars c.in_ok-rest.rest.now) c.in-None.ensures.parts

-- index

pub index-returns-then-reader-eq0 : goal.index-returns-then-reader-eq0
index-returns-then-reader-eq0 t c = no_index c.args.reader.size c.args.reader.levels (chars c.args.text.now) c.if-reader-eq0.true

pub index-returns-in_err-pieces : goal.index-returns-in_err-pieces
index-returns-in_err-pieces t c =
    let p = err_from_is_err_and c.from_residual.result c.from_residual.ensures.1 in
    rw (p.1, p.2) (deeper_index_err c.args.reader.size c.args.reader.levels (chars c.args.text.now) c.in_err-pieces.field-0.0 c.if-reader-eq0.false c.in_err-pieces.ensures)

pub index-returns : goal.index-returns
index-returns t c =
    rw c.tail.ensures (deeper_index c.args.reader.size c.args.reader.levels (chars c.args.text.now) (map part_of c.in_ok-pieces.pieces.items, chars c.in_ok-pieces.rest.now) c.if-reader-eq0.false c.in_ok-pieces.ensures)

-- stretches

pub bracket-stretch-whole-requires : goal.bracket-stretch-whole-requires
bracket-stretch-whole-requires t c = bracket_ends c.args.reader.size c.args.reader.levels (chars c.args.text.now) (chars c.tail-script.result.now) (chars c.in_ok-close.close.now) (chars c.tail-rest.result.now) c.tail-script.ensures c.in_ok-close.ensures c.tail-rest.ensures

pub bracket-stretch-requires : goal.bracket-stretch-requires
bracket-stretch-requires t c = script_ends c.args.reader.size c.args.reader.levels (chars c.tail-script.result.now) (chars c.in_ok-close.close.now) c.in_ok-close.ensures

pub next_piece-escaped-meant-requires : goal.next_piece-escaped-meant-requires
next_piece-escaped-meant-requires t c = backslashed_begins c.args.mode (chars c.args.text.now) (sym c.in-Backslashed.ensures)

pub next_piece-stretch-requires : goal.next_piece-stretch-requires
next_piece-stretch-requires t c = escape_ends (chars c.args.text.now) (chars c.escaped-meant.result.1.now) c.escaped-meant.ensures.rest

pub next_piece-stretch-requires-in-Plain : goal.next_piece-stretch-requires-in-Plain
next_piece-stretch-requires-in-Plain t c = plain_ends c.args.mode (chars c.args.text.now) (chars c.after_plain-rest.result.now) c.after_plain-rest.ensures

pub variable-stretch-whole-requires : goal.variable-stretch-whole-requires
variable-stretch-whole-requires t c = braced_variable_end (chars c.args.text.now) (chars c.tail-name.result.now) (chars c.tail-inside.result.now) (chars c.in_ok-close.close.now) (chars c.tail-rest.result.now) c.tail-name.ensures c.tail-inside.ensures c.in_ok-close.ensures c.tail-rest.ensures

pub variable-stretch-requires : goal.variable-stretch-requires
variable-stretch-requires t c = close_end (chars c.tail-inside.result.now) (chars c.in_ok-close.close.now) c.in_ok-close.ensures

pub variable-stretch-named-requires : goal.variable-stretch-named-requires
variable-stretch-named-requires t c = name_ends (chars c.tail-name.result.now) (chars c.after_name-rest.result.now) c.after_name-rest.ensures

pub variable-stretch-whole-requires-then-begins-2 : goal.variable-stretch-whole-requires-then-begins-2
variable-stretch-whole-requires-then-begins-2 t c =
    element_ends c.args.reader.size c.args.reader.levels (chars c.args.text.now) (chars c.tail-name.result.now) (chars c.after_name-rest.result.now) (chars c.tail.result.now) _ (chars c.in_ok-pieces.after.now) c.tail-name.ensures c.after_name-rest.ensures c.tail.ensures c.in_ok-pieces.ensures

pub variable-stretch-requires-2 : goal.variable-stretch-requires-2
variable-stretch-requires-2 t c = variable_ends (chars c.args.text.now) (chars c.tail-name.result.now) (chars c.after_name-rest.result.now) c.tail-name.ensures c.after_name-rest.ensures
