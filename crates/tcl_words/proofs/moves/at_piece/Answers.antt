use Rattle.std.proofs.Common.{◌≡◌, sym, ◌∙◌, subst, Ok}
use Rattle.std.specs.Str.{chars}
use Rattle.tcl_words.specs.declared.front.Mode.{Mode}
use Rattle.tcl_words.specs.Words.{piece_at, inner_at}
use Rattle.tcl_words.proofs.GoesOnMoves.{piece_goes, word_ended}
use Rattle.tcl_words.proofs.moves.at_piece.Goals as goal

pub returns-in-Ok-true-default : goal.returns-in-Ok-true-default
returns-in-Ok-true-default c =
    let found = c.in-Ok-true-default.ensures.0 in
    let P : Mode → Type 0 = λ m. piece_at c.args.reader.size (inner_at c.args.reader.size c.args.reader.levels) m (chars c.args.text.now) ≡ Ok (found, chars c.in-Ok-true-default.rest.now) in
    λ size s y l n.
    piece_goes c.args.reader.size c.args.nested c.args.quoted (chars c.args.text.now) (chars c.in-Ok-true-default.rest.now) size s y found c.args.reader.levels (subst P c.mode_in.ensures c.in-Ok-true-default.ensures.1)
    (sym c.in-Ok-true-default.ensures.2 ∙ c.in-Ok-true-default.field-0-0-test) (sym c.is_firm.ensures ∙ c.if-is_firm.true) l n

pub returns-in-Ok-false-default : goal.returns-in-Ok-false-default
returns-in-Ok-false-default c =
    let found = c.in-Ok-false-default.ensures.0 in
    let P : Mode → Type 0 = λ m. piece_at c.args.reader.size (inner_at c.args.reader.size c.args.reader.levels) m (chars c.args.text.now) ≡ Ok (found, chars c.in-Ok-false-default.rest.now) in
    word_ended c.args.reader.size c.args.reader.levels c.args.nested c.args.quoted (chars c.args.text.now) (chars c.in-Ok-false-default.rest.now) found c.at_word_end.result (subst P c.mode_in.ensures c.in-Ok-false-default.ensures.1)
    (sym c.in-Ok-false-default.ensures.2 ∙ c.in-Ok-false-default.field-0-0-test) c.at_word_end.ensures
