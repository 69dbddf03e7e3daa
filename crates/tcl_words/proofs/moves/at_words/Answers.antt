use Rattle.std.proofs.Common.{sym, ◌∙◌}
use Rattle.std.specs.Str.{chars}
use Rattle.tcl_words.proofs.GoesOnMoves.{words_stop, unmarked_go, marked_go}
use Rattle.tcl_words.proofs.moves.at_words.Goals as goal

pub returns-then-ends_word : goal.returns-then-ends_word
returns-then-ends_word c =
    words_stop c.args.nested (chars c.args.text.now) (chars c.after_blanks-rest.result.now) (chars c.after_command.result.now) c.after_blanks-rest.ensures (sym c.is_firm.ensures ∙ c.if-not-is_firm.false) (sym c.ends_word.ensures ∙ c.if-ends_word.true) c.after_command.ensures

pub returns-in-Some-true : goal.returns-in-Some-true
returns-in-Some-true c =
    marked_go c.args.nested (chars c.args.text.now) (chars c.after_blanks-rest.result.now) c.begin_marked.result c.after_blanks-rest.ensures (sym c.is_firm.ensures ∙ c.if-not-is_firm.false) (sym c.ends_word.ensures ∙ c.if-ends_word.false)
    (λ y. c.in-Some-true.ensures y ∙ c.in-Some-true.field-0-test) c.begin_marked.ensures

pub returns-in-Some-false : goal.returns-in-Some-false
returns-in-Some-false c =
    unmarked_go c.args.nested (chars c.args.text.now) (chars c.after_blanks-rest.result.now) c.begin_word.result c.after_blanks-rest.ensures (sym c.is_firm.ensures ∙ c.if-not-is_firm.false) (sym c.ends_word.ensures ∙ c.if-ends_word.false)
    (λ y. c.in-Some-false.ensures y ∙ c.in-Some-false.field-0-test) c.begin_word.ensures
