use Rattle.std.proofs.Common.{ap, ◌∙◌}
use Rattle.std.specs.Str.{chars}
use Rattle.tcl_words.proofs.Placed.{rest_at}
use Rattle.tcl_expr.proofs.Operands.{word_here, bad_here, begins_there}
use Rattle.tcl_expr.proofs.tokens.word_token.Goals as goal

pub parse_operand-requires-clause-boundary : goal.parse_operand-requires-clause-boundary
parse_operand-requires-clause-boundary c = (rest_at c.args.text.now c.args.here.now c.place-from.result c.requires.ends c.utf8.text c.utf8.here c.place-from.ensures).boundary

pub parse_operand-requires-clause-begins : goal.parse_operand-requires-clause-begins
parse_operand-requires-clause-begins c =
    let p = rest_at c.args.text.now c.args.here.now c.place-from.result c.requires.ends c.utf8.text c.utf8.here c.place-from.ensures in
    begins_there c.args.text.now (chars c.args.here.now) c.place-from.result p c.requires.begins

pub returns-in-Found-clause-token : goal.returns-in-Found-clause-token
returns-in-Found-clause-token c =
    let p = rest_at c.args.text.now c.args.here.now c.place-from.result c.requires.ends c.utf8.text c.utf8.here c.place-from.ensures in
    let h = rw c.in-Found.is at c.in_ok-word.ensures in
    (word_here c.args.text.now (chars c.args.here.now) c.args.levels c.place-from.result c.in-Found.at c.in-Found.word p h).0

pub returns-in-Found-clause-rest : goal.returns-in-Found-clause-rest
returns-in-Found-clause-rest c =
    let p = rest_at c.args.text.now c.args.here.now c.place-from.result c.requires.ends c.utf8.text c.utf8.here c.place-from.ensures in
    let h = rw c.in-Found.is at c.in_ok-word.ensures in
    ap chars c.range_from.ensures.value ∙ (word_here c.args.text.now (chars c.args.here.now) c.args.levels c.place-from.result c.in-Found.at c.in-Found.word p h).1

pub returns-in-Bad-clause-token : goal.returns-in-Bad-clause-token
returns-in-Bad-clause-token c =
    let p = rest_at c.args.text.now c.args.here.now c.place-from.result c.requires.ends c.utf8.text c.utf8.here c.place-from.ensures in
    let h = rw c.in-Bad.is at c.in_ok-word.ensures in
    (bad_here c.args.text.now (chars c.args.here.now) c.args.levels c.place-from.result c.in-Bad.fault p h).0

pub returns-in-Bad-clause-rest : goal.returns-in-Bad-clause-rest
returns-in-Bad-clause-rest c =
    let p = rest_at c.args.text.now c.args.here.now c.place-from.result c.requires.ends c.utf8.text c.utf8.here c.place-from.ensures in
    let h = rw c.in-Bad.is at c.in_ok-word.ensures in
    (bad_here c.args.text.now (chars c.args.here.now) c.args.levels c.place-from.result c.in-Bad.fault p h).1
