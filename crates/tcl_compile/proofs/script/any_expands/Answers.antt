use Rattle.std.proofs.lemmas.Bool.{false≢true}
use Rattle.std.proofs.Common.{sym, ◌∙◌, ◌<◌, length, map, arith}
use Rattle.std.proofs.lemmas.List.{length-map}
use Rattle.tcl_words.specs.Parts.{shape_of}
use Rattle.tcl_compile.proofs.Emits.{plain_at, plain_next, plain_end}
use Rattle.tcl_compile.proofs.Parsing.{map_at}
use Rattle.tcl_compile.proofs.script.any_expands.Goals as goal

pub words-preserved : goal.words-preserved
words-preserved c =
    let ws = map shape_of c.args.words.now in
    let lt : c.words.word-index < length ws = omega (arith, length-map c.args.words.now shape_of) in
    plain_next ws c.words.word-index (shape_of c.word-item.result) lt (map_at shape_of c.args.words.now c.words.word-index c.word-item.result c.word-item.is) c.if-word.false c.words.invariant

pub returns-clause-plain : goal.returns-clause-plain
returns-clause-plain c = λ e. plain_end (map shape_of c.args.words.now) c.words.word-index (omega (arith, length-map c.args.words.now shape_of)) c.words.invariant

pub returns-then-word-clause-expands : goal.returns-then-word-clause-expands
returns-then-word-clause-expands c = λ q p.
    let ws = map shape_of c.args.words.now in
    let lt : c.words.word-index < length ws = omega (arith, length-map c.args.words.now shape_of) in
    let plain = plain_at ws c.words.word-index (shape_of c.word-item.result) p lt (map_at shape_of c.args.words.now c.words.word-index c.word-item.result c.word-item.is) in
    false≢true (sym plain ∙ c.if-word.true)
