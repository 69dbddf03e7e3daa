use Rattle.std.proofs.Common.{◌<◌, ◌+◌, [], ◌∷◌, length, map, ap, ◌∙◌, subst, sym, arith}
use Rattle.std.specs.Prelude.{IsSome}
use Rattle.tcl_compile.specs.Literals.{IsLiteral, text_of}
use Rattle.std.proofs.lemmas.List.{length-map, map-append}
use Rattle.tcl_words.specs.Parts.{shape_of}
use Rattle.tcl_compile.proofs.LiteralWords.{literal_at, of_some, Texts, texts_next, texts_end}
use Rattle.tcl_compile.proofs.Parsing.{map_at}
use Rattle.tcl_compile.proofs.literals.literals.Goals as goal

pub words-preserved : goal.words-preserved
words-preserved c =
    let ws = map shape_of c.args.words.now in
    let lt : c.words.word-index < length ws = omega (arith, length-map c.args.words.now shape_of) in
    let at = map_at shape_of c.args.words.now c.words.word-index c.word-item.result c.word-item.is in
    let items = ap (map text_of) c.in_ok-push-in-Some.ensures.items ∙ map-append text_of c.words.found.items (c.in-Some.text ∷ []) in
    subst (Texts (c.words.word-index + 1) ws) (sym items) (texts_next ws c.words.word-index (shape_of c.word-item.result) (text_of c.in-Some.text) (map text_of c.words.found.items) lt at (of_some (λ l. IsLiteral (shape_of c.word-item.result) (text_of l)) c.in_ok-text.field-0 c.in-Some.text c.in-Some.is c.in_ok-text.ensures.literal) c.words.invariant)

pub returns-clause-literal : goal.returns-clause-literal
returns-clause-literal c = texts_end (map shape_of c.args.words.now) c.words.word-index (map text_of c.words.found.items) (omega (arith, length-map c.args.words.now shape_of)) c.words.invariant

pub returns-in-None-clause-each : goal.returns-in-None-clause-each
returns-in-None-clause-each c = λ ts h.
    let ws = map shape_of c.args.words.now in
    let lt : c.words.word-index < length ws = omega (arith, length-map c.args.words.now shape_of) in
    let at = map_at shape_of c.args.words.now c.words.word-index c.word-item.result c.word-item.is in
    let one = literal_at ws ts c.words.word-index (shape_of c.word-item.result) h lt at in
    subst (λ o. IsSome o) c.in-None.is (c.in_ok-text.ensures.each one.0 one.1)
