use Rattle.std.proofs.Common.{map, refl, ap, ◌∙◌, subst, sym, arith}
use Rattle.std.proofs.lemmas.List.{map-append}
use Rattle.tcl_list.specs.Texts.{text_of}
use Rattle.tcl_words.specs.Parts.{shape_of}
use Rattle.tcl_compile.specs.Eaches.{IsNameList}
use Rattle.tcl_compile.specs.Literals as literals
use Rattle.tcl_compile.specs.Literals.{IsLiteral}
use Rattle.tcl_compile.proofs.EachEmits.{ListsLeft, lists_start, lists_more, lists_done}
use Rattle.tcl_compile.proofs.LiteralWords.{of_some}
use Rattle.tcl_compile.proofs.each.each_words.Goals as goal

pub lists-init : goal.lists-init
lists-init c =
    let none = ap (map text_of) c.new-names.ensures.items in
    subst (λ ns. ListsLeft (map shape_of c.args.words.now) ns (map shape_of c.args.words.now)) (sym none) (lists_start (map shape_of c.args.words.now))

pub lists-preserved : goal.lists-preserved
lists-preserved c =
    let sum = ap (map text_of) c.in_ok-append.ensures.items ∙ map-append text_of c.lists.names.items c.in-Some.more.items in
    let named = of_some (λ ns. IsNameList (shape_of c.index-rest-0.result) (map text_of ns.items)) c.in_ok-more.field-0 c.in-Some.more c.in-Some.is c.in_ok-more.ensures in
    lists_more shape_of (map shape_of c.args.words.now) (map text_of c.lists.names.items) (map text_of c.in-Some.more.items) (map text_of c.append.new.self.items) c.lists.rest.now c.index-rest-0.result (omega arith) c.index-rest-0.is sum c.lists.invariant named

pub returns-in-Some-2 : goal.returns-in-Some-2
returns-in-Some-2 c =
    let literal = of_some (λ l. IsLiteral (shape_of c.index-rest-0-2.result) (literals.text_of l)) c.in_ok-body.field-0 c.in-Some-2.body c.in-Some-2.is c.in_ok-body.ensures.literal in
    (refl, lists_done shape_of (map shape_of c.args.words.now) (map text_of c.lists.names.items) (literals.text_of c.in-Some-2.body) c.lists.rest.now c.index-rest-0-2.result (omega arith) (omega arith) c.index-rest-0-2.is c.lists.invariant literal)
