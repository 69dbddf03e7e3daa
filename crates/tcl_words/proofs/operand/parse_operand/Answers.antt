use Rattle.std.proofs.Common.{rules, drop, length, refl, sym, subst}
use Rattle.std.specs.Str.{chars}
use Rattle.tcl_words.specs.declared.word.Operand.TheVariants as found
use Rattle.tcl_words.specs.First.{IsOperand}
use Rattle.tcl_words.proofs.Placed.{rest_ends, rest_at, after_operand, operand_is}
use Rattle.tcl_words.proofs.operand.parse_operand.Goals as goal

pub returns-in-Ok : goal.returns-in-Ok
returns-in-Ok c =
    let bs = c.args.text.now in
    let cs = chars (drop c.args.from bs) in
    let e = rw c.range_from.ensures.value at c.in-Ok.ensures in
    let w = after_operand (length bs) c.args.levels (chars bs) cs _ (chars c.in-Ok.rest.now) (rest_ends bs c.args.from c.utf8.text c.requires.boundary) e in
    subst (IsOperand bs (found.Found c.in-Ok.word c.place.result)) (sym (operand_is (length bs) c.args.levels cs _ e))
    (refl, rest_at bs c.in-Ok.rest.now c.place.result w c.utf8.text (search rules) c.place.ensures)

pub returns-in-Err-Bad : goal.returns-in-Err-Bad
returns-in-Err-Bad c =
    let bs = c.args.text.now in
    let cs = chars (drop c.args.from bs) in
    let e = rw (c.in-Err-Bad.field-0-is, c.range_from.ensures.value) at c.in-Err-Bad.ensures in
    subst (IsOperand bs (found.Bad c.in-Err-Bad.fault)) (sym (operand_is (length bs) c.args.levels cs _ e)) refl
