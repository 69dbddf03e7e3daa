use Rattle.std.proofs.Common.{◌-◌, drop, length, length-drop, ap, ◌∙◌, arith}
use Rattle.std.proofs.lemmas.List.{take_all}
use Rattle.tcl_control.proofs.ArmTexts.{texts_behind}
use Rattle.tcl_values.specs.Kept.{texts}
use Rattle.tcl_control.proofs.arms.elements_behind.Goals as goal

pub returns : goal.returns
returns c =
    let es = c.args.elements.now in
    let n = c.args.count in
    ap texts (take_all (length es - n) (drop n es) (omega (arith, length-drop n es))) ∙ texts_behind n es
