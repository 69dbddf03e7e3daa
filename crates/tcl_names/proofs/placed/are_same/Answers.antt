use Rattle.std.proofs.Common.{refl, ◌∙◌, arith}
use Rattle.tcl_names.proofs.SameNames.{one_more, none_more}
use Rattle.tcl_names.proofs.placed.are_same.Goals as goal

pub bytes-init : goal.bytes-init
bytes-init c = (omega arith, refl)

pub bytes-preserved : goal.bytes-preserved
bytes-preserved c =
    let here = c.bytes-test.true in
    (omega (arith, here), one_more c.args.bytes.now c.args.others.now c.bytes.at here c.if-size-others.false c.if-bytes-at.false ∙ c.bytes.invariant.1)

pub returns : goal.returns
returns c = none_more c.args.bytes.now c.args.others.now c.bytes.at c.bytes-test.false c.if-size-others.false ∙ c.bytes.invariant.1
