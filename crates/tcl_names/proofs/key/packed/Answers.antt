use Rattle.std.proofs.Common.{refl, sym, ◌∙◌, arith}
use Rattle.tcl_names.proofs.Keys.{packed_more, packed_all, low_more, low_enough}
use Rattle.tcl_names.proofs.key.packed.Goals as goal

pub loop-byte-init : goal.loop-byte-init
loop-byte-init c = (refl, omega arith)

pub overflow_mul-number : goal.overflow_mul-number
overflow_mul-number c =
    let low = low_enough c.loop-byte.number c.loop-byte.byte-index c.loop-byte.invariant.1 (omega (arith, c.requires, c.loop-byte-test.true)) in
    omega (arith, low)

pub loop-byte-preserved : goal.loop-byte-preserved
loop-byte-preserved c =
    let bs = c.args.bytes.now in
    let i = c.loop-byte.byte-index in
    let is = c.from.ensures in
    let byte = c.type_inv.bytes i in
    (sym (packed_more bs c.loop-byte.number i c.from.result c.loop-byte-test.true is) ∙ c.loop-byte.invariant.0, low_more c.loop-byte.number c.from.result i c.loop-byte.invariant.1 (omega (arith, is, byte)))

pub returns-clause-packed : goal.returns-clause-packed
returns-clause-packed c = sym (packed_all c.args.bytes.now c.loop-byte.number c.loop-byte.byte-index c.loop-byte-test.false) ∙ c.loop-byte.invariant.0

pub returns-clause-low : goal.returns-clause-low
returns-clause-low c = low_enough c.loop-byte.number c.loop-byte.byte-index c.loop-byte.invariant.1 (omega (arith, c.requires, c.loop-byte.auto.byte-index-end))
