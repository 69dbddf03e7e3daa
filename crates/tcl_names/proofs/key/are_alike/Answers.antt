use Rattle.tcl_names.proofs.Keys.{alike, same_number}
use Rattle.tcl_names.proofs.key.are_alike.Goals as goal

pub returns-then-key-ne0 : goal.returns-then-key-ne0
returns-then-key-ne0 c same =
    alike c.args.key c.args.of_other c.args.name.now c.args.other.now c.type_inv.name c.type_inv.other c.requires.one c.requires.other c.if-key-ne0.true (same_number c.args.key.number c.args.of_other.number same)
