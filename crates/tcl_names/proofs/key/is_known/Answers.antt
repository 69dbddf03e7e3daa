use Rattle.tcl_names.proofs.Keys.{plain, some_number}
use Rattle.tcl_names.proofs.key.is_known.Goals as goal

pub returns : goal.returns
returns c known = plain c.args.key c.args.name.now c.utf8.name c.requires (some_number c.args.key.number known)
