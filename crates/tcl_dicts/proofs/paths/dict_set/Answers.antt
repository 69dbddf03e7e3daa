use Rattle.std.proofs.Common.{arith}
use Rattle.tcl_dicts.proofs.Updating.{as_many}
use Rattle.tcl_dicts.proofs.paths.dict_set.Goals as goal

pub dict_put_under-requires : goal.dict_put_under-requires
dict_put_under-requires c = as_many c.in_ok-keys.keys.items _ _ c.in_ok-keys.ensures (omega arith)
