use Rattle.std.proofs.Common.{ap, nat_eq}
use Rattle.tcl_names.proofs.NameMap.is_empty.Goals as goal

pub returns : goal.returns
returns g c = ap (λ n. nat_eq n 0) c.len.ensures
