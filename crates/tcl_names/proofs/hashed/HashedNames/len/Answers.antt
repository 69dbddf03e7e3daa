use Rattle.std.proofs.Common.{ap, ◌∙◌}
use Rattle.std.specs.FinMap as map
use Rattle.tcl_names.proofs.ByHash.{len_hashed}
use Rattle.tcl_names.proofs.hashed.HashedNames.len.Goals as goal

pub returns : goal.returns
returns g c = c.len.ensures.len ∙ len_hashed (λ v. v) c.self.inside.map c.len.ensures.unique ∙ ap map.len c.self.view_is
