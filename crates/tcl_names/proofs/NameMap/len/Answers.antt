use Rattle.std.proofs.Common.{ap, ◌∙◌}
use Rattle.std.specs.FinMap as map
use Rattle.tcl_names.proofs.Named.{len_named}
use Rattle.tcl_names.proofs.NameMap.len.Goals as goal

pub returns : goal.returns
returns g c = c.len.ensures.len ∙ len_named (λ v. v) c.self.inside.map c.len.ensures.ordered ∙ ap map.len c.self.view_is
