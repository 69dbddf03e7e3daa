use Rattle.std.proofs.Common.{ap, sym, ◌∙◌}
use Rattle.std.specs.FinMap as map
use Rattle.tcl_names.specs.Named.{by_text}
use Rattle.tcl_names.proofs.Named.{entries_named}
use Rattle.tcl_names.proofs.NameMap.iter.Goals as goal

pub returns : goal.returns
returns g c =
    ap (by_text (λ v. v)) c.iter.ensures.rest ∙ sym (entries_named (λ v. v) c.self.inside.map c.iter.ensures.ordered) ∙ ap map.entries c.self.view_is
