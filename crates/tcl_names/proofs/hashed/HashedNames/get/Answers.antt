use Rattle.std.proofs.Common.{ap, sym, ◌∙◌}
use Rattle.std.specs.FinMap as map
use Rattle.std.specs.Str.{chars}
use Rattle.tcl_names.proofs.Entries.{same_value}
use Rattle.tcl_names.proofs.ByHash.{get-hashed}
use Rattle.tcl_names.proofs.hashed.HashedNames.get.Goals as goal

pub returns : goal.returns
returns g c =
    c.get.ensures.value ∙ sym (get-hashed (λ v. v) c.self.inside.map c.args.name.now c.utf8.name ∙ same_value _)
    ∙ ap (λ m. map.get m (chars c.args.name.now)) c.self.view_is
