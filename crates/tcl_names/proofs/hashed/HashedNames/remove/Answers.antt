use Rattle.std.proofs.Common.{ap, sym, ◌∙◌}
use Rattle.std.specs.FinMap as map
use Rattle.std.specs.Str.{chars}
use Rattle.tcl_names.proofs.Entries.{same_value}
use Rattle.tcl_names.proofs.ByHash.{get-hashed, remove_hashed}
use Rattle.tcl_names.proofs.hashed.HashedNames.remove.Goals as goal

pub returns-clause-removed : goal.returns-clause-removed
returns-clause-removed g c =
    remove_hashed (λ v. v) c.args.name.now c.utf8.name c.self.inside.map c.remove.new.self c.remove.ensures.updates
    ∙ ap (λ m. map.remove m (chars c.args.name.now)) c.self.view_is

pub returns-clause-value : goal.returns-clause-value
returns-clause-value g c =
    c.remove.ensures.value ∙ sym (get-hashed (λ v. v) c.self.inside.map c.args.name.now c.utf8.name ∙ same_value _)
    ∙ ap (λ m. map.get m (chars c.args.name.now)) c.self.view_is
