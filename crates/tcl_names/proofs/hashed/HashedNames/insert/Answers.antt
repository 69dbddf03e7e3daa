use Rattle.std.proofs.Common.{ap, ◌∙◌}
use Rattle.std.specs.FinMap as map
use Rattle.std.specs.Str.{chars}
use Rattle.std.specs.Rc.{rc_str_bytes}
use Rattle.tcl_names.specs.Named.{hashed}
use Rattle.tcl_names.proofs.Entries.{IsUtf8-key}
use Rattle.tcl_names.proofs.ByHash.{insert_hashed}
use Rattle.tcl_names.proofs.hashed.HashedNames.insert.Goals as goal

pub returns-clause-put : goal.returns-clause-put
returns-clause-put g c =
    insert_hashed (λ v. v) (rc_str_bytes c.in_ok-key.key) (IsUtf8-key c.in_ok-key.key) c.self.inside.map c.insert.new.self c.args.value c.in_ok-insert.ensures.updates
    ∙ ap (λ t. map.insert (hashed (λ v. v) c.self.inside.map) (chars t) c.args.value) c.in_ok-key.ensures.ok
    ∙ ap (λ m. map.insert m (chars c.args.name.now) c.args.value) c.self.view_is
