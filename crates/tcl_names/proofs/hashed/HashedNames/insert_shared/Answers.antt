use Rattle.std.proofs.Common.{ap, ◌∙◌}
use Rattle.std.specs.FinMap as map
use Rattle.std.specs.Rc.{rc_str_bytes}
use Rattle.tcl_names.specs.Named.{text_of}
use Rattle.tcl_names.proofs.Entries.{IsUtf8-key}
use Rattle.tcl_names.proofs.ByHash.{insert_hashed}
use Rattle.tcl_names.proofs.hashed.HashedNames.insert_shared.Goals as goal

pub returns-clause-put : goal.returns-clause-put
returns-clause-put g c =
    insert_hashed (λ v. v) (rc_str_bytes c.args.name) (IsUtf8-key c.args.name) c.self.inside.map c.insert.new.self c.args.value c.in_ok-insert.ensures.updates
    ∙ ap (λ m. map.insert m (text_of c.args.name) c.args.value) c.self.view_is
