use Rattle.std.proofs.Common.{◌∷◌, ◌∙◌, ap}
use Rattle.std.specs.Prelude.{drop}
use Rattle.tcl_activation.proofs.Lending.{newest_lent}
use Rattle.tcl_activation.proofs.results.Results.replace.Goals as goal

pub returns : goal.returns
returns c =
    let items = c.self.inside.items in
    newest_lent c.args.self.now items.items items.len c.len-newest.result items.ok.0 c.len-newest.ensures c.self.view_is c.requires c.change.new.self
    ∙ ap (λ x. x ∷ drop 1 c.args.self.now) c.change.ensures
