use Rattle.std.proofs.Common.{◌-◌, ◌∙◌, length, take, drop, ap, sym}
use Rattle.tcl_activation.proofs.Lending.{top_is}
use Rattle.tcl_activation.proofs.pile.Pile.uppermost.Goals as goal

pub returns : goal.returns
returns g c =
    let items = c.self.inside.items in
    let at = c.len.result - c.args.count in
    top_is items.items items.len c.len.result c.args.count c.args.self.now items.ok.0 c.len.ensures c.self.view_is c.requires _
    (ap (λ xs. take (length xs - at) (drop at xs)) c.deref.ensures.value ∙ ap (λ k. take (k - at) (drop at items.items)) (sym items.ok.0))
