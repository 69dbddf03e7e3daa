use Rattle.std.proofs.Common.{◌∷◌, ◌∙◌, ap}
use Rattle.std.proofs.lemmas.Result.{on_ok_weaker}
use Rattle.std.specs.List.{concat}
use Rattle.tcl_activation.proofs.Joining.{all_go}
use Rattle.tcl_activation.proofs.stack.Stack.join.Goals as goal

pub returns : goal.returns
returns c =
    on_ok_weaker c.push.result
    (λ h. all_go c.args.count c.args.self.now c.in_ok-text.text c.push.new.self c.requires (c.in_ok-text.ensures ∙ ap concat c.uppermost.ensures) (h ∙ ap (λ ts. c.in_ok-text.text ∷ ts) c.truncate.ensures))
    c.push.ensures
