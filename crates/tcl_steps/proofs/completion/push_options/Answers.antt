use Rattle.std.proofs.Common.{◌∷◌, [], ◌++◌, ap, ◌∙◌}
use Rattle.tcl_pages.specs.Texts.{Text}
use Rattle.tcl_steps.proofs.OptionLemmas.{one_option}
use Rattle.tcl_steps.proofs.completion.push_options.Goals as goal

pub loop-name-preserved : goal.loop-name-preserved
loop-name-preserved c =
    one_option c.args.options.now c.loop-name.name-index c.loop-name-item.result c.loop-name-item.result c.args.items.now.items c.loop-name.items.items c.push.new.self.items c.push-in-loop-name.new.self.items c.loop-name-test.true
    c.loop-name-item.is c.loop-name.invariant (c.in_ok-push.ensures.items ∙ ap (λ (t : Text). c.loop-name.items.items ++ t ∷ []) c.in_ok-copy.ensures)
    (c.in_ok-push-2.ensures.items ∙ ap (λ (t : Text). c.push.new.self.items ++ t ∷ []) c.in_ok-copy-2.ensures)
