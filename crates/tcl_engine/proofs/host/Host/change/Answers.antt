use Rattle.std.proofs.Common.{subst}
use Rattle.tcl_code.specs.Caught.{change_page}
use Rattle.tcl_steps.specs.Ends.{Does}
use Rattle.tcl_engine.proofs.Landing.{changed_by}
use Rattle.tcl_engine.proofs.host.Host.change.Goals as goal

pub returns-clause-changed : goal.returns-clause-changed
returns-clause-changed g c =
    changed_by _ _ _ _ (subst (λ words. Does (change_page c.args.dialect c.args.change words) c.args.self.now.frames.now c.change-completion.result c.change-completion.new.frames) c.words.ensures.value c.change-completion.ensures) _ _ _
