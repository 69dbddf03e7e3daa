use Rattle.tcl_meaning.specs.VariablePages.{set_page}
use Rattle.tcl_steps.proofs.Endings.{closes}
use Rattle.tcl_vars.proofs.setting.set.Goals as goal

pub returns-clause-does : goal.returns-clause-does
returns-clause-does c = closes (set_page c.args.words.now) c.args.frames.now c.set_words.new.frames c.set_words.result c.closed.result c.set_words.ensures.ends c.closed.ensures
