use Rattle.tcl_meaning.specs.VariablePages.{update_page}
use Rattle.tcl_steps.proofs.Endings.{closes}
use Rattle.tcl_vars.proofs.updating.update.Goals as goal

pub returns : goal.returns
returns c = closes (update_page c.args.dialect c.args.page c.args.words.now) c.args.frames.now c.update_words.new.frames c.update_words.result c.closed.result c.update_words.ensures c.closed.ensures
