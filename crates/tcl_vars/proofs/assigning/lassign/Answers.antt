use Rattle.tcl_meaning.specs.VariablePages.{lassign_page}
use Rattle.tcl_steps.proofs.Endings.{closes}
use Rattle.tcl_vars.proofs.assigning.lassign.Goals as goal

pub returns : goal.returns
returns c = closes (lassign_page c.args.words.now) c.args.frames.now c.lassign_words.new.frames c.lassign_words.result c.closed.result c.lassign_words.ensures c.closed.ensures
