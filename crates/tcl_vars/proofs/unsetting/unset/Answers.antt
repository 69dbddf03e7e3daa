use Rattle.tcl_meaning.specs.VariablePages.{unset_page}
use Rattle.tcl_steps.proofs.Endings.{closes}
use Rattle.tcl_vars.proofs.unsetting.unset.Goals as goal

pub returns : goal.returns
returns c = closes (unset_page c.args.words.now) c.args.frames.now c.unset_words.new.frames c.unset_words.result c.closed.result c.unset_words.ensures c.closed.ensures
