use Rattle.tcl_meaning.specs.ProcedurePages.{upvar_page}
use Rattle.tcl_steps.proofs.Endings.{closes}
use Rattle.tcl_procs.proofs.links.upvar_page.Goals as goal

pub returns : goal.returns
returns c = closes (upvar_page c.args.words.now) c.args.frames.now c.upvar_words.new.frames c.upvar_words.result c.closed.result c.upvar_words.ensures c.closed.ensures
