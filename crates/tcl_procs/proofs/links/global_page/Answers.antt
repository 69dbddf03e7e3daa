use Rattle.tcl_meaning.specs.ProcedurePages.{global_page}
use Rattle.tcl_steps.proofs.Endings.{closes}
use Rattle.tcl_procs.proofs.links.global_page.Goals as goal

pub returns : goal.returns
returns c = closes (global_page c.args.words.now) c.args.frames.now c.global_words.new.frames c.global_words.result c.closed.result c.global_words.ensures c.closed.ensures
