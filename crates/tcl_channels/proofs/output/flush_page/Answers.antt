use Rattle.tcl_meaning.specs.Channels.{flush_page}
use Rattle.tcl_meaning.specs.Asking.{done}
use Rattle.tcl_meaning.specs.Completions.{nothing}
use Rattle.tcl_chan.specs.declared.fault.Out.{Out}
use Rattle.tcl_channels.specs.Shown.{channels_of, over}
use Rattle.tcl_channels.proofs.NameLemmas.{halts_works}
use Rattle.tcl_channels.proofs.output.flush_page.Goals as goal

pub returns-in-Err-clause-works : goal.returns-in-Err-clause-works
returns-in-Err-clause-works g c =
    λ store units.
    halts_works (λ (to : Out). done nothing) (flush_page c.args.words.now) c.in-Err.stop c.halted.result (over store (channels_of g.R.Input.to_come g.W.Output.written g.E.Output.written c.args.world.now) units) c.in-Err.ensures c.halted.ensures
