use Rattle.tcl_meaning.specs.Channels.{eof_page, said_ended}
use Rattle.tcl_channels.specs.Orders.{channel_at}
use Rattle.tcl_channels.specs.Shown.{channels_of, over}
use Rattle.tcl_channels.proofs.NameLemmas.{halts_works, halts_quiet}
use Rattle.tcl_channels.proofs.input.eof_page.Goals as goal

pub returns-in-Err-clause-works : goal.returns-in-Err-clause-works
returns-in-Err-clause-works g c =
    λ store units.
    halts_works (λ channel. said_ended (channel_at channel)) (eof_page c.args.words.now) c.in-Err.stop c.halted.result (over store (channels_of g.R.Input.to_come g.W.Output.written g.E.Output.written c.args.world.now) units) c.in-Err.ensures c.halted.ensures

pub returns-in-Err-clause-quiet : goal.returns-in-Err-clause-quiet
returns-in-Err-clause-quiet g c = halts_quiet c.in-Err.stop c.halted.result c.halted.ensures
