use Rattle.std.proofs.Common.{subst, sym}
use Rattle.tcl_meaning.specs.Asking.{Asks}
use Rattle.tcl_meaning.specs.Channels.{read_page}
use Rattle.tcl_channels.specs.Works.{Works}
use Rattle.tcl_channels.specs.Orders.{read_from}
use Rattle.tcl_channels.specs.Shown.{channels_of, over}
use Rattle.tcl_channels.specs.declared.input.Read.{Read}
use Rattle.tcl_channels.proofs.ChannelLemmas.{outputs_stay}
use Rattle.tcl_channels.proofs.NameLemmas.{halts_works}
use Rattle.tcl_channels.proofs.input.read_page.Goals as goal

pub returns-in-Err-clause-works : goal.returns-in-Err-clause-works
returns-in-Err-clause-works g c =
    λ store units.
    halts_works (λ (read : Read). read_from read.count read.newline) (read_page c.args.dialect c.args.words.now) c.in-Err.stop c.halted.result (over store (channels_of g.R.Input.to_come g.W.Output.written g.E.Output.written c.args.world.now) units) c.in-Err.ensures c.halted.ensures

pub returns-in-Ok-clause-works : goal.returns-in-Ok-clause-works
returns-in-Ok-clause-works g c =
    λ store units.
    subst (λ (p : Asks). Works p (over store (channels_of g.R.Input.to_come g.W.Output.written g.E.Output.written c.args.world.now) units) c.take.result (over store (channels_of g.R.Input.to_come g.W.Output.written g.E.Output.written c.take.new.world) units)) (sym c.in-Ok.ensures) (c.take.ensures.works store units)

pub returns-in-Ok-clause-adds : goal.returns-in-Ok-clause-adds
returns-in-Ok-clause-adds g c = outputs_stay g.R.Input.to_come g.W.Output.written g.E.Output.written c.args.world.now c.take.new.world c.take.ensures.outputs
