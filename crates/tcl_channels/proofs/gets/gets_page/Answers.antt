use Rattle.std.proofs.Common.{subst, sym}
use Rattle.tcl_meaning.specs.Asking.{Asks}
use Rattle.tcl_channels.specs.Works.{Works}
use Rattle.std.specs.Prelude.{Option, option_map}
use Rattle.std.specs.declared.alloc.Global.{Global}
use Rattle.std.specs.declared.rc.RcStr.{RcStr}
use Rattle.tcl_chars.specs.Texts.{text_of}
use Rattle.tcl_meaning.specs.Channels.{gets_page}
use Rattle.tcl_steps.specs.Comes.{state_of}
use Rattle.tcl_channels.specs.Orders.{gets_into}
use Rattle.tcl_channels.specs.Shown.{channels_of}
use Rattle.tcl_channels.proofs.ChannelLemmas.{outputs_stay}
use Rattle.tcl_channels.proofs.NameLemmas.{halts_works}
use Rattle.tcl_channels.proofs.gets.gets_page.Goals as goal

pub returns-in-Err-clause-works : goal.returns-in-Err-clause-works
returns-in-Err-clause-works g c =
    λ cs units.
    halts_works (λ (into : Option (RcStr Global)). gets_into (option_map text_of into)) (gets_page c.args.words.now) c.in-Err.stop c.halted.result (state_of cs (channels_of g.R.Input.to_come g.W.Output.written g.E.Output.written c.args.world.now) units c.args.frames.now) c.in-Err.ensures c.halted.ensures

pub returns-in-Ok-clause-works : goal.returns-in-Ok-clause-works
returns-in-Ok-clause-works g c =
    λ cs units.
    subst (λ (p : Asks). Works p (state_of cs (channels_of g.R.Input.to_come g.W.Output.written g.E.Output.written c.args.world.now) units c.args.frames.now) c.take_line.result (state_of cs (channels_of g.R.Input.to_come g.W.Output.written g.E.Output.written c.take_line.new.world) units c.take_line.new.frames)) (sym c.in-Ok.ensures) (c.take_line.ensures.works cs units)

pub returns-in-Ok-clause-adds : goal.returns-in-Ok-clause-adds
returns-in-Ok-clause-adds g c = outputs_stay g.R.Input.to_come g.W.Output.written g.E.Output.written c.args.world.now c.take_line.new.world c.take_line.ensures.outputs
