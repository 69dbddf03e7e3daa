use Rattle.tcl_steps.specs.Views.{owes_of}
use Rattle.tcl_engine.proofs.Answering.{owed_fewer}
use Rattle.tcl_engine.proofs.engine.HostEngine.owed.Goals as goal

pub returns-clause-fewer : goal.returns-clause-fewer
returns-clause-fewer g c = owed_fewer c.dialect-dialect.result (owes_of c.args.owes) c.args.completion c.asked_over.result _ _ (c.asked_over.ensures.told _ _ _ c.after.ensures)

pub returns-clause-onward : goal.returns-clause-onward
returns-clause-onward g c = (c.asked_over.ensures.answered _ _ _ c.after.ensures _ _ _).onward

pub returns-clause-frames : goal.returns-clause-frames
returns-clause-frames g c = (c.asked_over.ensures.answered _ _ _ c.after.ensures _ _ _).frames
