use Rattle.tcl_engine.proofs.engine.HostEngine.turned.Goals as goal

pub returns-clause-frames : goal.returns-clause-frames
returns-clause-frames g c = (c.asked_over.ensures.answered _ _ _ c.turned.ensures _ _ _).frames
