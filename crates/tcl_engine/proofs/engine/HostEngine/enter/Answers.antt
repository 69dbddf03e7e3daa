use Rattle.tcl_engine.proofs.engine.HostEngine.enter.Goals as goal

pub returns-clause-can : goal.returns-clause-can
returns-clause-can g c = c.enter.ensures.can _ _ _
