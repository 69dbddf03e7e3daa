use Rattle.std.proofs.Common.{refl}
use Rattle.tcl_engine.proofs.Answering.{same_count}
use Rattle.tcl_engine.proofs.Calling.{gets_answers}
use Rattle.tcl_engine.proofs.channels.over_channels.Goals as goal

pub returns-in-Gets-clause-answered : goal.returns-in-Gets-clause-answered
returns-in-Gets-clause-answered g c =
    λ cs units.
    gets_answers c.args.dialect _ _ _ c.args.page c.args.words.now c.in-Gets.is
    (c.worked-in-Gets.ensures.answered _ _ _ (c.gets.ensures.works cs units) c.gets.ensures.adds refl (same_count c.gets.result _ _ c.gets.ensures.count))
