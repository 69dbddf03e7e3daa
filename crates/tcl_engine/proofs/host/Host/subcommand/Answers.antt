use Rattle.std.specs.Str.{chars}
use Rattle.tcl_engine.proofs.Calling.{none_answers}
use Rattle.tcl_engine.proofs.host.Host.subcommand.Goals as goal

pub returns-in-None-clause-answered : goal.returns-in-None-clause-answered
returns-in-None-clause-answered g c = none_answers c.args.dialect _ _ _ c.args.ensemble (chars c.args.word.now) c.args.words.now c.in-None.ensures (c.asked.ensures.answered _ _ (c.unknown_word.ensures c.args.dialect c.args.words.now))
