use Rattle.tcl_engine.proofs.Calling.{seen_answers, exit_answers}
use Rattle.tcl_engine.proofs.host.Host.page.Goals as goal

pub returns-in-Seen-clause-answered : goal.returns-in-Seen-clause-answered
returns-in-Seen-clause-answered g c = seen_answers c.args.dialect _ _ _ c.args.page c.in-Seen.page c.args.words.now c.in-Seen.is (c.done_in.ensures.answered _ _ _ c.seen.ensures _ _)

pub returns-in-Exit-clause-answered : goal.returns-in-Exit-clause-answered
returns-in-Exit-clause-answered g c = exit_answers c.args.dialect _ _ _ c.args.page c.args.words.now c.in-Exit.is (c.exited.ensures.answered _ _ c.exit_page.ensures)

pub returns-in-Puts-clause-answered : goal.returns-in-Puts-clause-answered
returns-in-Puts-clause-answered g c = c.over_channels.ensures.answered _ _

pub returns-in-Update-clause-answered : goal.returns-in-Update-clause-answered
returns-in-Update-clause-answered g c = c.asked_over.ensures.answered _ _ _ c.over_frames.ensures _ _ _

pub returns-in_default-clause-answered : goal.returns-in_default-clause-answered
returns-in_default-clause-answered g c = c.asked.ensures.answered _ _ c.at_once.ensures
