use Rattle.tcl_arrays.proofs.Endings.{seen_does}
use Rattle.tcl_arrays.proofs.looking.seen.Goals as goal

pub returns-clause-does : goal.returns-clause-does
returns-clause-does c = seen_does c.args.page c.args.words.now c.args.frames.now c.answer-answer.result c.completed.result c.answer-answer.ensures.answer c.completed.ensures
