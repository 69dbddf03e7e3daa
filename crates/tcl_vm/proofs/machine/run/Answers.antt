use Rattle.std.proofs.Common.{false, Err, refl, ap, sym, subst, ◌∙◌, ◌^◌, ◌<◌}
use Rattle.std.proofs.lemmas.Result.{err_from_is_err_and}
use Rattle.tcl_vm.proofs.Dialects.{ends_in}
use Rattle.tcl_vm.proofs.Going.{refused_follows, begins_fits, begins_unwinds, run_follows, ends_onward}
use Rattle.tcl_vm.proofs.machine.run.Goals as goal

pub returns-in_err-paused-clause-follows : goal.returns-in_err-paused-clause-follows
returns-in_err-paused-clause-follows g c =
    let p = err_from_is_err_and c.from_residual.result c.from_residual.ensures.1 in
    refused_follows (g.E.Engine.dialect c.args.engine.now) c.from_residual.result c.args.depth c.args.script _ _ (p.1 ∙ ap Err p.2) c.in_err-paused.ensures.same

pub resume-requires-clause-fits : goal.resume-requires-clause-fits
resume-requires-clause-fits g c = begins_fits (g.E.Engine.dialect c.args.engine.now) c.args.script c.args.depth _ c.in_ok-paused.ensures.begins c.requires.shallow

pub resume-requires-clause-unwinds : goal.resume-requires-clause-unwinds
resume-requires-clause-unwinds g c = begins_unwinds (g.E.Engine.dialect c.args.engine.now) c.args.script c.args.depth _ c.in_ok-paused.ensures.begins c.requires.shallow

pub returns-clause-follows : goal.returns-clause-follows
returns-clause-follows g c = run_follows (g.E.Engine.dialect c.args.engine.now) c.resume.result c.args.script c.args.depth _ _ (g.E.Engine.shown c.args.engine.now) c.in_ok-paused.ensures.begins c.requires.shallow c.in_ok-paused.ensures.same (ends_in (g.met.E.Engine.dialect_left false _ _ c.in_ok-paused.ensures.leaves) _ _ _ c.resume.ensures.ends)

pub returns-clause-leaves : goal.returns-clause-leaves
returns-clause-leaves g c = g.met.E.Engine.leaves_then _ _ _ _ c.in_ok-paused.ensures.leaves c.resume.ensures.leaves
