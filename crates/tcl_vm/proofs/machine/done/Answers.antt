use Rattle.std.proofs.Common.{Err, refl, ap, ◌∙◌}
use Rattle.std.proofs.lemmas.Result.{err_from_is_err_and}
use Rattle.tcl_vm.proofs.Advancing.{makes_err}
use Rattle.tcl_vm.proofs.Making.{refused_same, done_made, failed_made, done_later, failed_later}
use Rattle.tcl_vm.specs.declared.engine.Stop.TheVariants as stop
use Rattle.tcl_vm.proofs.Unwinding.{frames_as, unwinds_same}
use Rattle.tcl_vm.proofs.machine.done.Goals as goal

pub returns-in_err-answer-clause-makes : goal.returns-in_err-answer-clause-makes
returns-in_err-answer-clause-makes g c =
    let p = err_from_is_err_and c.from_residual.result c.from_residual.ensures.1 in
    makes_err (g.E.Engine.dialect c.args.engine.now) g.E.Engine.views c.from_residual.result stop.Memory _ _ _ (p.1 ∙ ap Err p.2) (refused_same (g.E.Engine.dialect c.args.engine.now) _ _ refl)

pub returns-in-None-clause-makes : goal.returns-in-None-clause-makes
returns-in-None-clause-makes g c =
    let lands = rw c.in-None.is at c.in_ok-answer.ensures in
    record {
      turned = done_made (g.E.Engine.dialect c.args.engine.now) g.E.Engine.views c.args.machine.now c.answer.new.activation (g.E.Engine.shown c.args.engine.now) c.args.completion lands;
      later = done_later (g.E.Engine.dialect c.args.engine.now) g.E.Engine.views c.args.machine.now c.answer.new.activation (g.E.Engine.shown c.args.engine.now) c.args.completion lands;
      unwinds = unwinds_same _ _ refl (frames_as _ _ refl);
    }

pub returns-in-Some-clause-makes : goal.returns-in-Some-clause-makes
returns-in-Some-clause-makes g c =
    let lands = rw c.in-Some.is at c.in_ok-answer.ensures in
    record {
      turned = failed_made (g.E.Engine.dialect c.args.engine.now) g.E.Engine.views c.args.machine.now c.answer.new.activation (g.E.Engine.shown c.args.engine.now) c.args.completion c.in-Some.completion lands;
      later = failed_later (g.E.Engine.dialect c.args.engine.now) g.E.Engine.views c.args.machine.now c.answer.new.activation (g.E.Engine.shown c.args.engine.now) c.args.completion c.in-Some.completion lands;
      unwinds = unwinds_same _ _ refl (frames_as _ _ refl);
    }
