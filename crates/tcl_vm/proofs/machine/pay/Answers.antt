use Rattle.std.proofs.Common.{refl, Err, ap, ◌∙◌}
use Rattle.std.proofs.lemmas.Result.{err_from_is_err_and}
use Rattle.tcl_vm.proofs.Advancing.{makes_err}
use Rattle.tcl_vm.proofs.Making.{unpaid_pauses, unpaid_fits, paid_made, paid_later, paid_stops}
use Rattle.tcl_vm.proofs.Unwinding.{frames_trans, spent_frames, unwinds_same}
use Rattle.tcl_vm.proofs.machine.pay.Goals as goal

pub returns-then-not-spend-clause-makes : goal.returns-then-not-spend-clause-makes
returns-then-not-spend-clause-makes g c = record {
  pauses = unpaid_pauses (g.E.Engine.dialect c.args.engine.now) g.E.Engine.views c.args.machine.now c.args.turns (g.E.Engine.shown c.args.engine.now) _ c.spend.result c.if-not-spend.true c.spend.ensures.spent;
  fits = unpaid_fits (g.E.Engine.dialect c.args.engine.now) g.E.Engine.views c.args.machine.now c.args.turns (g.E.Engine.shown c.args.engine.now) _ c.spend.result c.if-not-spend.true c.spend.ensures.spent;
  unwinds = unwinds_same _ _ refl (spent_frames c.spend.result _ _ c.spend.ensures.spent);
}

pub returns-in_err-next-clause-makes : goal.returns-in_err-next-clause-makes
returns-in_err-next-clause-makes g c =
    let p = err_from_is_err_and c.from_residual.result c.from_residual.ensures.1 in
    makes_err (g.E.Engine.dialect c.args.engine.now) g.E.Engine.views c.from_residual.result c.in_err-next.field-0.0 _ _ _ (p.1 ∙ ap Err p.2)
    (paid_stops (g.E.Engine.dialect c.args.engine.now) g.E.Engine.views c.args.machine.now c.args.turns (g.E.Engine.shown c.args.engine.now) _ _ c.spend.result c.if-not-spend.false c.spend.ensures.spent c.in_err-next.ensures.onward c.in_err-next.field-0.0 c.in_err-next.ensures.answers)

pub returns-clause-makes : goal.returns-clause-makes
returns-clause-makes g c = record {
  turned = paid_made (g.E.Engine.dialect c.args.engine.now) g.E.Engine.views c.args.machine.now c.args.turns (g.E.Engine.shown c.args.engine.now) _ _ c.spend.result c.if-not-spend.false c.spend.ensures.spent c.in_ok-next.ensures.onward c.in_ok-next.next c.in_ok-next.ensures.answers c.in_ok-next.ensures.free;
  later = paid_later (g.E.Engine.dialect c.args.engine.now) g.E.Engine.views c.args.machine.now c.args.turns (g.E.Engine.shown c.args.engine.now) _ _ c.spend.result c.if-not-spend.false c.spend.ensures.spent c.in_ok-next.ensures.onward c.in_ok-next.next c.in_ok-next.ensures.answers c.in_ok-next.ensures.free;
  unwinds = unwinds_same _ _ refl (frames_trans _ _ _ (spent_frames c.spend.result _ _ c.spend.ensures.spent) c.in_ok-next.ensures.frames);
}
