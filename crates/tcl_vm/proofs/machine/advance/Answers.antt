use Rattle.std.proofs.Common.{refl, Err, ap, ◌∙◌, arith}
use Rattle.std.proofs.lemmas.Result.{err_from_is_err_and}
use Rattle.tcl_vm.specs.Machines.{waitings}
use Rattle.tcl_vm.proofs.Advancing.{makes_err, strides_asks, strides_paid, strides_over, strides_stop, later_asks, later_over, strides_unpaid}
use Rattle.tcl_vm.proofs.Unwinding.{unwinds_same}
use Rattle.tcl_vm.proofs.machine.advance.Goals as goal

pub step-requires : goal.step-requires
step-requires g c = c.requires.by.0

pub returns-in_err-step-clause-makes : goal.returns-in_err-step-clause-makes
returns-in_err-step-clause-makes g c =
    let p = err_from_is_err_and c.from_residual.result c.from_residual.ensures.1 in
    makes_err (g.E.Engine.dialect c.args.engine.now) g.E.Engine.views c.from_residual.result c.in_err-step.field-0.0 _ _ _ (p.1 ∙ ap Err p.2)
    (strides_stop (g.E.Engine.dialect c.args.engine.now) g.E.Engine.views (waitings g.E.Engine.views c.args.machine.now.callers.items) _ _ c.in_err-step.ensures.makes c.in_err-step.field-0.0 refl)

pub overflow_sub-machine : goal.overflow_sub-machine
overflow_sub-machine g c = strides_paid (g.E.Engine.dialect c.args.engine.now) g.E.Engine.views (waitings g.E.Engine.views c.args.machine.now.callers.items) _ _ c.in_ok-step.ensures.makes c.in_ok-step.field-0 c.in-Asks.step refl c.in-Asks.is c.requires

pub returns-in-Asks-clause-makes : goal.returns-in-Asks-clause-makes
returns-in-Asks-clause-makes g c = record {
  turned = strides_asks (g.E.Engine.dialect c.args.engine.now) g.E.Engine.views (waitings g.E.Engine.views c.args.machine.now.callers.items) _ _ c.in_ok-step.ensures.makes c.in_ok-step.field-0 c.in-Asks.step refl c.in-Asks.is;
  later = later_asks (g.E.Engine.dialect c.args.engine.now) g.E.Engine.views (waitings g.E.Engine.views c.args.machine.now.callers.items) _ _ c.in_ok-step.ensures.makes c.in_ok-step.field-0 c.in-Asks.step refl c.in-Asks.is;
  unwinds = unwinds_same _ _ refl c.in_ok-step.ensures.frames;
}

pub returns-in-Over-clause-makes : goal.returns-in-Over-clause-makes
returns-in-Over-clause-makes g c = record {
  turned = strides_over (g.E.Engine.dialect c.args.engine.now) g.E.Engine.views (waitings g.E.Engine.views c.args.machine.now.callers.items) _ _ c.in_ok-step.ensures.makes c.in_ok-step.field-0 c.in-Over.completion refl c.in-Over.is;
  later = later_over (g.E.Engine.dialect c.args.engine.now) g.E.Engine.views (waitings g.E.Engine.views c.args.machine.now.callers.items) _ _ c.in_ok-step.ensures.makes c.in_ok-step.field-0 c.in-Over.completion refl c.in-Over.is;
  unwinds = unwinds_same _ _ refl c.in_ok-step.ensures.frames;
}

pub returns-in-Unpaid-clause-makes : goal.returns-in-Unpaid-clause-makes
returns-in-Unpaid-clause-makes g c =
    let h = strides_unpaid (g.E.Engine.dialect c.args.engine.now) g.E.Engine.views (waitings g.E.Engine.views c.args.machine.now.callers.items) _ _ c.in_ok-step.ensures.makes c.in_ok-step.field-0 refl c.in-Unpaid.is in
    record { pauses = h.pauses; fits = h.fits; unwinds = unwinds_same _ _ refl c.in_ok-step.ensures.frames }
