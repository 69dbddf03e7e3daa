use Rattle.std.proofs.Common.{Err, refl, ap, ◌∙◌, arith}
use Rattle.std.proofs.lemmas.Result.{err_from_is_err_and}
use Rattle.tcl_vm.proofs.Advancing.{makes_err}
use Rattle.tcl_vm.proofs.Making.{refused_same, refused_entered, run_made, run_later, run_unwinds, deep_made, deep_later, deep_stops}
use Rattle.tcl_vm.specs.declared.engine.Stop.TheVariants as stop
use Rattle.tcl_vm.proofs.Unwinding.{unwinds_same}
use Rattle.tcl_vm.proofs.machine.run_script.Goals as goal

pub returns-in_err-completion-clause-makes : goal.returns-in_err-completion-clause-makes
returns-in_err-completion-clause-makes g c =
    let p = err_from_is_err_and c.from_residual.result c.from_residual.ensures.1 in
    makes_err (g.E.Engine.dialect c.args.engine.now) g.E.Engine.views c.from_residual.result stop.Memory _ _ _ (p.1 ∙ ap Err p.2) (refused_same (g.E.Engine.dialect c.args.engine.now) _ _ refl)

pub returns-in_err-next-clause-makes : goal.returns-in_err-next-clause-makes
returns-in_err-next-clause-makes g c =
    let p = err_from_is_err_and c.from_residual-in_err-next.result c.from_residual-in_err-next.ensures.1 in
    makes_err (g.E.Engine.dialect c.args.engine.now) g.E.Engine.views c.from_residual-in_err-next.result c.in_err-next.field-0.0 _ _ _ (p.1 ∙ ap Err p.2)
    (deep_stops (g.E.Engine.dialect c.args.engine.now) g.E.Engine.views c.args.machine.now (g.E.Engine.shown c.args.engine.now) _ c.args.scope c.args.text c.args.owes c.depth-depth.result c.in_ok-completion.completion c.depth-depth.ensures c.if-depth-ge1000.true c.in_ok-completion.ensures c.in_err-next.ensures.onward c.in_err-next.field-0.0 c.in_err-next.ensures.answers)

pub returns-then-depth-ge1000-clause-makes : goal.returns-then-depth-ge1000-clause-makes
returns-then-depth-ge1000-clause-makes g c = record {
  turned = deep_made (g.E.Engine.dialect c.args.engine.now) g.E.Engine.views c.args.machine.now (g.E.Engine.shown c.args.engine.now) _ c.args.scope c.args.text c.args.owes c.depth-depth.result c.in_ok-completion.completion c.depth-depth.ensures c.if-depth-ge1000.true c.in_ok-completion.ensures c.in_ok-next.ensures.onward c.in_ok-next.next c.in_ok-next.ensures.answers c.in_ok-next.ensures.fewer c.in_ok-next.ensures.free;
  later = deep_later (g.E.Engine.dialect c.args.engine.now) g.E.Engine.views c.args.machine.now (g.E.Engine.shown c.args.engine.now) _ c.args.scope c.args.text c.args.owes c.depth-depth.result c.in_ok-completion.completion c.depth-depth.ensures c.if-depth-ge1000.true c.in_ok-completion.ensures c.in_ok-next.ensures.onward c.in_ok-next.next c.in_ok-next.ensures.answers c.in_ok-next.ensures.fewer c.in_ok-next.ensures.free;
  unwinds = unwinds_same _ _ refl c.in_ok-next.ensures.frames;
}

pub returns-in_err-activation-clause-makes : goal.returns-in_err-activation-clause-makes
returns-in_err-activation-clause-makes g c =
    let p = err_from_is_err_and c.from_residual-in_err-activation.result c.from_residual-in_err-activation.ensures.1 in
    makes_err (g.E.Engine.dialect c.args.engine.now) g.E.Engine.views c.from_residual-in_err-activation.result stop.Memory _ _ _ (p.1 ∙ ap Err p.2) (refused_same (g.E.Engine.dialect c.args.engine.now) _ _ c.in_err-activation.ensures.same)

pub returns-in_err-undone-clause-makes : goal.returns-in_err-undone-clause-makes
returns-in_err-undone-clause-makes g c =
    let p = err_from_is_err_and c.from_residual-in_err-undone.result c.from_residual-in_err-undone.ensures.1 in
    makes_err (g.E.Engine.dialect c.args.engine.now) g.E.Engine.views c.from_residual-in_err-undone.result stop.Memory _ _ _ (p.1 ∙ ap Err p.2) (refused_same (g.E.Engine.dialect c.args.engine.now) _ _ (c.in_err-undone.ensures.same ∙ c.in_ok-activation.ensures.same))

pub returns-in_err-begin-clause-makes : goal.returns-in_err-begin-clause-makes
returns-in_err-begin-clause-makes g c =
    let p = err_from_is_err_and c.from_residual-in_err-begin.result c.from_residual-in_err-begin.ensures.1 in
    makes_err (g.E.Engine.dialect c.args.engine.now) g.E.Engine.views c.from_residual-in_err-begin.result stop.Memory _ _ _ (p.1 ∙ ap Err p.2) (refused_entered (g.E.Engine.dialect c.args.engine.now) _ (g.E.Engine.views.scope c.args.scope) _ _ c.in_ok-activation.ensures.same c.in_ok-undone.ensures.entered)

pub returns-clause-makes : goal.returns-clause-makes
returns-clause-makes g c = record {
  turned = run_made (g.E.Engine.dialect c.args.engine.now) g.E.Engine.views c.args.machine.now c.begin.new.self c.in_ok-activation.activation c.args.scope c.args.text c.args.owes c.in_ok-undone.undone c.depth-depth.result (g.E.Engine.shown c.args.engine.now) _ _ c.depth-depth.ensures (let z = c.if-depth-ge1000.false in omega arith) c.in_ok-activation.ensures.begins c.in_ok-activation.ensures.same c.in_ok-undone.ensures.undone c.in_ok-undone.ensures.entered c.in_ok-begin.ensures.current c.in_ok-begin.ensures.callers c.in_ok-begin.ensures.paid;
  later = run_later (g.E.Engine.dialect c.args.engine.now) g.E.Engine.views c.args.machine.now c.begin.new.self c.in_ok-activation.activation c.args.scope c.args.text c.args.owes c.in_ok-undone.undone c.depth-depth.result (g.E.Engine.shown c.args.engine.now) _ _ c.depth-depth.ensures (let z = c.if-depth-ge1000.false in omega arith) c.in_ok-activation.ensures.begins c.in_ok-activation.ensures.same c.in_ok-undone.ensures.undone c.in_ok-undone.ensures.entered c.in_ok-begin.ensures.current c.in_ok-begin.ensures.callers c.in_ok-begin.ensures.paid;
  unwinds = run_unwinds g.E.Engine.views c.args.machine.now c.begin.new.self c.args.scope c.args.owes c.in_ok-undone.undone (g.E.Engine.shown c.args.engine.now) _ _ c.in_ok-activation.ensures.same c.in_ok-undone.ensures.undone c.in_ok-undone.ensures.entered c.in_ok-undone.ensures.can c.in_ok-begin.ensures.callers _ _ _ _;
}
