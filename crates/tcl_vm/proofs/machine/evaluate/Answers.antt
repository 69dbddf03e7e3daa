use Rattle.std.proofs.Common.{Err, ap, ◌∙◌, arith}
use Rattle.std.proofs.lemmas.Result.{err_from_is_err_and}
use Rattle.tcl_meaning.specs.Completions.{nothing}
use Rattle.tcl_vm.proofs.Advancing.{makes_err}
use Rattle.tcl_vm.proofs.Making.{refused_same, evaluate_made, evaluate_later, evaluate_unwinds}
use Rattle.tcl_vm.specs.declared.engine.Stop.TheVariants as stop
use Rattle.tcl_vm.proofs.machine.evaluate.Goals as goal

pub expression-requires : goal.expression-requires
expression-requires g c = let f = (c.requires.by.0.then_fits nothing).deep in let e = c.depth-depth.ensures in omega arith

pub returns-in_err-activation-clause-makes : goal.returns-in_err-activation-clause-makes
returns-in_err-activation-clause-makes g c =
    let p = err_from_is_err_and c.from_residual.result c.from_residual.ensures.1 in
    makes_err (g.E.Engine.dialect c.args.engine.now) g.E.Engine.views c.from_residual.result stop.Memory _ _ _ (p.1 ∙ ap Err p.2) (refused_same (g.E.Engine.dialect c.args.engine.now) _ _ c.in_err-activation.ensures.same)

pub returns-in_err-begin-clause-makes : goal.returns-in_err-begin-clause-makes
returns-in_err-begin-clause-makes g c =
    let p = err_from_is_err_and c.from_residual-in_err-begin.result c.from_residual-in_err-begin.ensures.1 in
    makes_err (g.E.Engine.dialect c.args.engine.now) g.E.Engine.views c.from_residual-in_err-begin.result stop.Memory _ _ _ (p.1 ∙ ap Err p.2) (refused_same (g.E.Engine.dialect c.args.engine.now) _ _ c.in_ok-activation.ensures.same)

pub returns-clause-makes : goal.returns-clause-makes
returns-clause-makes g c =
    let f = (c.requires.by.0.then_fits nothing).deep in
    let e = c.depth-depth.ensures in
    record {
      turned = evaluate_made (g.E.Engine.dialect c.args.engine.now) g.E.Engine.views c.args.machine.now c.begin.new.self c.in_ok-activation.activation c.args.text c.args.owes c.stay-undone.result c.depth-depth.result (g.E.Engine.shown c.args.engine.now) _ e (omega arith) c.in_ok-activation.ensures.begins c.in_ok-activation.ensures.same c.stay-undone.ensures c.in_ok-begin.ensures.current c.in_ok-begin.ensures.callers c.in_ok-begin.ensures.paid;
      later = evaluate_later (g.E.Engine.dialect c.args.engine.now) g.E.Engine.views c.args.machine.now c.begin.new.self c.in_ok-activation.activation c.args.text c.args.owes c.stay-undone.result c.depth-depth.result (g.E.Engine.shown c.args.engine.now) _ e (omega arith) c.in_ok-activation.ensures.begins c.in_ok-activation.ensures.same c.stay-undone.ensures c.in_ok-begin.ensures.current c.in_ok-begin.ensures.callers c.in_ok-begin.ensures.paid;
      unwinds = evaluate_unwinds g.E.Engine.views c.args.machine.now c.begin.new.self c.args.owes c.stay-undone.result (g.E.Engine.shown c.args.engine.now) _ c.in_ok-activation.ensures.same c.stay-undone.ensures c.in_ok-begin.ensures.callers _ _ _ _;
    }
