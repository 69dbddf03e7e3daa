use Rattle.std.proofs.Common.{false, Ok, Err, ap, ◌∙◌, arith}
use Rattle.std.proofs.lemmas.Result.{err_from_is_err_and}
use Rattle.tcl_vm.specs.Engines.{completion_of}
use Rattle.tcl_vm.specs.Machines.{config_of}
use Rattle.tcl_vm.specs.Turns.{On, Begun, Used}
use Rattle.tcl_vm.specs.declared.machine.Made.TheVariants as made
use Rattle.tcl_vm.proofs.Dialects.{makes_in, stops_in}
use Rattle.tcl_vm.proofs.Going.{keeps_turned, keeps_over, keeps_stops, keeps_held, ends_err, made_as, stops_as}
use Rattle.tcl_vm.proofs.machine.go.Goals as goal

pub returns-in_err-completion-clause-ends : goal.returns-in_err-completion-clause-ends
returns-in_err-completion-clause-ends g c =
    let p = err_from_is_err_and c.from_residual.result c.from_residual.ensures.1 in
    ends_err (g.E.Engine.dialect c.args.engine.now) c.from_residual.result c.in_err-completion.field-0.0 _ _ (p.1 ∙ ap Err p.2) (keeps_stops (g.E.Engine.dialect c.args.engine.now) _ _ c.in_err-completion.field-0.0 _ c.on.invariant.keeps (stops_in (g.met.E.Engine.dialect_left false _ _ c.on.invariant.leaves) c.in_err-completion.field-0.0 (config_of g.E.Engine.views c.on.now c.on.machine (g.E.Engine.shown c.on.engine)) (g.E.Engine.shown c.make.new.engine) c.in_err-completion.ensures.makes))

pub returns-in-Over-clause-ends : goal.returns-in-Over-clause-ends
returns-in-Over-clause-ends g c =
    let t = made_as (g.E.Engine.dialect c.args.engine.now) g.E.Engine.views c.in_ok-completion.field-0 (made.Over c.in-Over.completion) _ _ _ c.in-Over.is (makes_in g.E.Engine.views (g.met.E.Engine.dialect_left false _ _ c.on.invariant.leaves) (Ok c.in_ok-completion.field-0) (config_of g.E.Engine.views c.on.now c.on.machine (g.E.Engine.shown c.on.engine)) c.make.new.machine (g.E.Engine.shown c.make.new.engine) c.in_ok-completion.ensures.makes) in
    keeps_over (g.E.Engine.dialect c.args.engine.now) _ _ (completion_of c.in-Over.completion) _ c.on.invariant.keeps t

pub on-preserved : goal.on-preserved
on-preserved g c =
    let t = made_as (g.E.Engine.dialect c.args.engine.now) g.E.Engine.views c.in_ok-completion.field-0 (made.On c.in-On.turn) _ _ _ c.in-On.is (makes_in g.E.Engine.views (g.met.E.Engine.dialect_left false _ _ c.on.invariant.leaves) (Ok c.in_ok-completion.field-0) (config_of g.E.Engine.views c.on.now c.on.machine (g.E.Engine.shown c.on.engine)) c.make.new.machine (g.E.Engine.shown c.make.new.engine) c.in_ok-completion.ensures.makes) in
    let l = t.turned.less c.on.invariant.keeps.fits in
    record {
      keeps = keeps_turned (g.E.Engine.dialect c.args.engine.now) On _ _ _ c.on.invariant.keeps t;
      leaves = g.met.E.Engine.leaves_then false _ _ _ c.on.invariant.leaves c.in_ok-completion.ensures.leaves;
      less = let a = c.on.invariant.less in let b = l.0 in omega arith;
      fewer = let a = c.on.invariant.fewer in let b = l.1 in omega arith;
    }

pub begun-preserved : goal.begun-preserved
begun-preserved g c =
    let t = made_as (g.E.Engine.dialect c.args.engine.now) g.E.Engine.views c.in_ok-completion.field-0 (made.Begun c.in-Begun.turn) _ _ _ c.in-Begun.is (makes_in g.E.Engine.views (g.met.E.Engine.dialect_left false _ _ c.on.invariant.leaves) (Ok c.in_ok-completion.field-0) (config_of g.E.Engine.views c.on.now c.on.machine (g.E.Engine.shown c.on.engine)) c.make.new.machine (g.E.Engine.shown c.make.new.engine) c.in_ok-completion.ensures.makes) in
    let l = t.turned.less c.on.invariant.keeps.fits in
    record {
      keeps = keeps_turned (g.E.Engine.dialect c.args.engine.now) Begun _ _ _ c.on.invariant.keeps t;
      leaves = g.met.E.Engine.leaves_then false _ _ _ c.on.invariant.leaves c.in_ok-completion.ensures.leaves;
      less = let a = c.on.invariant.less in let b = l.0 in let d = c.begun.invariant.less in omega arith;
    }

pub used-preserved : goal.used-preserved
used-preserved g c =
    let t = made_as (g.E.Engine.dialect c.args.engine.now) g.E.Engine.views c.in_ok-completion.field-0 (made.Used c.in-Used.turn) _ _ _ c.in-Used.is (makes_in g.E.Engine.views (g.met.E.Engine.dialect_left false _ _ c.on.invariant.leaves) (Ok c.in_ok-completion.field-0) (config_of g.E.Engine.views c.on.now c.on.machine (g.E.Engine.shown c.on.engine)) c.make.new.machine (g.E.Engine.shown c.make.new.engine) c.in_ok-completion.ensures.makes) in
    record {
      keeps = keeps_turned (g.E.Engine.dialect c.args.engine.now) Used _ _ _ c.on.invariant.keeps t;
      leaves = g.met.E.Engine.leaves_then false _ _ _ c.on.invariant.leaves c.in_ok-completion.ensures.leaves;
    }

pub returns-in_err-completion-clause-leaves : goal.returns-in_err-completion-clause-leaves
returns-in_err-completion-clause-leaves g c =
    let p = err_from_is_err_and c.from_residual.result c.from_residual.ensures.1 in
    g.met.E.Engine.leaves_then _ _ _ _ c.on.invariant.leaves (stops_as g.E.Engine.leaves c.from_residual.result c.in_err-completion.field-0.0 _ _ (p.1 ∙ ap Err p.2) c.in_err-completion.ensures.leaves)

pub returns-in-Over-clause-leaves : goal.returns-in-Over-clause-leaves
returns-in-Over-clause-leaves g c = g.met.E.Engine.leaves_then false _ _ _ c.on.invariant.leaves c.in_ok-completion.ensures.leaves

pub returns-in-Unpaid-clause-ends : goal.returns-in-Unpaid-clause-ends
returns-in-Unpaid-clause-ends g c =
    let t = made_as (g.E.Engine.dialect c.args.engine.now) g.E.Engine.views c.in_ok-completion.field-0 (made.Unpaid c.in-Unpaid.turn) _ _ _ c.in-Unpaid.is (makes_in g.E.Engine.views (g.met.E.Engine.dialect_left false _ _ c.on.invariant.leaves) (Ok c.in_ok-completion.field-0) (config_of g.E.Engine.views c.on.now c.on.machine (g.E.Engine.shown c.on.engine)) c.make.new.machine (g.E.Engine.shown c.make.new.engine) c.in_ok-completion.ensures.makes) in
    keeps_held (g.E.Engine.dialect c.args.engine.now) _ _ _ c.on.invariant.keeps t

pub returns-in-Unpaid-clause-leaves : goal.returns-in-Unpaid-clause-leaves
returns-in-Unpaid-clause-leaves g c = g.met.E.Engine.leaves_then false _ _ _ c.on.invariant.leaves c.in_ok-completion.ensures.leaves
