use Rattle.std.proofs.Common.{false, rules, ◌≡◌, [], ◌∷◌, ◌++◌, Ok, Err, ap, subst, sym, ◌∙◌}
use Rattle.std.proofs.lemmas.Result.{err_from_is_err_and}
use Rattle.tcl_vm.proofs.Advancing.{makes_err}
use Rattle.tcl_vm.proofs.Dialects.{owed_in}
use Rattle.tcl_vm.proofs.Making.{back_can, back_made, back_later, back_stops, back_unwinds}
use Rattle.tcl_vm.specs.Engines.{completion_of}
use Rattle.tcl_vm.specs.Machines.{Makes, config_of}
use Rattle.tcl_vm.specs.declared.machine.Made.TheVariants as made
use Rattle.tcl_vm.specs.declared.machine.Turn.TheVariants as turn
use Rattle.tcl_vm.proofs.machine.end.Goals as goal

pub returns-in_err-next-in-Some-clause-makes : goal.returns-in_err-next-in-Some-clause-makes
returns-in_err-next-in-Some-clause-makes g c =
    let p = err_from_is_err_and c.from_residual.result c.from_residual.ensures.1 in
    let e : c.args.machine.now.callers.items ≡ c.pop.new.self.items ++ c.in-Some.waiting ∷ [] = search rules in
    makes_err (g.E.Engine.dialect c.args.engine.now) g.E.Engine.views c.from_residual.result c.in_err-next-in-Some.field-0.0 _ _ _ (p.1 ∙ ap Err p.2)
    (back_stops (g.E.Engine.dialect c.args.engine.now) g.E.Engine.views c.args.machine.now c.pop.new.self.items c.in-Some.waiting (g.E.Engine.shown c.args.engine.now) _ _ c.args.completion e c.undo.ensures.undone c.in_err-next-in-Some.ensures.onward c.in_err-next-in-Some.field-0.0 (owed_in g.E.Engine.views (g.met.E.Engine.dialect_left false _ _ c.undo.ensures.leaves) (g.E.Engine.views.owes c.in-Some.waiting.owes) (completion_of c.args.completion) (g.E.Engine.shown c.undo.new.self) (g.E.Engine.shown c.owed.new.self) (Err c.in_err-next-in-Some.field-0.0) c.in_err-next-in-Some.ensures.answers))

pub returns-in_ok-next-in-Some-clause-makes : goal.returns-in_ok-next-in-Some-clause-makes
returns-in_ok-next-in-Some-clause-makes g c =
    let e : c.args.machine.now.callers.items ≡ c.pop.new.self.items ++ c.in-Some.waiting ∷ [] = search rules in
    subst (λ x. Makes (g.E.Engine.dialect c.args.engine.now) g.E.Engine.views (Ok (made.On (turn.Asking c.in_ok-next-in-Some.next))) (config_of g.E.Engine.views (turn.Ending c.args.completion) c.args.machine.now (g.E.Engine.shown c.args.engine.now)) (record { current = x; callers = c.pop.new.self; paid = c.in-Some.waiting.paid }) (g.E.Engine.shown c.owed.new.self))
    (sym c.replace-ended.ensures.after)
    (record {
      turned = back_made (g.E.Engine.dialect c.args.engine.now) g.E.Engine.views c.args.machine.now c.pop.new.self.items c.in-Some.waiting (g.E.Engine.shown c.args.engine.now) _ _ c.args.completion e c.undo.ensures.undone c.in_ok-next-in-Some.ensures.onward c.in_ok-next-in-Some.next (owed_in g.E.Engine.views (g.met.E.Engine.dialect_left false _ _ c.undo.ensures.leaves) (g.E.Engine.views.owes c.in-Some.waiting.owes) (completion_of c.args.completion) (g.E.Engine.shown c.undo.new.self) (g.E.Engine.shown c.owed.new.self) (Ok c.in_ok-next-in-Some.next) c.in_ok-next-in-Some.ensures.answers) c.in_ok-next-in-Some.ensures.fewer c.in_ok-next-in-Some.ensures.free;
      later = back_later (g.E.Engine.dialect c.args.engine.now) g.E.Engine.views c.args.machine.now c.pop.new.self.items c.in-Some.waiting (g.E.Engine.shown c.args.engine.now) _ _ c.args.completion e c.undo.ensures.undone c.in_ok-next-in-Some.ensures.onward c.in_ok-next-in-Some.next (owed_in g.E.Engine.views (g.met.E.Engine.dialect_left false _ _ c.undo.ensures.leaves) (g.E.Engine.views.owes c.in-Some.waiting.owes) (completion_of c.args.completion) (g.E.Engine.shown c.undo.new.self) (g.E.Engine.shown c.owed.new.self) (Ok c.in_ok-next-in-Some.next) c.in_ok-next-in-Some.ensures.answers) c.in_ok-next-in-Some.ensures.fewer c.in_ok-next-in-Some.ensures.free;
      unwinds = back_unwinds g.E.Engine.views c.args.machine.now c.pop.new.self.items c.in-Some.waiting (g.E.Engine.shown c.args.engine.now) _ _ e c.undo.ensures.undone c.in_ok-next-in-Some.ensures.frames _ _ _ _ _;
    })

pub undo-requires : goal.undo-requires
undo-requires g c =
    let e : c.args.machine.now.callers.items ≡ c.pop.new.self.items ++ c.in-Some.waiting ∷ [] = search rules in
    back_can g.E.Engine.views c.args.machine.now c.pop.new.self.items c.in-Some.waiting (g.E.Engine.shown c.args.engine.now) e _ _ c.requires.unwinds
