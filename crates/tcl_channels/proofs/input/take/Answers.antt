use Rattle.std.proofs.Common.{refl, subst, sym, ap, ◌∙◌}
use Rattle.std.proofs.lemmas.Result.{err_from_is_err_and}
use Rattle.std.specs.Rc.{rc_str_bytes}
use Rattle.tcl_chan.specs.declared.fault.ChanFault.TheVariants as chan_fault
use Rattle.tcl_meaning.specs.Agreement.{Agrees}
use Rattle.tcl_meaning.specs.Completions.{Completion, normal}
use Rattle.tcl_meaning.specs.Effects.{Gives, does}
use Rattle.tcl_meaning.specs.Tasks.{Done}
use Rattle.tcl_steps.specs.Ends.{first_step}
use Rattle.tcl_channels.specs.Orders.{read_from}
use Rattle.tcl_channels.specs.Shown.{channels_of, over}
use Rattle.tcl_channels.proofs.LeavesLemmas.{leaves_fault}
use Rattle.tcl_channels.proofs.TakeLemmas.{broken_works, read_works}
use Rattle.tcl_channels.proofs.input.take.Goals as goal

pub returns-in_err-taken-clause-works : goal.returns-in_err-taken-clause-works
returns-in_err-taken-clause-works g c =
    let p = err_from_is_err_and c.from_residual.result c.from_residual.ensures.1 in
    λ store units. rw (p.1, p.2) (broken_works g.R.Input.to_come g.W.Output.written g.E.Output.written c.args.world.now c.read.new.self c.in_err-taken.ensures.outputs (read_from c.args.read.count c.args.read.newline)
    (over store (channels_of g.R.Input.to_come g.W.Output.written g.E.Output.written c.args.world.now) units) (over store (channels_of g.R.Input.to_come g.W.Output.written g.E.Output.written c.read.new.self) units) c.in_err-taken.field-0.0 refl refl)

pub returns-in_err-taken-clause-leaves : goal.returns-in_err-taken-clause-leaves
returns-in_err-taken-clause-leaves g c =
    let p = err_from_is_err_and c.from_residual.result c.from_residual.ensures.1 in
    rw (p.1, p.2) (leaves_fault g.R.Input.failed_calls g.W.Output.failed_calls g.E.Output.failed_calls c.args.world.now c.read.new.self c.in_err-taken.ensures.devices Completion c.in_err-taken.field-0.0 c.in_err-taken.ensures.fault c.in_err-taken.ensures.failures c.in_err-taken.ensures.outputs)

pub returns-in_err-text-clause-works : goal.returns-in_err-text-clause-works
returns-in_err-text-clause-works g c =
    let p = err_from_is_err_and c.from_residual-in_err-text.result c.from_residual-in_err-text.ensures.1 in
    λ store units. rw (p.1, p.2) (broken_works g.R.Input.to_come g.W.Output.written g.E.Output.written c.args.world.now c.read.new.self c.in_ok-taken.ensures.outputs (read_from c.args.read.count c.args.read.newline)
    (over store (channels_of g.R.Input.to_come g.W.Output.written g.E.Output.written c.args.world.now) units) (over store (channels_of g.R.Input.to_come g.W.Output.written g.E.Output.written c.read.new.self) units) chan_fault.Memory refl refl)

pub returns-in_err-of_shared-clause-works : goal.returns-in_err-of_shared-clause-works
returns-in_err-of_shared-clause-works g c =
    let p = err_from_is_err_and c.from_residual-in_err-of_shared.result c.from_residual-in_err-of_shared.ensures.1 in
    λ store units. rw (p.1, p.2) (broken_works g.R.Input.to_come g.W.Output.written g.E.Output.written c.args.world.now c.read.new.self c.in_ok-taken.ensures.outputs (read_from c.args.read.count c.args.read.newline)
    (over store (channels_of g.R.Input.to_come g.W.Output.written g.E.Output.written c.args.world.now) units) (over store (channels_of g.R.Input.to_come g.W.Output.written g.E.Output.written c.read.new.self) units) chan_fault.Memory refl refl)

pub returns-clause-works : goal.returns-clause-works
returns-clause-works g c =
    λ store units.
    subst (λ (k : Completion). Agrees (does (first_step (read_from c.args.read.count c.args.read.newline)) (over store (channels_of g.R.Input.to_come g.W.Output.written g.E.Output.written c.args.world.now) units)) (Gives (Done k) (over store (channels_of g.R.Input.to_come g.W.Output.written g.E.Output.written c.read.new.self) units)))
    (sym (c.normal.ensures ∙ ap normal (c.in_ok-of_shared.ensures ∙ c.in_ok-text.ensures)))
    (read_works g.R.Input.to_come g.W.Output.written g.E.Output.written c.args.world.now c.read.new.self c.in_ok-taken.ensures.outputs c.args.read.count c.args.read.newline (rc_str_bytes c.in_ok-taken.taken) store units c.in_ok-taken.ensures.text)
