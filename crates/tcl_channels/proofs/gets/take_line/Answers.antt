use Rattle.std.proofs.Common.{refl, subst, sym}
use Rattle.std.specs.Prelude.{option_map}
use Rattle.std.proofs.lemmas.Result.{err_from_is_err_and}
use Rattle.tcl_chars.specs.Texts.{text_of}
use Rattle.tcl_meaning.specs.Completions.{Completion}
use Rattle.tcl_steps.specs.Comes.{state_of}
use Rattle.tcl_channels.specs.Leaves.{Leaves}
use Rattle.tcl_channels.specs.Orders.{gets_into}
use Rattle.tcl_channels.specs.Shown.{channels_of}
use Rattle.tcl_channels.proofs.CountLemmas.{closed_count}
use Rattle.tcl_channels.proofs.GetsLemmas.{gets_kept, texts_of}
use Rattle.tcl_channels.proofs.LeavesLemmas.{leaves_fault, leaves_taken}
use Rattle.tcl_channels.proofs.TakeLemmas.{broken_works}
use Rattle.tcl_channels.proofs.gets.take_line.Goals as goal

pub returns-in_err-line-clause-works : goal.returns-in_err-line-clause-works
returns-in_err-line-clause-works g c =
    let p = err_from_is_err_and c.from_residual.result c.from_residual.ensures.1 in
    λ cs units. rw (p.1, p.2) (broken_works g.R.Input.to_come g.W.Output.written g.E.Output.written c.args.world.now c.gets.new.self c.in_err-line.ensures.outputs (gets_into (option_map text_of c.args.name))
    (state_of cs (channels_of g.R.Input.to_come g.W.Output.written g.E.Output.written c.args.world.now) units c.args.frames.now) (state_of cs (channels_of g.R.Input.to_come g.W.Output.written g.E.Output.written c.gets.new.self) units c.args.frames.now) c.in_err-line.field-0.0 refl refl)

pub returns-in_err-line-clause-leaves : goal.returns-in_err-line-clause-leaves
returns-in_err-line-clause-leaves g c =
    let p = err_from_is_err_and c.from_residual.result c.from_residual.ensures.1 in
    rw (p.1, p.2) (leaves_fault g.R.Input.failed_calls g.W.Output.failed_calls g.E.Output.failed_calls c.args.world.now c.gets.new.self c.in_err-line.ensures.devices Completion c.in_err-line.field-0.0 c.in_err-line.ensures.fault c.in_err-line.ensures.failures c.in_err-line.ensures.outputs)

pub returns-clause-works : goal.returns-clause-works
returns-clause-works g c =
    λ cs units.
    gets_kept g.R.Input.to_come g.W.Output.written g.E.Output.written c.args.world.now c.gets.new.self c.in_ok-line.ensures.outputs (option_map text_of c.args.name) _ (option_map text_of c.in_ok-line.line) c.args.frames.now c.keep_line.new.frames cs units
    c.keep_line.result c.closed.result (texts_of c.in_ok-line.line) c.in_ok-line.ensures.line c.keep_line.ensures c.closed.ensures.closed

pub returns-clause-leaves : goal.returns-clause-leaves
returns-clause-leaves g c =
    subst (λ io. Leaves g.R.Input.failed_calls g.W.Output.failed_calls g.E.Output.failed_calls io c.args.world.now c.gets.new.self) (sym c.closed.ensures.quiet)
    (leaves_taken g.R.Input.failed_calls g.W.Output.failed_calls g.E.Output.failed_calls c.args.world.now c.gets.new.self c.in_ok-line.ensures.devices c.in_ok-line.ensures.failures c.in_ok-line.ensures.outputs)

pub returns-clause-count : goal.returns-clause-count
returns-clause-count g c = closed_count _ c.args.frames.now c.keep_line.new.frames c.keep_line.result c.closed.result c.keep_line.ensures c.closed.ensures.closed
