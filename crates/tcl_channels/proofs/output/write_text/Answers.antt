use Rattle.std.proofs.Common.{ap, sym, ◌∙◌}
use Rattle.std.proofs.lemmas.Result.{err_from_is_err_and}
use Rattle.tcl_meaning.specs.Completions.{Completion, nothing}
use Rattle.tcl_meaning.specs.Effects.{Gives}
use Rattle.tcl_meaning.specs.State.{Channels}
use Rattle.tcl_meaning.specs.Tasks.{Done}
use Rattle.tcl_channels.specs.Shown.{channels_of, over}
use Rattle.tcl_channels.proofs.ChannelLemmas.{err_same, wrote_whole, write_broken}
use Rattle.tcl_channels.proofs.output.write_text.Goals as goal

pub returns-in_err-puts-clause-works : goal.returns-in_err-puts-clause-works
returns-in_err-puts-clause-works g c =
    let p = err_from_is_err_and c.from_residual-in_err-puts.result c.from_residual-in_err-puts.ensures.1 in
    λ store units. rw (p.1, p.2) (write_broken g.R.Input.to_come g.W.Output.written g.E.Output.written c.args.world.now c.puts.new.self c.args.text.now
    c.args.to store units c.in_err-puts.field-0.0 (err_same _ _ c.in_err-puts.ensures.fault) c.utf8.text c.in_err-puts.ensures.front c.in_err-puts.ensures.other)

pub returns-clause-works : goal.returns-clause-works
returns-clause-works g c =
    λ store units.
    ap (λ (k : Channels). Gives (Done nothing) (over store k units)) (wrote_whole g.R.Input.to_come g.W.Output.written g.E.Output.written c.args.world.now c.puts.new.self c.args.text.now
    c.args.to c.utf8.text c.in_ok-puts.ensures.whole c.in_ok-puts.ensures.other c.in_ok-puts.ensures.input)
    ∙ ap (λ (k : Completion). Gives (Done k) (over store (channels_of g.R.Input.to_come g.W.Output.written g.E.Output.written c.puts.new.self) units)) (sym c.in_ok-nothing.ensures)
