use Rattle.std.proofs.Common.{sym, ap, ◌∙◌}
use Rattle.std.proofs.lemmas.Result.{err_from_is_err_and}
use Rattle.std.proofs.lemmas.Str.{chars-nil}
use Rattle.std.specs.Str.{chars}
use Rattle.std.specs.String.{string_bytes}
use Rattle.tcl_channels.specs.Shown.{channels_of}
use Rattle.tcl_shell.specs.Faults.{text_by}
use Rattle.tcl_shell.proofs.Sessions.{asked_ended, taken_asked, broken_asked}
use Rattle.tcl_shell.proofs.input.ask_text.Goals as goal

pub returns-in_err-prompt-clause-asked : goal.returns-in_err-prompt-clause-asked
returns-in_err-prompt-clause-asked g c =
    let channels = channels_of g.R.Input.to_come g.W.Output.written g.E.Output.written in
    let p = err_from_is_err_and c.from_residual.result c.from_residual.ensures.1 in
    broken_asked (text_by c.from_residual.result) p.0 (channels c.args.world.now) (channels c.prompt.new.world) (ap text_by p.1) c.in_err-prompt.ensures.changes

pub returns-then-eof-clause-asked : goal.returns-then-eof-clause-asked
returns-then-eof-clause-asked g c =
    let channels = channels_of g.R.Input.to_come g.W.Output.written g.E.Output.written in
    λ d n store units.
    asked_ended d n store units (channels c.args.world.now) (channels c.prompt.new.world) (chars (string_bytes c.new.result)) (ap chars c.new.ensures.bytes ∙ chars-nil) (c.in_ok-prompt.ensures.changes store units) (sym c.eof.ensures ∙ c.if-eof.true)

pub returns-clause-asked : goal.returns-clause-asked
returns-clause-asked g c =
    let channels = channels_of g.R.Input.to_come g.W.Output.written g.E.Output.written in
    let took = c.take_text.ensures in
    taken_asked c.take_text.result (channels c.args.world.now) (channels c.prompt.new.world) (channels c.take_text.new.world) c.in_ok-prompt.ensures.changes (sym c.eof.ensures ∙ c.if-eof.false) took.taken
    (ap g.W.Output.written took.outputs.stdout) (ap g.E.Output.written took.outputs.stderr)
