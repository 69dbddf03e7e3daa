use Rattle.std.proofs.Common.{codes, refl, ap, ◌∙◌}
use Rattle.std.proofs.lemmas.Result.{err_from_is_err_and}
use Rattle.tcl_chan.specs.declared.fault.Out.TheVariants as out
use Rattle.tcl_channels.specs.Shown.{channels_of}
use Rattle.tcl_channels.proofs.ChannelLemmas.{wrote_whole, wrote_front}
use Rattle.tcl_chars.proofs.Literals.{literal_is_utf8}
use Rattle.tcl_chars.specs.Texts.{literal}
use Rattle.tcl_meaning.specs.State as meaning
use Rattle.tcl_shell.proofs.Writes.{written, broken, same_channels}
use Rattle.tcl_shell.proofs.tell.prompt.Goals as goal

pub returns-in_err-puts-clause-changes : goal.returns-in_err-puts-clause-changes
returns-in_err-puts-clause-changes g c =
    let p = err_from_is_err_and c.from_residual.result c.from_residual.ensures.1 in
    let puts = c.in_err-puts.ensures in
    let channels = channels_of g.R.Input.to_come g.W.Output.written g.E.Output.written in
    broken c.from_residual.result p.0 meaning.stdout (literal "% ") (channels c.args.world.now) (channels c.puts.new.self) p.1
    (wrote_front g.R.Input.to_come g.W.Output.written g.E.Output.written c.args.world.now c.puts.new.self (codes "% ") out.Stdout (literal_is_utf8 (codes "% ") refl) puts.front puts.other)

pub returns-clause-changes : goal.returns-clause-changes
returns-clause-changes g c =
    let puts = c.in_ok-puts.ensures in
    let flush = c.flush.ensures in
    let channels = channels_of g.R.Input.to_come g.W.Output.written g.E.Output.written in
    written c.flush.result meaning.stdout (literal "% ") (channels c.args.world.now) (channels c.flush.new.self)
    (wrote_whole g.R.Input.to_come g.W.Output.written g.E.Output.written c.args.world.now c.puts.new.self (codes "% ") out.Stdout (literal_is_utf8 (codes "% ") refl) puts.whole puts.other puts.input
    ∙ same_channels g.R.Input.to_come g.W.Output.written g.E.Output.written c.puts.new.self c.flush.new.self flush.input flush.written (ap g.E.Output.written flush.other))
