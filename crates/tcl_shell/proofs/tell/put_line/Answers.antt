use Rattle.std.proofs.Common.{[], ◌∷◌, ◌++◌, refl}
use Rattle.std.proofs.lemmas.Result.{err_from_is_err_and}
use Rattle.std.specs.Str.{chars}
use Rattle.tcl_channels.specs.Shown.{channels_of, output_at}
use Rattle.tcl_channels.proofs.ChannelLemmas.{wrote_whole, wrote_front}
use Rattle.tcl_chars.specs.Characters.{newline}
use Rattle.tcl_shell.proofs.Writes.{broken, first_broken, line_changes}
use Rattle.tcl_shell.proofs.tell.put_line.Goals as goal

pub returns-in_err-puts-clause-changes : goal.returns-in_err-puts-clause-changes
returns-in_err-puts-clause-changes g c =
    let p = err_from_is_err_and c.from_residual.result c.from_residual.ensures.1 in
    let puts = c.in_err-puts.ensures in
    let channels = channels_of g.R.Input.to_come g.W.Output.written g.E.Output.written in
    let text = chars c.args.text.now in
    broken c.from_residual.result p.0 (output_at c.args.to) (text ++ newline ∷ []) (channels c.args.world.now) (channels c.puts.new.self) p.1
    (first_broken (output_at c.args.to) text (newline ∷ []) (channels c.args.world.now) (channels c.puts.new.self)
    (wrote_front g.R.Input.to_come g.W.Output.written g.E.Output.written c.args.world.now c.puts.new.self c.args.text.now c.args.to c.utf8.text puts.front puts.other))

pub returns-clause-changes : goal.returns-clause-changes
returns-clause-changes g c =
    let puts = c.in_ok-puts.ensures in
    let more = c.puts-2.ensures in
    line_changes g.R.Input.to_come g.W.Output.written g.E.Output.written c.args.world.now c.puts.new.self c.puts-2.new.self c.args.text.now c.args.to
    (wrote_whole g.R.Input.to_come g.W.Output.written g.E.Output.written c.args.world.now c.puts.new.self c.args.text.now c.args.to c.utf8.text puts.whole puts.other puts.input)
    c.puts-2.result more.whole more.front more.other more.input
