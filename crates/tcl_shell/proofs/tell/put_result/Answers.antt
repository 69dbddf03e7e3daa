use Rattle.std.proofs.Common.{sym, ap, ◌∙◌}
use Rattle.std.specs.Str.{chars}
use Rattle.std.proofs.lemmas.Str.{chars-nil}
use Rattle.tcl_channels.specs.Shown.{channels_of, over}
use Rattle.tcl_shell.proofs.Writes.{nothing_told, result_changes, no_chars, some_chars}
use Rattle.tcl_shell.proofs.tell.put_result.Goals as goal

pub returns-then-is_empty-clause-changes : goal.returns-then-is_empty-clause-changes
returns-then-is_empty-clause-changes g c =
    λ store units.
    nothing_told (chars c.args.text.now) (over store (channels_of g.R.Input.to_come g.W.Output.written g.E.Output.written c.args.world.now) units) (no_chars c.args.text.now c.is_empty.result c.is_empty.ensures c.if-is_empty.true)

pub returns-clause-changes : goal.returns-clause-changes
returns-clause-changes g c =
    let channels = channels_of g.R.Input.to_come g.W.Output.written g.E.Output.written in
    result_changes c.put_line.result (chars c.args.text.now) (channels c.args.world.now) (channels c.put_line.new.world) (some_chars c.args.text.now c.is_empty.result c.utf8.text c.is_empty.ensures c.if-is_empty.false) c.put_line.ensures.changes
