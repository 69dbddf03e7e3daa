use Rattle.std.proofs.Common.{refl}
use Rattle.std.specs.Str.{chars}
use Rattle.std.specs.String.{string_bytes}
use Rattle.tcl_chan.specs.Worlds.{unread_of, met_end}
use Rattle.tcl_shell.proofs.TakenLines.{took_none}
use Rattle.tcl_shell.proofs.input.take_line.Goals as goal

pub returns-in_default-clause-taken : goal.returns-in_default-clause-taken
returns-in_default-clause-taken g c =
    took_none (unread_of g.R.Input.to_come c.args.world.now) (chars (string_bytes c.args.text.now)) c.in_ok-line.field-0 (unread_of g.R.Input.to_come c.gets.new.self) (met_end c.args.world.now) (met_end c.gets.new.self) c.in_default.is c.requires c.in_ok-line.ensures.line
