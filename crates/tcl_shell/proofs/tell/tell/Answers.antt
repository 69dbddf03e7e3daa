use Rattle.std.proofs.Common.{rules, ap, subst, w64, FitsSigned}
use Rattle.std.proofs.lemmas.Int.{to_z-of_z}
use Rattle.std.specs.Prelude.{ℤ}
use Rattle.std.specs.Str.{chars}
use Rattle.tcl_channels.specs.Shown.{channels_of}
use Rattle.tcl_shell.specs.Session.{told_by}
use Rattle.tcl_shell.specs.Turns.{Changes}
use Rattle.tcl_shell.proofs.Sessions.{done_stops, io_follows, refused_follows, changes_of_err}
use Rattle.tcl_shell.proofs.tell.tell.Goals as goal

pub returns-in-Done-clause-followed : goal.returns-in-Done-clause-followed
returns-in-Done-clause-followed g c =
    let channels = channels_of g.R.Input.to_come g.W.Output.written g.E.Output.written in
    let put = c.put_told.ensures in
    let text = chars c.as_str.result.now in
    let fits : FitsSigned w64 c.in-Done.code = search rules in
    let changes = subst (λ (z : ℤ). Changes c.put_told.result (told_by z text) (channels c.args.world.now) (channels c.put_told.new.world)) (to_z-of_z w64 c.in-Done.code fits) put.changes in
    done_stops c.args.outcome c.in-Done.code c.in-Done.result c.in-Done.options c.in-Done.left text (channels c.args.world.now) (channels c.put_told.new.world) c.in-Done.is (ap chars c.as_str.ensures.value) (changes_of_err c.put_told.result _ _ _ _ c.in-Err.is changes) put.adds

pub returns-in-Io-clause-followed : goal.returns-in-Io-clause-followed
returns-in-Io-clause-followed g c = io_follows c.args.outcome (channels_of g.R.Input.to_come g.W.Output.written g.E.Output.written c.args.world.now) c.in-Io.is

pub returns-clause-followed : goal.returns-clause-followed
returns-clause-followed g c = refused_follows c.args.outcome (channels_of g.R.Input.to_come g.W.Output.written g.E.Output.written c.args.world.now) c.in-Memory.is
