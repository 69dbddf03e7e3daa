use Rattle.std.proofs.Common.{ap}
use Rattle.tcl_shell.specs.Lines.{told}
use Rattle.tcl_shell.specs.Program.{devices}
use Rattle.tcl_shell.proofs.ProgramLemmas.{ran_session}
use Rattle.tcl_shell.proofs.program.run_session.Goals as goal

pub returns : goal.returns
returns g c =
    let new = c.session_with-end.new in
    let held = c.session_with-end.ensures in
    let tells = c.tell.ensures in
    let at = devices g.R.Input.to_come g.R.Input.failed_calls g.W.Output.written g.W.Output.failed_calls g.E.Output.written g.E.Output.failed_calls in
    ran_session c.args.config.dialect c.args.budget c.tell.result c.session_with-end.result c.outcome_by.result (at c.args.reader.now c.args.out.now c.args.err.now) (at new.reader new.out new.err) (at c.tell.new.reader c.tell.new.out c.tell.new.err) c.outcome_by.ensures
    (ap (told g.R.Input.to_come g.R.Input.failed_calls) tells.input) (ap (told g.W.Output.written g.W.Output.failed_calls) tells.out) held.tells held.failures tells.status tells.says
