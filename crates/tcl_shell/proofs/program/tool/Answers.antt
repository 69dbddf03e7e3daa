use Rattle.std.proofs.Common.{sym, ◌∙◌}
use Rattle.tcl_shell.proofs.ProgramLemmas.{answered}
use Rattle.tcl_shell.proofs.program.tool.Goals as goal

pub returns : goal.returns
returns g c =
    answered _ c.in-Some.request c.in-Some-file.place c.args.words.now _ _ _ _ (sym c.read_request.ensures.request ∙ c.in-Some.is) c.in-Some-file.is c.run_file.ensures
