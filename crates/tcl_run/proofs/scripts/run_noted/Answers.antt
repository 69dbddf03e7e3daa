use Rattle.std.proofs.Common.{Err, refl, ap, ◌∙◌}
use Rattle.std.proofs.lemmas.Result.{err_from_is_err_and}
use Rattle.std.specs.Str.{chars}
use Rattle.tcl_vm.proofs.Going.{refused_follows}
use Rattle.tcl_run.proofs.scripts.run_noted.Goals as goal

pub returns-in_err-message-clause-follows : goal.returns-in_err-message-clause-follows
returns-in_err-message-clause-follows g c =
    let p = err_from_is_err_and c.from_residual.result c.from_residual.ensures.1 in
    refused_follows c.args.codes.now c.from_residual.result 1 (chars c.args.script.now) _ _ (p.1 ∙ ap Err p.2) refl
