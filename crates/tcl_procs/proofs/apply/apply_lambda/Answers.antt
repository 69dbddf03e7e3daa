use Rattle.std.proofs.Common.{Some, sym, ap, ◌∙◌}
use Rattle.std.specs.Str.{chars}
use Rattle.tcl_chars.specs.Texts.{text_of}
use Rattle.tcl_meaning.specs.Tasks.{Done}
use Rattle.tcl_procs.specs.Lambdas.{lambda_procedure}
use Rattle.tcl_procs.proofs.DefinitionLemmas.{stopped_by}
use Rattle.tcl_procs.proofs.LambdaLemmas.{apply_calls, apply_refused}
use Rattle.tcl_procs.proofs.apply.apply_lambda.Goals as goal

pub returns-in-Ok : goal.returns-in-Ok
returns-in-Ok c = apply_calls (chars c.args.lambda.now) c.args.words.now _ c.call_procedure.result c.in-Ok.ensures c.call_procedure.ensures

pub returns-in-Err-Error : goal.returns-in-Err-Error
returns-in-Err-Error c =
    let said = stopped_by (lambda_procedure (chars c.args.lambda.now)) c.in-Err-Error.field-0 c.in-Err-Error.message c.in-Err-Error.field-0-is c.in-Err-Error.ensures in
    apply_refused (chars c.args.lambda.now) c.args.words.now (text_of c.in-Err-Error.message) said ∙ ap (λ d. Some (Done d)) (sym c.failure.ensures)
