use Rattle.std.proofs.Common.{Some, ap, sym, ◌∙◌}
use Rattle.tcl_steps.specs.Asked.{at_once}
use Rattle.tcl_control.proofs.ExitLemmas.{no_status, exit_usage, exits, exit_fails, stopped}
use Rattle.tcl_meaning.specs.Codes.{status_of}
use Rattle.tcl_meaning.specs.Tasks.{Done}
use Rattle.tcl_control.proofs.exiting.exit_page.Goals as goal

pub returns-then-words-eq0 : goal.returns-then-words-eq0
returns-then-words-eq0 c = no_status c.args.dialect c.args.words.now c.if-words-eq0.true

pub returns-then-words-gt1 : goal.returns-then-words-gt1
returns-then-words-gt1 c = ap at_once (exit_usage c.args.dialect c.args.words.now c.if-words-gt1.true) ∙ c.in_ok-step.ensures

pub returns-in-Ok : goal.returns-in-Ok
returns-in-Ok c = exits c.args.dialect c.args.words.now _ c.if-words-eq0.false c.if-words-gt1.false (ap (status_of c.args.dialect) (sym c.in_ok-word.ensures) ∙ c.in-Ok.ensures)

pub returns-in-Err-Error : goal.returns-in-Err-Error
returns-in-Err-Error c =
    let bad = stopped c.in-Err-Error.field-0 _ (status_of c.args.dialect c.in_ok-word.word) c.in-Err-Error.field-0-is c.in-Err-Error.ensures in
    exit_fails c.args.dialect c.args.words.now _ c.if-words-eq0.false c.if-words-gt1.false (ap (status_of c.args.dialect) (sym c.in_ok-word.ensures) ∙ bad) ∙ ap (λ x. Some (Done x)) (sym c.failure.ensures)
