use Rattle.tcl_chars.specs.Texts.{text_of}
use Rattle.tcl_frames.specs.Standing.{store_of}
use Rattle.tcl_meaning.specs.SeenPages.{seen_answer}
use Rattle.tcl_procs.proofs.DefinitionLemmas.{stopped_by}
use Rattle.tcl_procs.proofs.LookingLemmas.{seen_ok, seen_refused}
use Rattle.tcl_procs.proofs.looking.seen_commands.Goals as goal

pub returns-in-Ok-clause-does : goal.returns-in-Ok-clause-does
returns-in-Ok-clause-does c = λ f. seen_ok c.args.page c.args.words.now (store_of c.args.table.now f) _ c.normal.result (c.in-Ok.ensures.answer f) c.normal.ensures

pub returns-in-Err-Error-clause-does : goal.returns-in-Err-Error-clause-does
returns-in-Err-Error-clause-does c = λ f.
    let s = store_of c.args.table.now f in
    seen_refused c.args.page c.args.words.now s (text_of c.in-Err-Error.message) c.failure.result
    (stopped_by (seen_answer c.args.page s c.args.words.now) c.in-Err-Error.field-0 c.in-Err-Error.message c.in-Err-Error.field-0-is (c.in-Err-Error.ensures.answer f)) c.failure.ensures
