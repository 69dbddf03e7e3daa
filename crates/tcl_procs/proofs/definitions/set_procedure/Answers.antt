use Rattle.std.specs.Str.{chars}
use Rattle.tcl_chars.specs.Texts.{text_of}
use Rattle.tcl_frames.specs.Standing.{store_of}
use Rattle.tcl_meaning.specs.Procedures.{procedure_of}
use Rattle.tcl_procs.proofs.DefinitionLemmas.{defined_does, proc_refused, stopped_by}
use Rattle.tcl_procs.proofs.definitions.set_procedure.Goals as goal

pub returns-in-Ok-clause-does : goal.returns-in-Ok-clause-does
returns-in-Ok-clause-does c = λ f.
    defined_does (chars c.args.name.now) (chars c.args.formals.now) (text_of c.args.body) _ c.args.table.now c.define.new.table f c.define.result c.in-Ok.ensures c.define.ensures.done c.define.ensures.answer

pub returns-in-Err-Error-clause-does : goal.returns-in-Err-Error-clause-does
returns-in-Err-Error-clause-does c = λ f.
    rw c.failure.ensures
    (proc_refused (chars c.args.name.now) (chars c.args.formals.now) (text_of c.args.body) (text_of c.in-Err-Error.message) (store_of c.args.table.now f)
    (stopped_by (procedure_of (chars c.args.formals.now) (text_of c.args.body)) c.in-Err-Error.field-0 c.in-Err-Error.message c.in-Err-Error.field-0-is c.in-Err-Error.ensures))
