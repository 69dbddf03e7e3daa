use Rattle.std.proofs.Common.{Some, None, ap, ◌∙◌}
use Rattle.std.specs.Str.{chars}
use Rattle.tcl_meaning.specs.State.{built_in, procedure}
use Rattle.tcl_table.specs.Procedures.{procedure_of}
use Rattle.tcl_engine.proofs.Calling.{command_answers}
use Rattle.tcl_engine.proofs.host.Host.command.Goals as goal

pub returns-in-None-clause-answered : goal.returns-in-None-clause-answered
returns-in-None-clause-answered g c =
    command_answers c.args.dialect _ _ _ (chars c.args.word.now) c.args.words.now None c.in-None.ensures
    (c.asked.ensures.answered _ _ (c.unknown.ensures c.args.dialect c.args.words.now))

pub returns-in-BuiltIn-clause-answered : goal.returns-in-BuiltIn-clause-answered
returns-in-BuiltIn-clause-answered g c =
    command_answers c.args.dialect _ _ _ (chars c.args.word.now) c.args.words.now (Some (built_in c.in-BuiltIn.built_in)) (ap Some c.in-BuiltIn.ensures ∙ c.in-Some.ensures)
    c.built_in.ensures.answered

pub returns-in-Procedure-clause-answered : goal.returns-in-Procedure-clause-answered
returns-in-Procedure-clause-answered g c =
    command_answers c.args.dialect _ _ _ (chars c.args.word.now) c.args.words.now (Some (procedure (procedure_of c.deref.result.now)))
    (ap (λ p. Some (procedure (procedure_of p))) c.deref.ensures ∙ ap Some c.in-Procedure.ensures ∙ c.in-Some.ensures)
    (c.asked-in-Procedure.ensures.answered _ _ c.call_procedure.ensures)
