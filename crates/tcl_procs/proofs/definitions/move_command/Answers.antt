use Rattle.std.specs.Str.{chars}
use Rattle.tcl_procs.proofs.DefinitionLemmas.{unknown_does, taken_does}
use Rattle.tcl_procs.proofs.definitions.move_command.Goals as goal

pub returns-in-Err-Unknown-clause-does : goal.returns-in-Err-Unknown-clause-does
returns-in-Err-Unknown-clause-does c = λ f.
    unknown_does (chars c.args.old.now) (chars c.args.new.now) _ _ c.args.table.now c.rename.new.self f c.in-Err-Unknown.field-0 c.about.result c.without_colons.ensures c.without_colons-2.ensures
    c.in-Err-Unknown.ensures.refused c.in-Err-Unknown.ensures.same c.in-Err-Unknown.field-0-is c.about.ensures

pub returns-in-Err-TargetExists-clause-does : goal.returns-in-Err-TargetExists-clause-does
returns-in-Err-TargetExists-clause-does c = λ f.
    taken_does (chars c.args.old.now) (chars c.args.new.now) _ _ c.args.table.now c.rename.new.self f c.in-Err-TargetExists.field-0 c.about-in-Err-TargetExists.result c.without_colons.ensures c.without_colons-2.ensures
    c.in-Err-TargetExists.ensures.refused c.in-Err-TargetExists.ensures.same c.in-Err-TargetExists.field-0-is c.about-in-Err-TargetExists.ensures
