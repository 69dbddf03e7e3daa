use Rattle.std.proofs.Common.{sym, ap, ◌∙◌}
use Rattle.std.specs.Option.{option_copied_mut}
use Rattle.tcl_frames.proofs.LentTexts.{unwritten}
use Rattle.tcl_frames.proofs.variables.put_in.Goals as goal

pub returns-in-Some-clause-same : goal.returns-in-Some-clause-same
returns-in-Some-clause-same c =
    unwritten c.write.result c.args.variables.now c.args.name.now c.in-Some.variable.now c.write.new.self c.write.ensures.same (sym c.get_mut_near.ensures.value ∙ ap option_copied_mut c.in-Some.is)
