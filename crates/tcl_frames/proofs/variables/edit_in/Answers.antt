use Rattle.std.proofs.Common.{sym, ap, ◌∙◌}
use Rattle.std.specs.Str.{chars}
use Rattle.std.specs.Option.{option_copied_mut}
use Rattle.tcl_frames.proofs.LentTexts.{unwritten}
use Rattle.tcl_frames.proofs.variables.edit_in.Goals as goal

pub returns-in-Some-clause-same : goal.returns-in-Some-clause-same
returns-in-Some-clause-same c =
    unwritten c.edit.result c.args.variables.now (chars c.args.name.now) c.in-Some.variable.now c.edit.new.self c.edit.ensures.same (sym c.get_mut.ensures.value ∙ ap option_copied_mut c.in-Some.is)
