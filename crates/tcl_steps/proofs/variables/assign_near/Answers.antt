use Rattle.tcl_frames.specs.Standing.{store_of}
use Rattle.tcl_meaning.specs.Variables.{put_change}
use Rattle.tcl_steps.proofs.VariableLemmas.{cant_be_set, refused_by}
use Rattle.tcl_steps.proofs.variables.assign_near.Goals as goal

pub returns-in_ok-cant_set-in-Err-Refused-clause-ends : goal.returns-in_ok-cant_set-in-Err-Refused-clause-ends
returns-in_ok-cant_set-in-Err-Refused-clause-ends c =
    rw (c.in-Err-Refused.ensures.same, c.in_ok-cant_set-in-Err-Refused.ensures, c.as_str.ensures) (cant_be_set c.args.frames.now c.args.name.now c.args.value c.in-Err-Refused.refusal (λ cs. refused_by (put_change (store_of cs c.args.frames.now) c.args.name.now c.args.value) c.in-Err-Refused.field-0 c.in-Err-Refused.refusal c.in-Err-Refused.field-0-is (c.in-Err-Refused.ensures.refused cs)))
