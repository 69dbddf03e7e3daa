use Rattle.std.proofs.Common.{sym, subst, ◌∙◌}
use Rattle.tcl_meaning.specs.Agreement.{IsPart}
use Rattle.tcl_interp.specs.Interp.{remains_at}
use Rattle.tcl_interp.proofs.Ending.{ends_part}
use Rattle.tcl_interp.proofs.Flushed.{same_channels}
use Rattle.tcl_interp.proofs.report.finish.Goals as goal

pub returns-in-Err-clause-ends : goal.returns-in-Err-clause-ends
returns-in-Err-clause-ends g c got h =
    let flushed = c.flush_both.ensures in
    subst (λ x. IsPart x got) (same_channels g.R.Input.to_come g.W.Output.written g.E.Output.written c.args.world.now c.flush_both.new.world flushed.input flushed.out flushed.err)
    (ends_part c.args.ended got (remains_at g.R.Input.to_come g.W.Output.written g.E.Output.written c.args.interp.now c.args.world.now) (sym c.outcome_fails.ensures ∙ c.if-outcome_fails.false) h)
