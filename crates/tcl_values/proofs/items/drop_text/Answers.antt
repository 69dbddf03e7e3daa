use Rattle.tcl_values.specs.Kept.{texts}
use Rattle.tcl_values.proofs.Joined.{reads_written}
use Rattle.tcl_values.proofs.items.drop_text.Goals as goal

pub returns-clause-kept : goal.returns-clause-kept
returns-clause-kept c = record { limit = c.requires.limit; exact = c.requires.exact; reading = reads_written (texts c.args.own.now.items.items); beside = tt; lower = tt }
