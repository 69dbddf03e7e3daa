use Rattle.tcl_code.proofs.Noting.{waits_there, still_waits}
use Rattle.tcl_code.proofs.search.wait.Goals as goal

pub returns-clause-there : goal.returns-clause-there
returns-clause-there c = waits_there c.args.pending.now.items c.insert.new.self.items c.rank-index.result c.args.place c.in_ok-insert.ensures.items

pub returns-clause-kept : goal.returns-clause-kept
returns-clause-kept c = still_waits c.args.pending.now.items c.insert.new.self.items c.rank-index.result c.args.place c.in_ok-insert.ensures.items
