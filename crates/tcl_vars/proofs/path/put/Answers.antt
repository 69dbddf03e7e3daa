use Rattle.tcl_vars.proofs.ElementLemmas.{put_there}
use Rattle.tcl_vars.proofs.path.put.Goals as goal

pub returns-then-branch-clause-done : goal.returns-then-branch-clause-done
returns-then-branch-clause-done c =
    put_there c.args.list.now c.count.new.self c.args.element c.replace_item.new.self c.args.place _ c.count.ensures.same c.in_ok-count.ensures.count c.if-branch.true c.in_ok-replace_item.ensures.done
