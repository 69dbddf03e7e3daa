use Rattle.std.proofs.Common.{◌≡◌, length}
use Rattle.tcl_vars.specs.Way.{all_seen, put_all}
use Rattle.tcl_vars.proofs.path.put_back.Given as goal

abbrev pub invariant-loop-level : goal.invariant-loop-level
invariant-loop-level l = put_all (all_seen l.levels.items) l.element ≡ put_all (all_seen l.fn.levels.items) l.fn.new

abbrev pub decreases-loop-level : goal.decreases-loop-level
decreases-loop-level l = length l.levels.items
