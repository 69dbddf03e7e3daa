use Rattle.std.proofs.Common.{◌≡◌, ◌++◌, drop, take, Ok}
use Rattle.tcl_pages.specs.Answers.{◌>>=◌}
use Rattle.tcl_vars.specs.Way.{all_seen, way_of}
use Rattle.tcl_vars.proofs.path.levels_of.Given as goal

abbrev pub invariant-loop-at : goal.invariant-loop-at
invariant-loop-at l = record {
  same : l.indices ≡ l.fn.indices;
  led : (way_of l.dialect l.list (drop l.at (take l.count l.fn.indices)) >>= λ rest. Ok (all_seen l.levels.items ++ rest)) ≡ way_of l.dialect l.fn.list (take l.count l.fn.indices);
}
