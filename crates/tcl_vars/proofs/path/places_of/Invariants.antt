use Rattle.std.proofs.Common.{◌≡◌, ◌++◌, drop, length, take, Ok}
use Rattle.tcl_pages.specs.Answers.{◌>>=◌}
use Rattle.tcl_vars.specs.Way as way
use Rattle.tcl_vars.proofs.path.places_of.Given as goal

abbrev pub invariant-loop-at : goal.invariant-loop-at
invariant-loop-at l = record {
  same : l.indices ≡ l.fn.indices;
  size : length l.places.items ≡ l.at;
  led : (way.places_of l.dialect l.inner (drop l.at (take l.count l.fn.indices)) >>= λ rest. Ok (l.places.items ++ rest)) ≡ way.places_of l.dialect l.fn.list (take l.count l.fn.indices);
}
