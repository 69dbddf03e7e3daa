use Rattle.std.proofs.Common.{length, map}
use Rattle.std.specs.Str.{chars}
use Rattle.tcl_compile.specs.Forms.{clause_of}
use Rattle.tcl_compile.proofs.Clauses.{Behind}
use Rattle.tcl_compile.proofs.inlining.if_by.Given as goal

abbrev pub invariant-clauses : goal.invariant-clauses
invariant-clauses l = Behind (map (λ t. chars t.now) l.fn.texts) (map (λ t. chars t.now) l.rest) (map clause_of l.clauses.items)

abbrev pub decreases-clauses : goal.decreases-clauses
decreases-clauses l = length l.rest
