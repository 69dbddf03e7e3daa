use Rattle.std.proofs.Common.{rules, FitsSigned}
use Rattle.std.specs.Int.{w64}
use Rattle.tcl_lists.proofs.NumberPatterns.{same_numbers}
use Rattle.tcl_control.proofs.arms.Arms.is_known.Goals as goal

pub returns-in-Some-Some : goal.returns-in-Some-Some
returns-in-Some-Some c =
    let own : FitsSigned w64 c.in-Some-Some.own = search rules in
    let known : FitsSigned w64 c.in-Some-Some.known = search rules in
    same_numbers c.in-Some-Some.known c.in-Some-Some.own _ _ known own c.in-Some-Some.ensures' c.in-Some-Some.ensures
