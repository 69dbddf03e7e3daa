use Rattle.std.proofs.Common.{refl}
use Rattle.tcl_values.proofs.PairKept.{bare_kept}
use Rattle.tcl_values.proofs.pairs.forget_own.Goals as goal

pub returns-clause-kept : goal.returns-clause-kept
returns-clause-kept c = bare_kept c.args.own.now _ c.requires refl refl refl refl
