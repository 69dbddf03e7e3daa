use Rattle.std.proofs.Common.{length, refl}
use Rattle.tcl_code.specs.Search.{numbers_in}
use Rattle.tcl_code.proofs.Numbering.{none_yet, all_within_none}
use Rattle.tcl_code.proofs.notes.Found.new.Goals as goal

pub invariant_of-result : goal.invariant_of-result
invariant_of-result c = all_within_none (numbers_in c.in_ok-new.field-0) c.args.count (length c.new.result.items) c.in_ok-new.ensures

pub returns-clause-none : goal.returns-clause-none
returns-clause-none c = none_yet c.new.result.items (numbers_in c.in_ok-new.field-0) c.args.count _ c.in_ok-new.ensures refl
