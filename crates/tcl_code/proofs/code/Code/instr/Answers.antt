use Rattle.std.proofs.Common.{subst}
use Rattle.tcl_code.specs.Shown.{Listing, shown_by}
use Rattle.tcl_code.specs.Valid.{Valid}
use Rattle.tcl_code.proofs.Holding.{shown_here, known_here}
use Rattle.tcl_code.proofs.code.Code.instr.Goals as goal

pub returns-clause-shown : goal.returns-clause-shown
returns-clause-shown c = shown_here _ _ _ _ _ _ c.self.view_is c.as_slice.ensures.value c.item.ensures

pub returns-clause-known : goal.returns-clause-known
returns-clause-known c = known_here _ _ _ _ _ _ c.self.view_is c.as_slice.ensures.value c.item.ensures c.self.invariant.2

pub returns-clause-valid : goal.returns-clause-valid
returns-clause-valid c = let P : Listing → Type 0 = λ l. Valid (shown_by l) in subst P c.self.view_is c.self.invariant.0
