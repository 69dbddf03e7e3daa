use Rattle.std.proofs.Common.{subst}
use Rattle.tcl_code.specs.Shown.{Listing, shown_by}
use Rattle.tcl_code.specs.Valid.{Covers}
use Rattle.tcl_code.proofs.code.Code.top.Goals as goal

pub returns : goal.returns
returns c = let P : Listing → Type 0 = λ l. Covers (shown_by l) c.self.inside.top in subst P c.self.view_is c.self.invariant.1
