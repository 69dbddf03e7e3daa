use Rattle.tcl_code.specs.Search.{numbers_in}
use Rattle.tcl_code.proofs.Numbering.{covered_by}
use Rattle.tcl_code.proofs.notes.Found.top.Goals as goal

pub returns : goal.returns
returns c = covered_by c.as_slice.result.now c.self.inside.shapes.items (numbers_in c.self.inside.numbers) _ _ c.as_slice.ensures.value c.covering.ensures c.self.view_is
