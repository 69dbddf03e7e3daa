use Rattle.tcl_code.specs.Search.{numbers_in}
use Rattle.tcl_code.proofs.Numbering.{put_there}
use Rattle.tcl_code.proofs.notes.Found.put.Goals as goal

pub returns : goal.returns
returns c = put_there c.self.inside.shapes.items c.number_of.new.shapes.items (numbers_in c.self.inside.numbers) (numbers_in c.put.new.self) c.args.place c.in_ok-number.number c.args.shape c.in_ok-number.ensures.more c.in_ok-number.ensures.number c.in_ok-put.ensures.done c.self.invariant _ c.self.view_is
