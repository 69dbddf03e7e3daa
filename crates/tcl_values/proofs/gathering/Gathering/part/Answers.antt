use Rattle.tcl_values.proofs.Gathered.{part_fits, part_of_texts}
use Rattle.tcl_values.proofs.gathering.Gathering.part.Goals as goal

pub invariant_of-result : goal.invariant_of-result
invariant_of-result c = record {
  limit = c.self.invariant.limit;
  deeper = part_fits c.self.inside.items.items c.truncate.new.self.items c.new.result.items c.splice_elements.new.elements.items c.args.first c.args.last c.self.inside.depth c.truncate.ensures.items c.new.ensures.items c.in_ok-splice_elements.ensures.done c.self.invariant.deeper;
}

pub returns : goal.returns
returns c = part_of_texts c.self.inside.items.items c.truncate.new.self.items c.new.result.items c.splice_elements.new.elements.items c.args.first c.args.last _ c.truncate.ensures.items c.new.ensures.items c.in_ok-splice_elements.ensures.done c.self.view_is
