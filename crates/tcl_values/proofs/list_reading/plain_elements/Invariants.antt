use Rattle.std.proofs.Common.{◌≡◌, ◌++◌, map}
use Rattle.std.specs.Vec.Iter.{into_iter_items}
use Rattle.tcl_list.specs.Texts.{text_of}
use Rattle.tcl_values.specs.Kept.{texts, depth_over}
use Rattle.tcl_values.proofs.list_reading.plain_elements.Given as goal

abbrev pub invariant-loop-text : goal.invariant-loop-text
invariant-loop-text l = record {
  same : texts l.elements.items ++ map text_of (into_iter_items l.text-iterator) ≡ map text_of l.fn.words.items;
  depth : depth_over l.elements.items ≡ 1;
}
