use Rattle.std.proofs.Common.{◌≡◌, [], None}
use Rattle.std.specs.Vec.Iter.{into_iter_items}
use Rattle.tcl_pages.specs.Dictionaries.{put_keys}
use Rattle.tcl_values.specs.Shape.{pairs_in, ArePaired}
use Rattle.tcl_values.proofs.dict.put_values.Given as goal

abbrev pub invariant-loop-key : goal.invariant-loop-key
invariant-loop-key l = record {
  same : put_keys (pairs_in l.own) (into_iter_items l.key-iterator) ≡ put_keys [] l.fn.pairs.items;
  text : l.own.text ≡ None;
  kept : ArePaired l.own;
}
