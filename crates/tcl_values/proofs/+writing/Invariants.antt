use Rattle.std.proofs.Common.{◌≡◌, ◌==◌, ◌++◌, take}
use Rattle.std.specs.Str.{chars}
use Rattle.std.specs.String.{string_bytes}
use Rattle.tcl_list.specs.Written.{written}
use Rattle.tcl_pages.specs.DictPages.{dictionary}
use Rattle.tcl_values.specs.Kept.{texts}
use Rattle.tcl_values.specs.Paired.{zipped}
use Rattle.tcl_values.proofs.+writing.Given as goal

abbrev pub invariant-nested::push_items-loop-item : goal.invariant-nested::push_items-loop-item
invariant-nested::push_items-loop-item l = record {
  so_far : chars (string_bytes l.text) ≡ chars (string_bytes l.initial.text) ++ written (texts (take l.item-index l.row.items.items));
  at_first : l.first ≡ (l.item-index == 0);
}

abbrev pub invariant-nested::push_pairs-loop-place : goal.invariant-nested::push_pairs-loop-place
invariant-nested::push_pairs-loop-place l =
    chars (string_bytes l.text) ≡ chars (string_bytes l.initial.text) ++ dictionary (zipped (take l.place l.pairs.keys.keys) (texts (take l.place l.pairs.values.items)))
