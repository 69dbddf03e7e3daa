use Rattle.std.proofs.Common.{◌≡◌, ◌==◌, take, map}
use Rattle.std.specs.Str.{chars}
use Rattle.std.specs.String.{string_bytes}
use Rattle.tcl_list.specs.Texts.{text_of}
use Rattle.tcl_list.specs.Written.{written}
use Rattle.tcl_list.proofs.writing.write.Given as goal

abbrev pub invariant-loop-element : goal.invariant-loop-element
invariant-loop-element l = record {
  so_far : chars (string_bytes l.text) ≡ written (map text_of (take l.element-index l.elements));
  at_first : l.first ≡ (l.element-index == 0);
}
