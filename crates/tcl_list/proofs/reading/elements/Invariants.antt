use Rattle.std.proofs.Common.{◌≡◌, length, map}
use denote.Text.{Utf8}
use denote.Shadow.{shadow}
use Rattle.std.specs.Str.{chars}
use Rattle.tcl_chars.specs.Reading.{with_front, all_turns}
use Rattle.tcl_list.specs.Elements.{next_element}
use Rattle.tcl_list.specs.Texts.{text_of}
use Rattle.tcl_list.proofs.reading.elements.Given as goal

abbrev pub invariant-elements : goal.invariant-elements
invariant-elements l = record {
  text : shadow (Utf8 l.rest);
  same : with_front (map text_of l.elements.items) (all_turns next_element (chars l.rest)) ≡ all_turns next_element (chars l.fn.text);
}

abbrev pub decreases-elements : goal.decreases-elements
decreases-elements l = length (chars l.rest)
