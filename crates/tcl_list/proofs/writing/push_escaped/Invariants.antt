use Rattle.std.proofs.Common.{◌≡◌, ◌++◌, length}
use denote.Text.{Utf8}
use denote.Shadow.{shadow}
use Rattle.std.specs.Str.{chars}
use Rattle.std.specs.String.{string_bytes}
use Rattle.tcl_list.specs.Texts.{Extends}
use Rattle.tcl_list.specs.Written.{all_escaped}
use Rattle.tcl_list.proofs.writing.push_escaped.Given as goal

abbrev pub invariant-loop-c : goal.invariant-loop-c
invariant-loop-c l = record {
  text : shadow (Utf8 l.rest);
  kept : Extends (chars (string_bytes l.fn.text)) (chars (string_bytes l.text));
  same : chars (string_bytes l.text) ++ all_escaped (chars l.rest) ≡ chars (string_bytes l.fn.text) ++ all_escaped (chars l.element);
}

abbrev pub decreases-loop-c : goal.decreases-loop-c
decreases-loop-c l = length l.rest
