use Rattle.std.proofs.Common.{◌≡◌, ◌++◌, length}
use denote.Text.{Utf8}
use denote.Shadow.{shadow}
use Rattle.std.specs.Str.{chars}
use Rattle.tcl_pages.specs.Strings.{is_among, parts_between}
use Rattle.tcl_strings.proofs.lists.parts_between.Given as goal

abbrev pub invariant-parts : goal.invariant-parts
invariant-parts l = record {
  text : shadow (Utf8 l.rest);
  same : l.parts.items ++ parts_between (is_among (chars l.set)) (chars l.rest) ≡ parts_between (is_among (chars l.set)) (chars l.text);
}

abbrev pub decreases-parts : goal.decreases-parts
decreases-parts l = length (chars l.rest)
