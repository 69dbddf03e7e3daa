use Rattle.std.proofs.Common.{◌≡◌, length}
use denote.Text.{Utf8}
use denote.Shadow.{shadow}
use Rattle.std.specs.Str.{chars}
use Rattle.tcl_pages.specs.Glob.{glob}
use Rattle.tcl_glob.specs.Glob.{AtEnd}
use Rattle.tcl_glob.proofs.glob.glob_match.Given as goal

abbrev pub invariant-loop-behind : goal.invariant-loop-behind
invariant-loop-behind l = record {
  pattern_text : shadow (Utf8 l.pattern);
  text : shadow (Utf8 l.text);
  same : glob (chars l.pattern) (chars l.text) ≡ glob (chars l.fn.pattern) (chars l.fn.text);
  at_end : AtEnd (chars l.pattern) (chars l.text);
}

abbrev pub decreases-loop-behind : goal.decreases-loop-behind
decreases-loop-behind l = length (chars l.pattern)
