use Rattle.std.proofs.Common.{length}
use denote.Text.{Utf8}
use denote.Shadow.{shadow}
use Rattle.std.specs.Str.{chars}
use Rattle.tcl_glob.specs.Glob.{Taken}
use Rattle.tcl_glob.proofs.glob.fit.Given as goal

abbrev pub invariant-loop-first : goal.invariant-loop-first
invariant-loop-first l = record {
  pattern_text : shadow (Utf8 l.pattern);
  text : shadow (Utf8 l.text);
  taken : Taken (chars l.fn.pattern) (chars l.fn.text) (chars l.pattern) (chars l.text);
}

abbrev pub decreases-loop-first : goal.decreases-loop-first
decreases-loop-first l = length (chars l.pattern)
