use Rattle.std.proofs.Common.{◌≡◌, length}
use denote.Text.{Utf8}
use denote.Shadow.{shadow}
use Rattle.std.specs.Str.{chars}
use Rattle.tcl_pages.specs.Glob.{in_set}
use Rattle.tcl_glob.proofs.glob.in_set.Given as goal

abbrev pub invariant-loop-first : goal.invariant-loop-first
invariant-loop-first l = record {
  text : shadow (Utf8 l.rest);
  same : in_set (chars l.rest) l.c ≡ in_set (chars l.set) l.c;
}

abbrev pub decreases-loop-first : goal.decreases-loop-first
decreases-loop-first l = length (chars l.rest)
