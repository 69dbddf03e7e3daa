use Rattle.std.proofs.Common.{◌≡◌, length}
use denote.Text.{Utf8}
use denote.Shadow.{shadow}
use Rattle.std.specs.Str.{chars}
use Rattle.tcl_pages.specs.Glob.{some_rest, glob}
use Rattle.tcl_glob.proofs.glob.first_fit.Given as goal

abbrev pub invariant-places : goal.invariant-places
invariant-places l = record {
  text : shadow (Utf8 l.rest);
  same : some_rest (glob (chars l.pattern)) (chars l.rest) ≡ some_rest (glob (chars l.pattern)) (chars l.text);
}

abbrev pub decreases-places : goal.decreases-places
decreases-places l = length (chars l.rest)
