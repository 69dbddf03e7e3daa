use Rattle.std.proofs.Common.{length}
use denote.Text.{Utf8}
use denote.Shadow.{shadow}
use Rattle.std.specs.Str.{chars}
use Rattle.tcl_lists.proofs.Joining.{IsTrimmed}
use Rattle.tcl_lists.proofs.joined.trimmed_end.Given as goal

abbrev pub invariant-loop-front : goal.invariant-loop-front
invariant-loop-front l = record {
  end_text : shadow (Utf8 l.end);
  longer_text : shadow (Utf8 l.longer);
  trimmed : IsTrimmed (chars l.text) (chars l.end) (chars l.longer);
}

abbrev pub decreases-loop-front : goal.decreases-loop-front
decreases-loop-front l = length l.end
