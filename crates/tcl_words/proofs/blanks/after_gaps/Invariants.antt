use Rattle.std.proofs.Common.{◌≡◌, length}
use denote.Text.{Utf8}
use denote.Shadow.{shadow}
use Rattle.std.specs.Str.{chars}
use Rattle.tcl_words.specs.Words.{after_gaps}
use Rattle.tcl_words.specs.declared.blanks.Gap.TheVariants.{Between}
use Rattle.tcl_words.proofs.blanks.after_gaps.Given as goal

abbrev pub invariant-loop-c : goal.invariant-loop-c
invariant-loop-c l = shadow (Utf8 l.rest) × (after_gaps l.gap (chars l.rest) ≡ after_gaps Between (chars l.fn.text))

abbrev pub decreases-loop-c : goal.decreases-loop-c
decreases-loop-c l = length l.rest
