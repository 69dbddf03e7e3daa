use Rattle.std.proofs.Common.{◌≡◌, ◌≤◌, ◌-◌, false, drop, length}
use Rattle.tcl_meaning.specs.Shapes.{switch_words}
use Rattle.tcl_control.proofs.switching.options_of.Given as goal

abbrev pub invariant-options : goal.invariant-options
invariant-options l = record {
  same : l.words ≡ l.fn.words;
  within : l.first ≤ length l.fn.words;
  read : switch_words false l.fn.words ≡ switch_words l.globs (drop l.first l.fn.words);
}

abbrev pub decreases-options : goal.decreases-options
decreases-options l = length l.words - l.first
