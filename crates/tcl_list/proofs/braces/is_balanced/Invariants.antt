use Rattle.std.proofs.Common.{◌≡◌, ◌+◌, ◌≤◌, false, length}
use denote.Text.{Utf8}
use denote.Shadow.{shadow}
use Rattle.std.specs.Str.{chars}
use Rattle.tcl_list.specs.Braces.{balances}
use Rattle.tcl_list.proofs.braces.is_balanced.Given as goal

abbrev pub invariant-loop-c : goal.invariant-loop-c
invariant-loop-c l = record {
  text : shadow (Utf8 l.rest);
  room : l.depth + length l.rest ≤ length l.text;
  same : balances l.hidden l.depth (chars l.rest) ≡ balances false 0 (chars l.text);
}

abbrev pub decreases-loop-c : goal.decreases-loop-c
decreases-loop-c l = length l.rest
