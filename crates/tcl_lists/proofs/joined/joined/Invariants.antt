use Rattle.std.proofs.Common.{◌≡◌, take}
use Rattle.std.specs.Str.{chars}
use Rattle.std.specs.String.{string_bytes}
use Rattle.tcl_pages.specs.Lists.{concat}
use Rattle.tcl_lists.proofs.joined.joined.Given as goal

abbrev pub invariant-loop-place : goal.invariant-loop-place
invariant-loop-place l = record {
  same : l.words ≡ l.fn.words;
  joined : chars (string_bytes l.joined) ≡ concat (take l.place l.fn.words);
}
