use Rattle.std.proofs.Common.{length}
use denote.Text.{Utf8}
use denote.Shadow.{shadow}
use Rattle.std.specs.Str.{chars}
use Rattle.std.specs.String.{string_bytes}
use Rattle.tcl_strings.proofs.Pairs.{MappedUpTo}
use Rattle.tcl_strings.proofs.mapping.push_mapped.Given as goal

abbrev pub invariant-loop-front : goal.invariant-loop-front
invariant-loop-front l = record {
  text : shadow (Utf8 l.rest);
  mapped : MappedUpTo l.groups (chars (string_bytes l.fn.said)) (chars l.text) (chars (string_bytes l.said)) (chars l.rest);
}

abbrev pub decreases-loop-front : goal.decreases-loop-front
decreases-loop-front l = length (chars l.rest)
