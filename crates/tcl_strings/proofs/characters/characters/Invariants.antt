use Rattle.std.proofs.Common.{◌≡◌, ◌++◌, ◌∷◌, [], map, length}
use denote.Text.{Utf8}
use denote.Shadow.{shadow}
use Rattle.std.specs.Str.{chars}
use Rattle.tcl_strings.proofs.characters.characters.Given as goal

abbrev pub invariant-loop-after : goal.invariant-loop-after
invariant-loop-after l = record {
  text : shadow (Utf8 l.rest);
  same : l.parts.items ++ map (λ c. c ∷ []) (chars l.rest) ≡ map (λ c. c ∷ []) (chars l.text);
}

abbrev pub decreases-loop-after : goal.decreases-loop-after
decreases-loop-after l = length l.rest
