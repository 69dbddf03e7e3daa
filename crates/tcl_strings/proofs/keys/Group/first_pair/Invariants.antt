use Rattle.std.proofs.Common.{◌≡◌, ◌∷◌, length, map}
use Rattle.std.specs.Str.{chars}
use Rattle.tcl_pages.specs.Strings.{pair_for}
use Rattle.tcl_strings.proofs.keys.Group.first_pair.Given as goal

abbrev pub invariant-loop-left : goal.invariant-loop-left
invariant-loop-left l = pair_for (map (λ p. (p.first ∷ chars p.more.now, chars p.value.now)) l.left) (l.c ∷ chars l.after) ≡ pair_for l.self (l.c ∷ chars l.after)

abbrev pub decreases-loop-left : goal.decreases-loop-left
decreases-loop-left l = length l.left
