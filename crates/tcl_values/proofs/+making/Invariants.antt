use Rattle.std.proofs.Common.{ℕ, ◌+◌, ◌*◌, length}
use Rattle.tcl_values.specs.declared.making.Making.{Making}
use Rattle.tcl_values.specs.declared.making.Making.TheVariants as making
use Rattle.tcl_values.proofs.+making.Given as goal

-- how many keys are left on the way
abbrev pub keys_in : Making → ℕ
keys_in (making.Changed c) = 0
keys_in (making.Under keys value) = length keys.items
keys_in (making.Without keys) = length keys.items

abbrev pub decreases-making::made_empty : goal.decreases-making::made_empty
decreases-making::made_empty l = 7 * keys_in l.making + 2

abbrev pub decreases-element::Element::take_under : goal.decreases-element::Element::take_under
decreases-element::Element::take_under l = 7 * length l.keys.items

abbrev pub decreases-making::begun : goal.decreases-making::begun
decreases-making::begun l = 7 * keys_in l.making + 3

abbrev pub decreases-making::change_at : goal.decreases-making::change_at
decreases-making::change_at l = 7 * keys_in l.making + 3

abbrev pub decreases-making::change_own : goal.decreases-making::change_own
decreases-making::change_own l = 7 * keys_in l.making + 4

abbrev pub decreases-making::change_pair : goal.decreases-making::change_pair
decreases-making::change_pair l = 7 * keys_in l.making + 5

abbrev pub decreases-element::Element::change_key : goal.decreases-element::Element::change_key
decreases-element::Element::change_key l = 7 * keys_in l.making + 6

abbrev pub decreases-element::Element::put_under : goal.decreases-element::Element::put_under
decreases-element::Element::put_under l = 7 * length l.keys.items

abbrev pub decreases-element::Element::make : goal.decreases-element::Element::make
decreases-element::Element::make l = 7 * keys_in l.making + 1
