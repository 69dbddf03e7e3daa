use Rattle.std.proofs.Common.{◌+◌, ◌*◌, length}
use Rattle.tcl_values.proofs.+placing.Given as goal

abbrev pub decreases-element::Element::place_under : goal.decreases-element::Element::place_under
decreases-element::Element::place_under l = 5 * length l.places.items

abbrev pub decreases-placing::begun : goal.decreases-placing::begun
decreases-placing::begun l = 5 * length l.places.items + 1

abbrev pub decreases-placing::place_there : goal.decreases-placing::place_there
decreases-placing::place_there l = 5 * length l.places.items + 1

abbrev pub decreases-placing::place_own : goal.decreases-placing::place_own
decreases-placing::place_own l = 5 * length l.places.items + 2

abbrev pub decreases-placing::place_row : goal.decreases-placing::place_row
decreases-placing::place_row l = 5 * length l.places.items + 3

abbrev pub decreases-element::Element::place_in : goal.decreases-element::Element::place_in
decreases-element::Element::place_in l = 5 * length l.places.items + 4
