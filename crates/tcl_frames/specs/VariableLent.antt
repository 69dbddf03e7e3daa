-- What a variable ends as, once the loan of a text is over.
use Rattle.std.specs.Prelude.{Result}
use Rattle.std.specs.FinMap as map
use Rattle.std.specs.Borrow.{LendsIfOk, MutBor, Fml}
use Rattle.std.specs.Box.{with_value}
use Rattle.tcl_meaning.specs.declared.refusal.Refusal.{Refusal}
use Rattle.tcl_pages.specs.Texts.{Text}
use Rattle.tcl_meaning.specs.Frames.{Variable, Part, whole, element, deeper}
use Rattle.tcl_values.specs.contracts.value.Value as value
use Rattle.tcl_frames.specs.Written.{with_part}
use Rattle.tcl_frames.specs.contracts.variable.Held as held_row
use Rattle.tcl_frames.specs.contracts.variable.Variable as variable
use Rattle.tcl_frames.specs.declared.variable.Held.{Held}
use Rattle.tcl_frames.specs.declared.variable.Held.TheVariants as held

abbrev pub held_with : Held → Part → Text → Held
held_with (held.Text t) part w = held.Text w
held_with (held.Array m) whole w = held.Array m
held_with (held.Array m) (element i) w = held.Array (with_value m (map.insert m.value i w))
held_with (held.Array m) deeper w = held.Array m

abbrev pub LendsHeld : MutBor Held → Part → Result (MutBor Text) Refusal → Fml
LendsHeld s part r = LendsIfOk held_row.the_row value.the_row s r (λ w. held_with s.now part w) s.now

abbrev pub LendsPart : MutBor Variable → Part → Result (MutBor Text) Refusal → Fml
LendsPart s part r = LendsIfOk variable.the_row value.the_row s r (λ w. with_part s.now part w) s.now
