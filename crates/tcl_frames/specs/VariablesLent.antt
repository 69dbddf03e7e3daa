-- What the variables of a frame end as, once the loan of a text is over.
use Rattle.std.specs.Prelude.{Result}
use Rattle.std.specs.Borrow.{LendsIfOk, MutBor, Fml}
use Rattle.tcl_names.specs.contracts.placed.PlacedNames as names
use Rattle.tcl_meaning.specs.declared.refusal.Refusal.{Refusal}
use Rattle.tcl_pages.specs.Texts.{Text}
use Rattle.tcl_meaning.specs.Frames.{Part, Variables}
use Rattle.tcl_values.specs.contracts.value.Value as value
use Rattle.tcl_frames.specs.Written.{with_text}
use Rattle.tcl_frames.specs.contracts.variable.Variable as variable

abbrev pub LendsText : MutBor Variables → Text → Part → Result (MutBor Text) Refusal → Fml
LendsText s name part r = LendsIfOk (names.the_row variable.the_row) value.the_row s r (λ w. with_text s.now name part w) s.now
