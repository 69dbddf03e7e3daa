-- What the variables of all frames end as, once the loan of a text is over.
use Rattle.std.specs.Prelude.{List, Result}
use Rattle.std.specs.Borrow.{LendsIfOk, MutBor, Fml}
use Rattle.tcl_meaning.specs.declared.refusal.Refusal.{Refusal}
use Rattle.tcl_pages.specs.Texts.{Text}
use Rattle.tcl_meaning.specs.Frames.{Spot, Variables}
use Rattle.tcl_values.specs.contracts.value.Value as value
use Rattle.tcl_frames.specs.Written.{with_text_at}
use Rattle.tcl_frames.specs.contracts.all_variables.AllVariables as all

abbrev pub LendsAt : MutBor (List Variables) → Spot → Result (MutBor Text) Refusal → Fml
LendsAt s p r = LendsIfOk all.the_row value.the_row s r (λ w. with_text_at s.now p w) s.now
