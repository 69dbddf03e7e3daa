-- What all frames end as, once the loan of a text is over.
use Rattle.std.specs.Prelude.{Result}
use Rattle.std.specs.Borrow.{LendsIfOk, MutBor, Fml}
use Rattle.tcl_pages.specs.Texts.{Text}
use Rattle.tcl_values.specs.contracts.value.Value as value
use Rattle.tcl_frames.specs.declared.fault.VarFault.{VarFault}
use Rattle.tcl_frames.specs.Standing.{Standing, with_put}
use Rattle.tcl_frames.specs.Written.{with_text_in}
use Rattle.tcl_meaning.specs.declared.refusal.Refusal.{Refusal}
use Rattle.tcl_meaning.specs.Frames.{Spot}
use Rattle.tcl_frames.specs.contracts.frames.Frames as frames

-- the place has the text that was left
abbrev pub LendsPlace : MutBor Standing → Text → Result (MutBor Text) VarFault → Fml
LendsPlace s name r = LendsIfOk frames.the_row value.the_row s r (λ w. with_put s.now name w) s.now

abbrev pub LendsSpot : MutBor Standing → Spot → Result (MutBor Text) Refusal → Fml
LendsSpot s p r = LendsIfOk frames.the_row value.the_row s r (λ w. with_text_in s.now p w) s.now
