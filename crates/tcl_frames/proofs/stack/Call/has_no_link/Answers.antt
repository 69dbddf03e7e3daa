use Rattle.std.proofs.Common.{sym, ap, ◌∙◌, eqb-true}
use Rattle.std.specs.FinMap.{empty_of_len}
use Rattle.tcl_meaning.specs.Frames.{Frame}
use Rattle.tcl_frames.proofs.stack.Call.has_no_link.Goals as goal

pub returns : goal.returns
returns c none = ap (λ (f : Frame). f.links) (sym c.self.view_is) ∙ empty_of_len c.self.inside.links (eqb-true _ _ (sym c.is_empty.ensures ∙ none))
