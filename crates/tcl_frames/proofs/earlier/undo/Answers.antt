use Rattle.std.proofs.Common.{sym, ap, ◌∙◌}
use Rattle.tcl_frames.specs.Undone.{undone}
use Rattle.tcl_frames.proofs.UndoLemmas.{last_first}
use Rattle.tcl_frames.proofs.earlier.undo.Goals as goal

pub loop-earlier-preserved : goal.loop-earlier-preserved
loop-earlier-preserved c =
    ap (undone c.pop.new.self.items) c.put_back.ensures
    ∙ sym (last_first c.pop.new.self.items c.in-Some.earlier c.loop-earlier.elements)
    ∙ ap (λ es. undone es c.loop-earlier.elements) (sym c.in-Some.ensures.items)
    ∙ c.loop-earlier.invariant
