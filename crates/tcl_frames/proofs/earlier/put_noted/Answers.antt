use Rattle.std.proofs.Common.{ap, ◌∙◌}
use Rattle.tcl_chars.specs.Texts.{text_of}
use Rattle.tcl_frames.specs.Undone.{undone}
use Rattle.tcl_frames.proofs.UndoLemmas.{noted}
use Rattle.tcl_frames.proofs.earlier.put_noted.Goals as goal

pub returns-clause-noted : goal.returns-clause-noted
returns-clause-noted c =
    ap (λ es. undone es c.insert_shared.new.self) c.in_ok-push.ensures.items
    ∙ noted c.insert_shared.result c.args.notes.now.items c.in_ok-before.before c.args.elements.now c.insert_shared.new.self (text_of c.args.name) c.args.value
    c.in_ok-before.ensures.name c.in_ok-before.ensures.value c.insert_shared.ensures.put c.insert_shared.ensures.same
