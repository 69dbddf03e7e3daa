use Rattle.std.proofs.Common.{refl}
use Rattle.std.specs.Prelude.{codes}
use Rattle.tcl_chars.proofs.Literals.{literal_chars}
use Rattle.tcl_list.proofs.Writers.{wrote}
use Rattle.tcl_list.proofs.writing.push_form.Goals as goal

pub returns-in-Empty : goal.returns-in-Empty
returns-in-Empty c = rw (c.in-Empty.is, ← literal_chars (codes "{}") refl) (wrote c.push_text.result _ _ _ c.push_text.ensures.ok c.push_text.ensures.same)
