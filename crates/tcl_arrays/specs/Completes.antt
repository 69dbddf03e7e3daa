-- How a command ends that answers a text, and which commands look at frames alone.
use Rattle.std.specs.Prelude.{◌≡◌, Bool, true, false, Result, Ok, Err}
use Rattle.tcl_chars.specs.Texts.{text_of}
use Rattle.tcl_chars.specs.declared.fault.Fault.{Fault}
use Rattle.tcl_chars.specs.declared.fault.Fault.TheVariants as fault
use Rattle.tcl_pages.specs.Texts.{Text}
use Rattle.tcl_meaning.specs.Completions.{Completion, normal, failure}
use Rattle.tcl_meaning.specs.declared.page.SeenPage.{SeenPage}
use Rattle.tcl_meaning.specs.declared.page.SeenPage.TheVariants as page

-- the completion is the answer's, or the error's of its message
abbrev pub Completes : {E : Type 0} → Result Text Fault → Result Completion E → Type 0
Completes answer (Err refused) = Unit {0}
Completes (Ok t) (Ok c) = c ≡ normal t
Completes (Err (fault.Error message)) (Ok c) = c ≡ failure (text_of message)
Completes (Err fault.Memory) (Ok c) = ⊥

-- the commands that look at the frames, and at nothing else
abbrev pub looks_at_frames : SeenPage → Bool
looks_at_frames page.ArrayExists = true
looks_at_frames page.ArrayGet = true
looks_at_frames page.ArrayNames = true
looks_at_frames page.ArraySize = true
looks_at_frames page.InfoArgs = false
looks_at_frames page.InfoBody = false
looks_at_frames page.InfoCommands = false
looks_at_frames page.InfoExists = true
looks_at_frames page.InfoLevel = true
looks_at_frames page.InfoProcs = false
looks_at_frames page.InfoVars = true
