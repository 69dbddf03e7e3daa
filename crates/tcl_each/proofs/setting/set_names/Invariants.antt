use Rattle.std.proofs.Common.{length, take, drop}
use Rattle.tcl_meaning.specs.Variables.{set_all}
use Rattle.tcl_steps.specs.Comes.{Becomes}
use Rattle.tcl_steps.proofs.SetAll.{set_from}
use Rattle.tcl_each.proofs.setting.set_names.Given as goal

abbrev pub invariant-loop-place : goal.invariant-loop-place
invariant-loop-place l = Becomes (set_all l.fn.names (take (length l.fn.names) (drop l.fn.gone l.fn.elements))) l.fn.frames (set_from l.fn.names (take (length l.fn.names) (drop l.fn.gone l.fn.elements)) l.place) l.frames
