-- As many frames stand when a line has been kept.
use Rattle.std.proofs.Common.{◌≡◌, length, sym, subst, Result, Ok, Err, IfOk}
use Rattle.tcl_frames.specs.Standing.{Standing}
use Rattle.tcl_meaning.specs.Asking.{Asks}
use Rattle.tcl_meaning.specs.Completions.{Completion}
use Rattle.tcl_steps.specs.declared.fault.Fault.{Fault}
use Rattle.tcl_steps.specs.Ends.{EndsDone}
use Rattle.tcl_steps.specs.declared.stop.Stop.{Stop}
use Rattle.tcl_steps.specs.declared.stop.Stop.TheVariants as stop
use Rattle.tcl_steps.proofs.FrameCounts.{comes_count}
use Rattle.tcl_channels.specs.Orders.{Closed}

pub closed_count : (page : Asks) (f g : Standing) (r : Result Completion Stop) (q : Result Completion Fault) → EndsDone page f r g → Closed r q → IfOk q (λ _. length g.frames ≡ length f.frames)
closed_count page f g (Ok c) q ends closes = subst (λ x. IfOk x (λ _. length g.frames ≡ length f.frames)) (sym closes) (comes_count page f g _ ends)
closed_count page f g (Err (stop.Error c)) q ends closes = subst (λ x. IfOk x (λ _. length g.frames ≡ length f.frames)) (sym closes) (comes_count page f g _ ends)
closed_count page f g (Err stop.Memory) q ends closes = subst (λ x. IfOk x (λ _. length g.frames ≡ length f.frames)) (sym closes) tt
