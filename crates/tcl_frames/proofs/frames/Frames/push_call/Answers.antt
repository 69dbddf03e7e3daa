use Rattle.std.proofs.Common.{ap, ◌∙◌}
use Rattle.tcl_frames.specs.Standing.{store_of, joined, called}
use Rattle.tcl_frames.proofs.Joined.{call_joined}
use Rattle.tcl_frames.proofs.frames.Frames.push_call.Goals as goal

pub returns-in-Ok-clause-done : goal.returns-in-Ok-clause-done
returns-in-Ok-clause-done c cs =
    ap (λ f. store_of cs (joined f c.push.new.self)) c.in-Ok.ensures.done ∙ ap (λ vs. store_of cs (joined (called c.self.inside.stack) vs)) c.in_ok-push.ensures.done
    ∙ call_joined c.self.inside.stack c.self.inside.variables c.args.self.now c.args.variables cs c.self.view_is c.self.invariant
