use Rattle.std.proofs.Common.{ap, arith, ◌∙◌}
use Rattle.tcl_frames.specs.Standing.{joined}
use Rattle.tcl_frames.proofs.Joined.{count_joined, left_joined}
use Rattle.tcl_frames.proofs.frames.Frames.pop.Goals as goal

pub pop-requires : goal.pop-requires
pop-requires c = let e = count_joined c.self.inside.stack c.self.inside.variables c.args.self.now c.self.view_is in let h = c.requires in omega (arith, e, h)

pub returns : goal.returns
returns c =
    ap (λ f. joined f c.pop-2.new.self) c.pop.ensures ∙ ap (joined _) c.pop-2.ensures
    ∙ left_joined c.self.inside.stack c.self.inside.variables c.args.self.now c.self.view_is c.self.invariant
