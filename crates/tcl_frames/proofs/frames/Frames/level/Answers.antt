use Rattle.std.proofs.Common.{ap, sym, ◌∙◌}
use Rattle.tcl_meaning.specs.Frames.{frame_at}
use Rattle.tcl_frames.specs.Standing.{Standing}
use Rattle.tcl_frames.proofs.Joined.{level_joined}
use Rattle.tcl_frames.proofs.frames.Frames.level.Goals as goal

pub returns : goal.returns
returns c cs =
    let f = c.self.inside.stack in
    c.level.ensures ∙ sym (level_joined f.frames c.self.inside.variables f.active) ∙ ap (λ (n : Standing). (frame_at n.frames n.active).level) c.self.view_is
