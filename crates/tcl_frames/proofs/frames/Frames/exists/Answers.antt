use Rattle.std.proofs.Common.{sym, ◌∙◌}
use Rattle.std.specs.Str.{chars}
use Rattle.tcl_frames.specs.Places.{spot_of}
use Rattle.tcl_frames.proofs.Joined.{there_joined}
use Rattle.tcl_frames.proofs.frames.Frames.exists.Goals as goal

pub returns : goal.returns
returns c cs =
    c.is_there.ensures ∙ sym (there_joined c.self.inside.stack c.self.inside.variables c.args.self.now c.self.view_is c.self.invariant cs (chars c.args.name.now) (spot_of c.place_of-at.result) c.place_of-at.ensures.leads)
