use Rattle.std.proofs.Common.{sym, ◌∙◌}
use Rattle.std.specs.Str.{chars}
use Rattle.tcl_meaning.specs.SeenPages.{is_there}
use Rattle.tcl_frames.specs.Places.{spot_of}
use Rattle.tcl_frames.proofs.Joined.{here_joined}
use Rattle.tcl_frames.proofs.frames.Frames.exists_here.Goals as goal

pub returns : goal.returns
returns c cs =
    c.is_there.ensures
    ∙ sym (here_joined is_there c.self.inside.stack c.self.inside.variables c.args.self.now c.self.view_is c.self.invariant cs (chars c.args.name.now) (spot_of c.place_here-at.result) c.place_here-at.ensures.leads)
