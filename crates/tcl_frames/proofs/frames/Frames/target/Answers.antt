use Rattle.std.proofs.Common.{sym, arith, ◌∙◌}
use Rattle.std.specs.Str.{chars}
use Rattle.tcl_meaning.specs.Names.{divided_name}
use Rattle.tcl_frames.specs.Places.{spot_of}
use Rattle.tcl_frames.proofs.Joined.{named_joined, count_joined, if_frame}
use Rattle.tcl_frames.proofs.frames.Frames.target.Goals as goal

pub returns-clause-leads : goal.returns-clause-leads
returns-clause-leads c cs =
    rw (named_joined c.self.inside.stack c.self.inside.variables c.args.self.now c.self.view_is c.self.invariant cs (divided_name (chars c.args.name.now)) ∙ sym c.place_of.ensures.leads) c.to.ensures

pub returns-clause-there : goal.returns-clause-there
returns-clause-there c =
    let e = count_joined c.self.inside.stack c.self.inside.variables c.args.self.now c.self.view_is in
    let lt = c.place_of.ensures.there in
    if_frame c.to.result (spot_of c.place_of.result) _ c.to.ensures (omega (arith, e, lt))
