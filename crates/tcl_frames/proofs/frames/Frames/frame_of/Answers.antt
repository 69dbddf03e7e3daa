use Rattle.std.proofs.Common.{◌≡◌, IfSome, sym, subst}
use Rattle.tcl_meaning.specs.Frames.{whole}
use Rattle.tcl_meaning.specs.Names.{divided_name}
use Rattle.tcl_frames.specs.Places.{spot}
use Rattle.tcl_frames.proofs.Joined.{count_joined, if_within, named_joined}
use Rattle.tcl_frames.proofs.frames.Frames.frame_of.Goals as goal

pub returns-clause-leads : goal.returns-clause-leads
returns-clause-leads c cs =
    let name = c.args.name.now in
    subst (λ p. IfSome c.own_frame.result (λ frame. spot frame name whole ≡ p)) (sym (named_joined c.self.inside.stack c.self.inside.variables c.args.self.now c.self.view_is c.self.invariant cs (divided_name name)))
    c.own_frame.ensures.leads

pub returns-clause-there : goal.returns-clause-there
returns-clause-there c = if_within c.own_frame.result _ _ (count_joined c.self.inside.stack c.self.inside.variables c.args.self.now c.self.view_is) c.own_frame.ensures.there
