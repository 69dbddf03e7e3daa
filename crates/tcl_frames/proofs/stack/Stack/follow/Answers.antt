use Rattle.std.proofs.Common.{sym, ap, ◌∙◌}
use Rattle.std.specs.Str.{chars}
use Rattle.tcl_meaning.specs.Links.{links_of, link_at}
use Rattle.tcl_frames.specs.Standing.{Standing}
use Rattle.tcl_frames.specs.Parts.{part_of}
use Rattle.tcl_frames.specs.Places.{spot}
use Rattle.tcl_frames.proofs.Chains.{own_place}
use Rattle.tcl_frames.proofs.stack.Stack.follow.Goals as goal

pub returns-then-links_none-clause-leads : goal.returns-then-links_none-clause-leads
returns-then-links_none-clause-leads c =
    let at = spot c.args.frame (chars c.args.name.now) (part_of c.args.part) in
    let same = c.deref.ensures.value ∙ ap (λ (s : Standing). s.frames) c.self.view_is in
    sym (own_place c.args.self.now.frames at (ap (λ fs. link_at (links_of fs) at.frame at.name) (sym same) ∙ c.links_none.ensures c.if-links_none.true at.name))

pub returns-then-links_none-clause-free : goal.returns-then-links_none-clause-free
returns-then-links_none-clause-free c =
    let same = c.deref.ensures.value ∙ ap (λ (s : Standing). s.frames) c.self.view_is in
    ap (λ fs. link_at (links_of fs) c.args.frame (chars c.args.name.now)) (sym same) ∙ c.links_none.ensures c.if-links_none.true (chars c.args.name.now)
