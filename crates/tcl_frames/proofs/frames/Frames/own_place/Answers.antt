use Rattle.std.proofs.Common.{ℕ, sym, ap, ◌∙◌, arith}
use Rattle.std.specs.Prelude.{if◌then◌else◌}
use Rattle.tcl_meaning.specs.Links.{destination}
use Rattle.tcl_frames.specs.Parts.{name_of}
use Rattle.tcl_frames.specs.Places.{spot}
use Rattle.tcl_frames.proofs.Chains.{own_place, no_link}
use Rattle.tcl_frames.proofs.Joined.{count_joined, named_joined}
use Rattle.tcl_frames.proofs.frames.Frames.own_place.Goals as goal

pub returns-clause-leads : goal.returns-clause-leads
returns-clause-leads c cs =
    let f = c.self.inside.stack in
    let n = name_of c.args.name in
    let at = spot c.home-frame.result n.base n.part in
    let here = c.home-frame.ensures.home ∙ ap (λ (i : ℕ). if n.global then 0 else i) c.active.ensures.active in
    sym (named_joined f c.self.inside.variables c.args.self.now c.self.view_is c.self.invariant cs n
    ∙ ap (λ i. destination f.frames (spot i n.base n.part)) (sym here)
    ∙ own_place f.frames at (no_link _ (sym c.is_link.ensures ∙ c.if-is_link.false)))

pub returns-clause-there : goal.returns-clause-there
returns-clause-there c =
    let earlier = c.home-frame.ensures.earlier in
    let there = c.active.ensures.there in
    let count = count_joined c.self.inside.stack c.self.inside.variables c.args.self.now c.self.view_is in
    omega (arith, earlier, there, count)
