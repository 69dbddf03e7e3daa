use Rattle.std.proofs.Common.{ℕ, sym, ap, ◌∙◌}
use Rattle.tcl_meaning.specs.Frames.{whole}
use Rattle.tcl_meaning.specs.Links.{spot_in}
use Rattle.tcl_meaning.specs.Names.{Name}
use Rattle.tcl_frames.specs.Places.{spot}
use Rattle.tcl_frames.proofs.Chains.{own_place}
use Rattle.tcl_frames.proofs.frames.own_frame.Goals as goal

pub returns-then-has_no_link-clause-leads : goal.returns-then-has_no_link-clause-leads
returns-then-has_no_link-clause-leads c =
    let stack = c.args.stack.now in
    let name = c.args.name.now in
    ap (λ (i : ℕ). spot i name whole) c.active.ensures.active
    ∙ sym (ap (spot_in stack.frames stack.active) (c.is_whole.ensures c.if-is_whole.true) ∙ own_place stack.frames (spot stack.active name whole) (c.has_no_link.ensures c.if-has_no_link.true name))

pub returns-then-has_no_link-clause-whole : goal.returns-then-has_no_link-clause-whole
returns-then-has_no_link-clause-whole c = ap (λ (n : Name). n.part) (c.is_whole.ensures c.if-is_whole.true)
