use Rattle.std.proofs.Common.{sym, ap, ◌∙◌, arith}
use Rattle.std.specs.Str.{chars}
use Rattle.std.specs.Option.{option_copied}
use Rattle.tcl_meaning.specs.Links.{links_of, link_at}
use Rattle.tcl_frames.specs.Standing.{Standing}
use Rattle.tcl_frames.specs.Parts.{part_of}
use Rattle.tcl_frames.specs.Places.{spot, spot_of}
use Rattle.tcl_frames.proofs.Chains.{own_place}
use Rattle.tcl_frames.proofs.Standings.{turn}
use Rattle.tcl_frames.proofs.stack.Stack.follow_links.Goals as goal

pub loop-link-smaller : goal.loop-link-smaller
loop-link-smaller c =
    (turn c.self.inside.calls.items c.self.inside.active c.args.self.now c.deref.result.now c.deref.ensures.value c.self.view_is c.self.invariant c.loop-link.at_frame (chars c.loop-link.at_name.now) (part_of c.loop-link.at_part) c.in-Some.link.now (spot_of c.through-on.result)
    (sym c.find.ensures ∙ ap option_copied c.in-Some.is) c.through-on.ensures.leads).0

pub loop-link-preserved : goal.loop-link-preserved
loop-link-preserved c =
    let on = turn c.self.inside.calls.items c.self.inside.active c.args.self.now c.deref.result.now c.deref.ensures.value c.self.view_is c.self.invariant c.loop-link.at_frame (chars c.loop-link.at_name.now) (part_of c.loop-link.at_part) c.in-Some.link.now (spot_of c.through-on.result)
    (sym c.find.ensures ∙ ap option_copied c.in-Some.is) c.through-on.ensures.leads in
    record {
      earlier = let down = on.2 in omega (arith, down, c.loop-link.invariant.earlier);
      text = c.through-on.ensures.utf8;
      leads = on.1 ∙ c.loop-link.invariant.leads;
    }

pub returns-clause-leads : goal.returns-clause-leads
returns-clause-leads c =
    let same = c.deref.ensures.value ∙ ap (λ (s : Standing). s.frames) c.self.view_is in
    let at = spot c.loop-link.at_frame (chars c.loop-link.at_name.now) (part_of c.loop-link.at_part) in
    sym (own_place c.args.self.now.frames at (ap (λ fs. link_at (links_of fs) at.frame at.name) (sym same) ∙ sym c.find.ensures ∙ ap option_copied c.in_default.is))
    ∙ c.loop-link.invariant.leads
