use Rattle.std.proofs.Common.{None, ap, sym, ◌∙◌}
use Rattle.std.specs.FinMap as map
use Rattle.std.specs.Str.{chars}
use Rattle.tcl_meaning.specs.Links.{link_at}
use Rattle.tcl_meaning.specs.State.{Store}
use Rattle.tcl_frames.proofs.LinkTests.{links_now, link_made, link_even}
use Rattle.tcl_frames.proofs.frames.Frames.link.Goals as goal

pub set_link-requires-clause-free : goal.set_link-requires-clause-free
set_link-requires-clause-free c =
    ap (λ ls. link_at ls c.in-Ok.target.frame c.in-Ok.target.name) (sym (links_now c.self.inside.stack c.self.inside.variables c.args.self.now c.self.view_is)) ∙ c.in-Ok.ensures.free

pub invariant_of-self-2 : goal.invariant_of-self-2
invariant_of-self-2 c = link_even c.self.inside.stack c.set_link.new.self c.self.inside.variables (chars c.args.local.now) c.in-Ok.target (c.in_ok-set_link.ensures.done map.empty) c.self.invariant

pub returns-clause-done : goal.returns-clause-done
returns-clause-done c cs =
    c.in-Ok.ensures.found cs
    ∙ ap (λ (s : Store). (None, s)) (sym (link_made c.self.inside.stack c.set_link.new.self c.self.inside.variables c.args.self.now (chars c.args.local.now) c.in-Ok.target cs c.self.view_is (c.in_ok-set_link.ensures.done cs)))
