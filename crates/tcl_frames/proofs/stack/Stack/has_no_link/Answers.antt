use Rattle.std.proofs.Common.{◌≡◌, None, sym, ap, subst, ◌∙◌}
use Rattle.tcl_meaning.specs.Links.{links_of, link_at}
use Rattle.tcl_frames.specs.Standing.{Standing}
use Rattle.tcl_frames.proofs.stack.Stack.has_no_link.Goals as goal

pub returns : goal.returns
returns c none name =
    subst (λ (s : Standing). link_at (links_of s.frames) s.active name ≡ None) c.self.view_is
    (ap (λ fs. link_at (links_of fs) c.self.inside.active name) (sym c.deref.ensures.value) ∙ c.links_none.ensures none name)
