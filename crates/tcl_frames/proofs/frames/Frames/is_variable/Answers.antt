use Rattle.std.proofs.Common.{◌≡◌, not, true, false, ap, sym, ◌∙◌}
use Rattle.std.specs.Prelude.{is_some, ◌&&◌}
use Rattle.std.specs.FinMap as map
use Rattle.std.specs.Str.{chars}
use Rattle.tcl_meaning.specs.Links.{links_of, link_at}
use Rattle.tcl_frames.specs.Written.{variables_of}
use Rattle.tcl_frames.proofs.LinkTests.{variable_joined}
use Rattle.tcl_frames.proofs.frames.Frames.is_variable.Goals as goal

pub returns-then-not-is_link : goal.returns-then-not-is_link
returns-then-not-is_link c cs =
    let f = c.self.inside.stack in
    let vs = c.self.inside.variables in
    let name = chars c.args.name.now in
    let free : not (is_some (link_at (links_of f.frames) f.active name)) ≡ true = ap (λ i. not (is_some (link_at (links_of f.frames) i name))) (sym c.active-active.ensures.active) ∙ ap not (sym c.is_link.ensures ∙ c.if-not-is_link.true) in
    c.has.ensures ∙ ap (λ i. is_some (map.get (variables_of vs i) name)) c.active-active.ensures.active
    ∙ sym (variable_joined f vs c.args.self.now c.self.view_is c.self.invariant cs name ∙ ap (λ b. b && is_some (map.get (variables_of vs f.active) name)) free)

pub returns-else-not-is_link : goal.returns-else-not-is_link
returns-else-not-is_link c cs =
    let f = c.self.inside.stack in
    let vs = c.self.inside.variables in
    let name = chars c.args.name.now in
    let free : not (is_some (link_at (links_of f.frames) f.active name)) ≡ false = ap (λ i. not (is_some (link_at (links_of f.frames) i name))) (sym c.active-active.ensures.active) ∙ ap not (sym c.is_link.ensures ∙ c.if-not-is_link.false) in
    ap not c.if-not-is_link.false
    ∙ sym (variable_joined f vs c.args.self.now c.self.view_is c.self.invariant cs name ∙ ap (λ b. b && is_some (map.get (variables_of vs f.active) name)) free)
