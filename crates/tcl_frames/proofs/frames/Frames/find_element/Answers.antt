use Rattle.std.proofs.Common.{◌≡◌, [], sym, ap, subst, ◌∙◌}
use Rattle.std.specs.Str.{chars}
use Rattle.tcl_meaning.specs.Frames.{element}
use Rattle.tcl_meaning.specs.Links.{spot_in}
use Rattle.tcl_meaning.specs.Names.{Name, from_paren}
use Rattle.tcl_meaning.specs.Substitution.{spelled_element}
use Rattle.tcl_meaning.specs.Variables.{missing}
use Rattle.tcl_meaning.specs.declared.refusal.Refusal.TheVariants.{NoElement}
use Rattle.tcl_frames.specs.Places.{spot}
use Rattle.tcl_frames.proofs.Chains.{own_place}
use Rattle.tcl_frames.proofs.Joined.{get_joined}
use Rattle.tcl_frames.proofs.NamesLemmas.{element_plain}
use Rattle.tcl_frames.proofs.frames.Frames.find_element.Goals as goal

pub returns-in-Ok : goal.returns-in-Ok
returns-in-Ok c cs =
    let stack = c.self.inside.stack in
    let name = c.args.name.now in
    let part = element (chars c.args.index.now) in
    let none = subst (λ t. from_paren t ≡ []) c.as_str.ensures (c.has_no_paren.ensures c.if-not-has_no_paren.false) in
    let named = element_plain name (chars c.args.index.now) none (c.is_whole.ensures c.if-not-is_whole.false) in
    let leads =
    ap (λ i. spot i name part) c.active-frame.ensures.active
    ∙ sym (ap (spot_in stack.frames stack.active) named ∙ own_place stack.frames (spot stack.active name part) (c.has_no_link.ensures c.if-not-has_no_link.false name)) in
    get_joined stack c.self.inside.variables c.args.self.now c.self.view_is c.self.invariant cs (spelled_element name (chars c.args.index.now)) (spot c.active-frame.result name part) leads NoElement
    (sym (ap (λ (n : Name). missing n.part) named))
    ∙ c.in-Ok.ensures.found
