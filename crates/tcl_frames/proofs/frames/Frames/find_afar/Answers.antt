use Rattle.std.proofs.Common.{ap, ◌∙◌}
use Rattle.std.specs.Str.{chars}
use Rattle.tcl_meaning.specs.Links.{spot_in}
use Rattle.tcl_meaning.specs.Names.{Name}
use Rattle.tcl_meaning.specs.Variables.{missing}
use Rattle.tcl_frames.specs.Parts.{part_of}
use Rattle.tcl_frames.specs.Places.{spot}
use Rattle.tcl_frames.proofs.Joined.{get_joined}
use Rattle.tcl_frames.proofs.frames.Frames.find_afar.Goals as goal

pub returns-clause-found : goal.returns-clause-found
returns-clause-found c cs =
    let at = c.place_divided-at.result in
    let p = spot at.frame c.unkeyed-base.result (part_of at.part) in
    let leads = ap (λ n. spot at.frame n (part_of at.part)) c.unkeyed-base.ensures ∙ c.place_divided-at.ensures.leads ∙ ap (spot_in c.self.inside.stack.frames c.self.inside.stack.active) c.divide-name.ensures in
    let miss = c.missing.ensures ∙ ap (λ (n : Name). missing n.part) c.divide-name.ensures in
    rw (get_joined c.self.inside.stack c.self.inside.variables c.args.self.now c.self.view_is c.self.invariant cs (chars c.args.name.now) p leads c.missing.result miss)
    c.find.ensures.found

pub returns-clause-refused : goal.returns-clause-refused
returns-clause-refused c cs =
    let at = c.place_divided-at.result in
    let p = spot at.frame c.unkeyed-base.result (part_of at.part) in
    let leads = ap (λ n. spot at.frame n (part_of at.part)) c.unkeyed-base.ensures ∙ c.place_divided-at.ensures.leads ∙ ap (spot_in c.self.inside.stack.frames c.self.inside.stack.active) c.divide-name.ensures in
    let miss = c.missing.ensures ∙ ap (λ (n : Name). missing n.part) c.divide-name.ensures in
    rw (get_joined c.self.inside.stack c.self.inside.variables c.args.self.now c.self.view_is c.self.invariant cs (chars c.args.name.now) p leads c.missing.result miss)
    c.find.ensures.refused
