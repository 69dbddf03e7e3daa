use Rattle.std.proofs.Common.{None, ap, sym, ◌∙◌}
use Rattle.std.specs.Prelude.{nat_eq, ◌&&◌}
use Rattle.std.specs.Str.{chars}
use Rattle.tcl_pages.specs.Texts.{same_text}
use Rattle.tcl_meaning.specs.Frames.{Spot}
use Rattle.tcl_meaning.specs.Links.{Linked, links_of, link_at}
use Rattle.tcl_meaning.specs.State.{with_link}
use Rattle.tcl_frames.specs.Levels.{level_of}
use Rattle.tcl_frames.specs.Places.{spot_of}
use Rattle.tcl_frames.specs.Standing.{store_of}
use Rattle.tcl_frames.proofs.LinkTests.{active_is, bad_level, bad_name, itself, exists, linked, links_now}
use Rattle.tcl_frames.proofs.frames.Frames.link_target.Goals as goal

pub returns-in_default-clause-refused : goal.returns-in_default-clause-refused
returns-in_default-clause-refused c cs =
    ap (λ (x : Linked). x.0) (bad_level c.self.inside.stack c.self.inside.variables c.args.self.now c.self.view_is c.self.invariant cs (level_of c.args.level) (chars c.args.other.now) (chars c.args.local.now) (sym c.frame_of.ensures.found ∙ c.in_default.is))

pub returns-then-is_compound-clause-refused : goal.returns-then-is_compound-clause-refused
returns-then-is_compound-clause-refused c cs =
    ap (λ (x : Linked). x.0) (bad_name c.self.inside.stack c.self.inside.variables c.args.self.now c.self.view_is c.self.invariant cs (level_of c.args.level) (chars c.args.other.now) (chars c.args.local.now) c.in-Some.frame
    (sym c.frame_of.ensures.found ∙ c.in-Some.is) (sym c.is_compound.ensures ∙ c.if-is_compound.true))

pub returns-then-is_at-clause-refused : goal.returns-then-is_at-clause-refused
returns-then-is_at-clause-refused c cs =
    let p = spot_of c.place_in-target.result in
    let active = active_is c.self.inside.stack c.self.inside.variables c.args.self.now c.self.view_is c.self.invariant cs c.active.result c.active.ensures.active in
    let own = ap (λ i. nat_eq p.frame i && same_text p.name (chars c.args.local.now)) (sym active) ∙ sym c.is_at.ensures in
    ap (λ (x : Linked). x.0) (itself c.self.inside.stack c.self.inside.variables c.args.self.now c.self.view_is c.self.invariant cs (level_of c.args.level) (chars c.args.other.now) (chars c.args.local.now) c.in-Some.frame p
    (sym c.frame_of.ensures.found ∙ c.in-Some.is) c.place_in-target.ensures.leads (sym c.is_compound.ensures ∙ c.if-is_compound.false) (own ∙ c.if-is_at.true))

pub returns-then-is_variable-clause-refused : goal.returns-then-is_variable-clause-refused
returns-then-is_variable-clause-refused c cs =
    let p = spot_of c.place_in-target.result in
    let active = active_is c.self.inside.stack c.self.inside.variables c.args.self.now c.self.view_is c.self.invariant cs c.active.result c.active.ensures.active in
    let own = ap (λ i. nat_eq p.frame i && same_text p.name (chars c.args.local.now)) (sym active) ∙ sym c.is_at.ensures in
    ap (λ (x : Linked). x.0) (exists c.self.inside.stack c.self.inside.variables c.args.self.now c.self.view_is c.self.invariant cs (level_of c.args.level) (chars c.args.other.now) (chars c.args.local.now) c.in-Some.frame p
    (sym c.frame_of.ensures.found ∙ c.in-Some.is) c.place_in-target.ensures.leads (sym c.is_compound.ensures ∙ c.if-is_compound.false) (own ∙ c.if-is_at.false) (sym (c.is_variable.ensures cs) ∙ c.if-is_variable.true))

pub returns-clause-found : goal.returns-clause-found
returns-clause-found c cs =
    let p = spot_of c.place_in-target.result in
    let active = active_is c.self.inside.stack c.self.inside.variables c.args.self.now c.self.view_is c.self.invariant cs c.active.result c.active.ensures.active in
    let own = ap (λ i. nat_eq p.frame i && same_text p.name (chars c.args.local.now)) (sym active) ∙ sym c.is_at.ensures in
    linked c.self.inside.stack c.self.inside.variables c.args.self.now c.self.view_is c.self.invariant cs (level_of c.args.level) (chars c.args.other.now) (chars c.args.local.now) c.in-Some.frame p
    (sym c.frame_of.ensures.found ∙ c.in-Some.is) c.place_in-target.ensures.leads (sym c.is_compound.ensures ∙ c.if-is_compound.false) (own ∙ c.if-is_at.false) (sym (c.is_variable.ensures cs) ∙ c.if-is_variable.false)
    ∙ ap (λ (t : Spot). (None, with_link (chars c.args.local.now) t (store_of cs c.args.self.now))) (sym c.in_ok-to.ensures)

pub returns-clause-free : goal.returns-clause-free
returns-clause-free c =
    let p = spot_of c.place_in-target.result in
    ap (λ (t : Spot). link_at (links_of c.args.self.now.frames) t.frame t.name) c.in_ok-to.ensures
    ∙ ap (λ ls. link_at ls p.frame p.name) (links_now c.self.inside.stack c.self.inside.variables c.args.self.now c.self.view_is) ∙ c.place_in-target.ensures.free
