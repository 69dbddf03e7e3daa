use Rattle.std.proofs.Common.{List, ℕ, arith}
use Rattle.std.specs.Borrow.{name_if_ok}
use Rattle.tcl_frames.specs.Parts.{part_of}
use Rattle.tcl_frames.specs.Places.{spot}
use Rattle.tcl_frames.proofs.Joined.{count_joined, variable_is, text_joined}
use Rattle.tcl_frames.proofs.frames.Frames.place_at.Goals as goal
use borrow.Follows.Closed.{read_of}

pub place-requires : goal.place-requires
place-requires c =
    let e = count_joined c.self.inside.stack c.self.inside.variables c.args.self.now c.self.view_is in
    let h = c.requires in
    let even = c.self.invariant in omega (arith, e, h, even)

pub returns : goal.returns
returns c =
    let f = c.self.inside.stack in
    let vs = c.self.inside.variables in
    let now = c.args.self.now in
    let p = spot c.args.frame c.args.name.now (part_of c.args.part) in
    let after = λ (w : List ℕ). text_joined f vs now c.self.view_is c.self.invariant p w in (
      λ i. read_of (name_if_ok (λ x. x.ghost_name) c.place.result) (λ w. after w i) (c.self.view_is i),
      record {
        writes_back = tt;
        found = λ cs. rw (variable_is f vs now c.self.view_is c.self.invariant cs p) c.place.ensures.found;
        refused = λ cs. rw (variable_is f vs now c.self.view_is c.self.invariant cs p) c.place.ensures.refused;
      },
    )
