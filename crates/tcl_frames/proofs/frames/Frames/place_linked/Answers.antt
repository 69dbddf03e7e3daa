use Rattle.std.proofs.Common.{List, ℕ, refl, ap, ◌∙◌}
use mathlib.Core.Logic.{inl}
use Rattle.std.specs.FinMap as map
use Rattle.std.specs.Str.{chars}
use Rattle.tcl_frames.specs.Parts.{part_of}
use Rattle.tcl_frames.specs.Places.{spot}
use Rattle.tcl_frames.specs.Standing.{store_of}
use Rattle.tcl_frames.proofs.Joined.{get_place, put_place}
use Rattle.tcl_frames.proofs.frames.Frames.place_linked.Goals as goal

pub returns-in-Ok-place_at : goal.returns-in-Ok-place_at
returns-in-Ok-place_at c =
    let now = c.args.self.now in
    let name = chars c.args.name.now in
    let at = c.as_place-at.result in
    let p = spot at.frame c.unkeyed-base.result (part_of at.part) in
    let base = ap (λ n. spot at.frame n (part_of at.part)) c.unkeyed-base.ensures in
    let miss = c.requires in
    let after = λ (w : List ℕ). put_place now name p w (base ∙ c.as_place-at.ensures ∙ c.in-Ok.ensures.leads map.empty) in
    (λ i. inl (c.in-Ok-place_at.value.ghost_name, λ w. after w i), (λ cs. get_place (store_of cs now) name p c.args.missing (base ∙ c.as_place-at.ensures ∙ c.in-Ok.ensures.leads cs) miss ∙ c.in-Ok-place_at.ensures.found cs, λ cs. tt))

pub returns : goal.returns
returns c =
    let now = c.args.self.now in
    let name = chars c.args.name.now in
    let at = c.as_place-at.result in
    let p = spot at.frame c.unkeyed-base.result (part_of at.part) in
    let base = ap (λ n. spot at.frame n (part_of at.part)) c.unkeyed-base.ensures in
    let miss = c.requires in
    (refl, (λ cs. tt, λ cs. get_place (store_of cs now) name p c.args.missing (base ∙ c.as_place-at.ensures ∙ c.in-Ok.ensures.leads cs) miss ∙ c.in-Err.ensures.refused cs))
