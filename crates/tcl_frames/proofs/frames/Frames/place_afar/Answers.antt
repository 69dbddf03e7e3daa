use Rattle.std.proofs.Common.{List, ℕ, ◌≡◌, refl, ap, ◌∙◌}
use mathlib.Core.Logic.{inl}
use Rattle.std.specs.FinMap as map
use Rattle.std.specs.Str.{chars}
use Rattle.tcl_meaning.specs.Names.{Name, divided_name}
use Rattle.tcl_meaning.specs.State.{Commands}
use Rattle.tcl_meaning.specs.Variables.{missing, spot_of as place_named}
use Rattle.tcl_frames.specs.Parts.{part_of}
use Rattle.tcl_frames.specs.Places.{spot}
use Rattle.tcl_frames.specs.Standing.{store_of}
use Rattle.tcl_frames.proofs.Joined.{get_place, put_place}
use Rattle.tcl_frames.proofs.frames.Frames.place_afar.Goals as goal

pub returns-in-Ok : goal.returns-in-Ok
returns-in-Ok c =
    let now = c.args.self.now in
    let name = chars c.args.name.now in
    let at = c.in-Some.at in
    let p = spot at.frame c.unkeyed-base.result (part_of at.part) in
    let base = ap (λ n. spot at.frame n (part_of at.part)) c.unkeyed-base.ensures in
    let miss = c.missing-missing.ensures ∙ ap (λ (n : Name). missing n.part) c.divide-divided.ensures in
    let leads : (cs : Commands) → p ≡ place_named (store_of cs now) (divided_name name) = λ cs. base ∙ c.in-Some.ensures.leads cs ∙ ap (place_named (store_of cs now)) c.divide-divided.ensures in
    let after = λ (w : List ℕ). put_place now name p w (leads map.empty) in
    (λ i. inl (c.in-Ok.value.ghost_name, λ w. after w i), (λ cs. get_place (store_of cs now) name p c.missing-missing.result (leads cs) miss ∙ c.in-Ok.ensures.found cs, λ cs. tt))

pub returns-in-Err : goal.returns-in-Err
returns-in-Err c =
    let now = c.args.self.now in
    let name = chars c.args.name.now in
    let at = c.in-Some.at in
    let p = spot at.frame c.unkeyed-base.result (part_of at.part) in
    let base = ap (λ n. spot at.frame n (part_of at.part)) c.unkeyed-base.ensures in
    let miss = c.missing-missing.ensures ∙ ap (λ (n : Name). missing n.part) c.divide-divided.ensures in
    (refl, (λ cs. tt, λ cs. get_place (store_of cs now) name p c.missing-missing.result (base ∙ c.in-Some.ensures.leads cs ∙ ap (place_named (store_of cs now)) c.divide-divided.ensures) miss ∙ c.in-Err.ensures.refused cs))
