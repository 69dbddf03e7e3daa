use Rattle.std.proofs.Common.{◌≡◌, sym, ap, ◌∙◌, None, Some, arith}
use Rattle.std.specs.FinMap as map
use Rattle.tcl_names.specs.Placed.{number_of}
use Rattle.tcl_names.specs.Places.{names_in}
use Rattle.tcl_names.proofs.Held.{place_low, value_there, value_aside}
use Rattle.tcl_names.proofs.placed.PlacedNames.get_near.Goals as goal

pub index-requires : goal.index-requires
index-requires g c =
    let q = c.args.name.now in
    let ps = c.self.inside.places.items in
    let at : number_of (names_in ps) q ≡ Some c.in-Some.number = ap (λ ps. number_of (names_in ps) q) (sym c.deref.ensures.value) ∙ sym c.number_near.ensures ∙ c.in-Some.is in
    omega (arith, place_low ps q c.in-Some.number at, c.self.inside.places.ok.0)

pub returns-in-Some : goal.returns-in-Some
returns-in-Some g c =
    let q = c.args.name.now in
    let ps = c.self.inside.places.items in
    let at : number_of (names_in ps) q ≡ Some c.in-Some.number = ap (λ ps. number_of (names_in ps) q) (sym c.deref.ensures.value) ∙ sym c.number_near.ensures ∙ c.in-Some.is in
    c.as_ref.ensures.value ∙ value_there ps c.self.inside.others c.self.view_is q c.in-Some.number c.index.result.now at c.index.ensures

pub returns-in-None : goal.returns-in-None
returns-in-None g c =
    let q = c.args.name.now in
    let ps = c.self.inside.places.items in
    let at : number_of (names_in ps) q ≡ None = ap (λ ps. number_of (names_in ps) q) (sym c.deref.ensures.value) ∙ sym c.number_near.ensures ∙ c.in-None.is in
    c.get.ensures ∙ ap (map.get c.self.inside.others) c.as_str.ensures ∙ value_aside ps c.self.inside.others c.self.view_is q at
