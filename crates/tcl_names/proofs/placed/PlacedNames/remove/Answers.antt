use Rattle.std.proofs.Common.{◌≡◌, sym, ap, ◌∙◌, None, Some, arith}
use Rattle.std.specs.Str.{chars}
use Rattle.tcl_names.specs.Placed.{number_of}
use Rattle.tcl_names.specs.Places.{names_in}
use Rattle.tcl_names.specs.Placed.{placed}
use Rattle.tcl_names.specs.Places.{values_in}
use Rattle.std.proofs.Math.ListN.{set}
use Rattle.tcl_names.proofs.Held.{apart_stays, place_low, value_there, value_aside, whole_set, whole_aside}
use Rattle.tcl_names.proofs.placed.PlacedNames.remove.Goals as goal

pub index_mut-requires : goal.index_mut-requires
index_mut-requires g c =
    let q = chars c.args.name.now in
    let ps = c.self.inside.places.items in
    let at : number_of (names_in ps) q ≡ Some c.in-Some.number = ap (λ ps. number_of (names_in ps) q) (sym c.deref.ensures.value) ∙ sym c.number.ensures ∙ c.in-Some.is in
    omega (arith, place_low ps q c.in-Some.number at, c.self.inside.places.ok.0)

pub invariant_of-self : goal.invariant_of-self
invariant_of-self g c = apart_stays c.self.inside.places.items c.in-Some.number c.index_mut.result.now c.index_mut.ensures.value c.take.new.self c.self.invariant

pub returns-in-Some-clause-removed : goal.returns-in-Some-clause-removed
returns-in-Some-clause-removed g c =
    let q = chars c.args.name.now in
    let ps = c.self.inside.places.items in
    let at : number_of (names_in ps) q ≡ Some c.in-Some.number = ap (λ ps. number_of (names_in ps) q) (sym c.deref.ensures.value) ∙ sym c.number.ensures ∙ c.in-Some.is in
    let m = c.self.inside.others in
    let k = c.in-Some.number in
    let p = c.index_mut.result.now in
    ap (λ o. placed (names_in (set ps k (record { name = p.name; value = o }))) (values_in (set ps k (record { name = p.name; value = o }))) m) c.take.ensures.after
    ∙ whole_set ps k p c.index_mut.ensures.value None m q at c.self.view_is

pub returns-in-Some-clause-value : goal.returns-in-Some-clause-value
returns-in-Some-clause-value g c =
    let q = chars c.args.name.now in
    let ps = c.self.inside.places.items in
    let at : number_of (names_in ps) q ≡ Some c.in-Some.number = ap (λ ps. number_of (names_in ps) q) (sym c.deref.ensures.value) ∙ sym c.number.ensures ∙ c.in-Some.is in
    c.take.ensures.value ∙ value_there ps c.self.inside.others c.self.view_is q c.in-Some.number c.index_mut.result.now at c.index_mut.ensures.value

pub returns-in-None-clause-removed : goal.returns-in-None-clause-removed
returns-in-None-clause-removed g c =
    let q = chars c.args.name.now in
    let ps = c.self.inside.places.items in
    let at : number_of (names_in ps) q ≡ None = ap (λ ps. number_of (names_in ps) q) (sym c.deref.ensures.value) ∙ sym c.number.ensures ∙ c.in-None.is in
    ap (placed (names_in ps) (values_in ps)) c.remove.ensures.removed ∙ whole_aside ps c.self.inside.others c.self.view_is q None at

pub returns-in-None-clause-value : goal.returns-in-None-clause-value
returns-in-None-clause-value g c =
    let q = chars c.args.name.now in
    let ps = c.self.inside.places.items in
    let at : number_of (names_in ps) q ≡ None = ap (λ ps. number_of (names_in ps) q) (sym c.deref.ensures.value) ∙ sym c.number.ensures ∙ c.in-None.is in
    c.remove.ensures.value ∙ value_aside ps c.self.inside.others c.self.view_is q at
