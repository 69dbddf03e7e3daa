use Rattle.std.proofs.Common.{◌≡◌, sym, ap, ◌∙◌, None, Some, arith}
use Rattle.std.specs.FinMap as map
use Rattle.std.specs.Str.{chars}
use Rattle.tcl_names.specs.Placed.{number_of}
use Rattle.tcl_names.specs.Places.{names_in}
use Rattle.tcl_names.specs.Placed.{placed}
use Rattle.tcl_names.specs.Places.{values_in}
use Rattle.std.proofs.lemmas.List.{set-get_or}
use Rattle.std.proofs.Math.ListN.{set}
use Rattle.tcl_names.proofs.Held.{apart_stays, place_low, value_there, value_aside, whole_set, whole_aside}
use Rattle.tcl_names.proofs.Places.{lent_alike}
use Rattle.tcl_names.proofs.placed.PlacedNames.get_mut_near.Goals as goal

pub index_mut-requires : goal.index_mut-requires
index_mut-requires g c =
    let q = c.args.name.now in
    let ps = c.self.inside.places.items in
    let at : number_of (names_in ps) q ≡ Some c.in-Some.number = ap (λ ps. number_of (names_in ps) q) (sym c.deref.ensures.value) ∙ sym c.number_near.ensures ∙ c.in-Some.is in
    omega (arith, place_low ps q c.in-Some.number at, c.self.inside.places.ok.0)

pub invariant_of-self-lent : goal.invariant_of-self-lent
invariant_of-self-lent g c r =
    let stays = apart_stays c.self.inside.places.items c.in-Some.number c.index_mut.result.now c.index_mut.ensures.value in
    ((λ w. stays (Some w) c.self.invariant), stays None c.self.invariant)

pub returns-in-Some : goal.returns-in-Some
returns-in-Some g c =
    let q = c.args.name.now in
    let ps = c.self.inside.places.items in
    let at : number_of (names_in ps) q ≡ Some c.in-Some.number = ap (λ ps. number_of (names_in ps) q) (sym c.deref.ensures.value) ∙ sym c.number_near.ensures ∙ c.in-Some.is in
    let m = c.self.inside.others in
    let k = c.in-Some.number in
    let here = c.index_mut.ensures.value in (
      lent_alike c.value_mut.result _ _ _ _ (λ w. whole_set ps k c.index_mut.result.now here (Some w) m q at c.self.view_is)
          (λ none. ap (λ o. placed (names_in (set ps k (record { name = c.index_mut.result.now.name; value = o }))) (values_in (set ps k (record { name = c.index_mut.result.now.name; value = o }))) m) (sym none ∙ c.value_mut.ensures.value)
          ∙ ap (λ l. placed (names_in l) (values_in l) m) (ap (set ps k) here ∙ set-get_or ps k c.index_mut.result.now) ∙ c.self.view_is),
      record { writes_back = tt; value = c.value_mut.ensures.value ∙ value_there ps m c.self.view_is q k c.index_mut.result.now at here },
    )

pub returns-in-None : goal.returns-in-None
returns-in-None g c =
    let t = chars c.as_str.result.now in
    let same = c.as_str.ensures in
    let ps = c.self.inside.places.items in
    let at : number_of (names_in ps) t ≡ None = ap (number_of (names_in ps)) same ∙ ap (λ ps. number_of (names_in ps) c.args.name.now) (sym c.deref.ensures.value) ∙ sym c.number_near.ensures ∙ c.in-None.is in
    let m = c.self.inside.others in (
      lent_alike c.get_mut.result _ _ _ _ (λ w. whole_aside ps m c.self.view_is t (Some w) at ∙ ap (λ t. map.insert c.args.self.now t w) same) (λ none. c.self.view_is),
      record { writes_back = tt; value = c.get_mut.ensures.value ∙ value_aside ps m c.self.view_is t at ∙ ap (map.get c.args.self.now) same },
    )
