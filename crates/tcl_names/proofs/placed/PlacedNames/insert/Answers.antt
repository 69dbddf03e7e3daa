use Rattle.std.proofs.Common.{◌≡◌, sym, ap, ◌∙◌, None, Some, arith}
use Rattle.std.specs.Str.{chars}
use Rattle.tcl_names.specs.Placed.{number_of}
use Rattle.tcl_names.specs.Places.{names_in}
use Rattle.tcl_names.specs.Placed.{IsApart}
use Rattle.std.proofs.Common.{subst}
use Rattle.tcl_names.specs.Placed.{placed}
use Rattle.tcl_names.specs.Places.{values_in}
use Rattle.tcl_names.proofs.Held.{as_many, apart_pushed, apart_stays, place_low, whole_more, whole_set}
use Rattle.tcl_names.proofs.Places.{put_aside}
use Rattle.tcl_names.proofs.placed.PlacedNames.insert.Goals as goal

pub index_mut-requires : goal.index_mut-requires
index_mut-requires g c =
    let q = chars c.args.name.now in
    let ps = c.self.inside.places.items in
    let at : number_of (names_in ps) q ≡ Some c.in-Some.number = ap (λ ps. number_of (names_in ps) q) (sym c.deref.ensures.value) ∙ sym c.number.ensures ∙ c.in-Some.is in
    omega (arith, place_low ps q c.in-Some.number at, c.self.inside.places.ok.0)

pub invariant_of-self : goal.invariant_of-self
invariant_of-self g c = apart_stays c.self.inside.places.items c.in-Some.number c.index_mut.result.now c.index_mut.ensures.value (Some c.args.value) c.self.invariant

pub returns-in-Some-clause-put : goal.returns-in-Some-clause-put
returns-in-Some-clause-put g c =
    let q = chars c.args.name.now in
    let ps = c.self.inside.places.items in
    let at : number_of (names_in ps) q ≡ Some c.in-Some.number = ap (λ ps. number_of (names_in ps) q) (sym c.deref.ensures.value) ∙ sym c.number.ensures ∙ c.in-Some.is in
    whole_set ps c.in-Some.number c.index_mut.result.now c.index_mut.ensures.value (Some c.args.value) c.self.inside.others q at c.self.view_is

pub returns-then-len-ge-MOST_PLACES-clause-put : goal.returns-then-len-ge-MOST_PLACES-clause-put
returns-then-len-ge-MOST_PLACES-clause-put g c =
    let q = chars c.args.name.now in
    let ps = c.self.inside.places.items in
    let at : number_of (names_in ps) q ≡ None = ap (λ ps. number_of (names_in ps) q) (sym c.deref.ensures.value) ∙ sym c.number.ensures ∙ c.in_default.is in
    put_aside c.insert.result _ _ q c.args.value (names_in ps) (values_in ps) (as_many ps) at c.insert.ensures.put c.self.view_is

pub invariant_of-self-in_err-push : goal.invariant_of-self-in_err-push
invariant_of-self-in_err-push g c = subst (λ ps. IsApart (names_in ps)) (sym c.in_err-push.ensures.items) c.self.invariant

pub invariant_of-self-2 : goal.invariant_of-self-2
invariant_of-self-2 g c =
    let q = chars c.args.name.now in
    let ps = c.self.inside.places.items in
    let at : number_of (names_in ps) q ≡ None = ap (λ ps. number_of (names_in ps) q) (sym c.deref.ensures.value) ∙ sym c.number.ensures ∙ c.in_default.is in
    subst (λ ps. IsApart (names_in ps)) (sym c.in_ok-push.ensures.items) (apart_pushed ps c.new-name.result q (c.new-name.ensures ∙ ap chars c.in_ok-from_str.ensures.ok) at (Some c.args.value) c.self.invariant)

pub returns-clause-put : goal.returns-clause-put
returns-clause-put g c =
    let q = chars c.args.name.now in
    let ps = c.self.inside.places.items in
    let at : number_of (names_in ps) q ≡ None = ap (λ ps. number_of (names_in ps) q) (sym c.deref.ensures.value) ∙ sym c.number.ensures ∙ c.in_default.is in
    ap (λ ps. placed (names_in ps) (values_in ps) c.self.inside.others) c.in_ok-push.ensures.items
    ∙ whole_more ps c.self.inside.others c.self.view_is q c.new-name.result c.args.value (c.new-name.ensures ∙ ap chars c.in_ok-from_str.ensures.ok) at
