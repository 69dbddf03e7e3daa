use Rattle.std.proofs.Common.{List, ℕ, ◌≡◌, Ok, IfOk, IfErr, refl, sym, ap, subst, ◌∙◌}
use mathlib.Core.Logic.{inl}
use Rattle.std.specs.FinMap as map
use Rattle.tcl_meaning.specs.Frames.{whole}
use Rattle.tcl_meaning.specs.Names.{divided_name}
use Rattle.tcl_meaning.specs.State.{Commands}
use Rattle.tcl_meaning.specs.Variables.{get, missing, spot_of as place_named}
use Rattle.tcl_frames.specs.Places.{spot}
use Rattle.std.specs.Borrow.{name_if_ok}
use Rattle.tcl_frames.specs.Refusals.{Refuses}
use Rattle.tcl_frames.specs.Standing.{store_of, with_put}
use Rattle.tcl_frames.proofs.Joined.{get_place, put_place}
use Rattle.tcl_meaning.specs.declared.refusal.Refusal.TheVariants.{NoSuch}
use Rattle.tcl_frames.proofs.frames.Frames.place_near.Goals as goal
use borrow.Follows.Closed.{read_of}

pub returns-in-Ok : goal.returns-in-Ok
returns-in-Ok c =
    let now = c.args.self.now in
    let name = c.args.name.now in
    let p = spot c.in-Some.frame name whole in
    let miss = sym (ap missing c.in-Some.ensures.whole) in
    let leads : (cs : Commands) → p ≡ place_named (store_of cs now) (divided_name name) = c.in-Some.ensures.leads in
    let after = λ (w : List ℕ). put_place now name p w (leads map.empty) in
    (λ i. inl (c.in-Ok.value.ghost_name, λ w. after w i), record { writes_back = tt; found = λ cs. get_place (store_of cs now) name p NoSuch (leads cs) miss ∙ c.in-Ok.ensures.found cs; refused = λ cs. tt })

pub returns-in-Err : goal.returns-in-Err
returns-in-Err c =
    let now = c.args.self.now in
    let name = c.args.name.now in
    let p = spot c.in-Some.frame name whole in
    let miss = sym (ap missing c.in-Some.ensures.whole) in
    (refl, record { writes_back = tt; found = λ cs. tt; refused = λ cs. get_place (store_of cs now) name p NoSuch (c.in-Some.ensures.leads cs) miss ∙ c.in-Err.ensures.refused cs })

pub returns-in-None : goal.returns-in-None
returns-in-None c =
    let now = c.args.self.now in
    let same = c.as_str.ensures in
    let after = λ (w : List ℕ). ap (λ t. with_put now t w) same in (
      λ i. read_of (name_if_ok (λ x. x.ghost_name) c.place_afar.result) (λ w. after w i) now,
      record {
        writes_back = tt;
        found = λ cs. subst (λ t. IfOk c.place_afar.result (λ value. get (store_of cs now) t ≡ Ok value.now)) same (c.place_afar.ensures.found cs);
        refused = λ cs. subst (λ t. IfErr c.place_afar.result (Refuses (get (store_of cs now) t))) same (c.place_afar.ensures.refused cs);
      },
    )
