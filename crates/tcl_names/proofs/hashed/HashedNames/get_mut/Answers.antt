use Rattle.std.proofs.Common.{refl, sym, ◌∙◌, ◌≡◌, ap, inr, Some, IsSome}
use Rattle.std.specs.FinMap as map
use Rattle.std.specs.Str.{chars}
use Rattle.std.specs.HashMap.{get_by}
use Rattle.std.specs.Option.{ghost_name_of, option_copied_mut}
use Rattle.tcl_names.specs.Named.{hashed}
use Rattle.tcl_names.proofs.Entries.{insert_same, same_value}
use Rattle.tcl_names.proofs.ByHash.{get-hashed, lent_hashed, is_text}
use Rattle.tcl_names.proofs.hashed.HashedNames.get_mut.Goals as goal
use borrow.Follows.Closed.{read_of}

pub returns-in-Some : goal.returns-in-Some
returns-in-Some g c =
    let m = c.self.inside.map in
    let bs = c.args.name.now in
    let at : get_by (is_text bs) m ≡ Some c.in-Some.value.now = sym c.get_mut.ensures.value ∙ ap option_copied_mut c.in-Some.is in
    let some : IsSome (get_by (is_text bs) m) = rw at refl in
    let got : map.get c.args.self.now (chars bs) ≡ Some c.in-Some.value.now =
    ap (λ k. map.get k (chars bs)) (sym c.self.view_is) ∙ get-hashed (λ v. v) m bs c.utf8.name ∙ same_value _ ∙ at in
    let written = λ (w : g.row.V.Denot). lent_hashed (λ v. v) bs c.utf8.name m (c.get_mut.follows.lender w) w some (c.get_mut.follows.holds w) ∙ ap (λ k. map.insert k (chars bs) w) c.self.view_is in
    let same = written c.in-Some.value.now ∙ insert_same _ _ _ got in
    (λ i. read_of (ghost_name_of (Some c.in-Some.value)) (λ w. written w i) (same i), sym got)

pub returns-in-None : goal.returns-in-None
returns-in-None g c =
    let m = c.self.inside.map in
    let bs = c.args.name.now in (
      ap inr (ap (λ n. hashed (λ v. v) n) c.get_mut.follows.holds-at-none ∙ c.self.view_is),
      sym (ap (λ k. map.get k (chars bs)) (sym c.self.view_is) ∙ get-hashed (λ v. v) m bs c.utf8.name ∙ same_value _ ∙ sym c.get_mut.ensures.value ∙ ap option_copied_mut c.in-None.is),
    )
