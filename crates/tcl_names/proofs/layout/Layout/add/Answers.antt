use Rattle.std.proofs.Common.{ℕ, ◌≡◌, false, sym, ap, ◌∙◌, subst, Option, None, Some, refl, ◌++◌, ◌∷◌, []}
use Rattle.std.specs.Option.{is_some}
use Rattle.std.specs.Str.{chars}
use Rattle.tcl_names.specs.Named.{text_of}
use Rattle.tcl_names.specs.Placed.{IsApart, number_of}
use Rattle.tcl_names.proofs.Apart.{apart_more}
use Rattle.tcl_names.proofs.layout.Layout.add.Goals as goal

none_from : (o : Option ℕ) → is_some o ≡ false → o ≡ None
none_from None e = refl
none_from (Some k) e = absurd (cc)

pub invariant_of-self-2 : goal.invariant_of-self-2
invariant_of-self-2 c =
    let ns = c.self.inside.names.items in
    let q = text_of c.args.name.now in
    let none : number_of ns q ≡ None =
    ap (λ l. number_of l q) c.self.view_is ∙ ap (λ bs. number_of c.args.self.now (chars bs)) (sym c.as_str.ensures.value) ∙ sym c.number.ensures
    ∙ none_from _ (sym c.is_some.ensures ∙ c.if-is_some.false) in
    let more : c.push.new.self.items ≡ ns ++ q ∷ [] =
    c.in_ok-push.ensures.items ∙ ap (λ n. ns ++ n ∷ []) (c.new.ensures ∙ ap chars c.in_ok-clone.ensures.cases) in
    subst IsApart (sym more) (apart_more ns q c.self.invariant none)
