use Rattle.std.proofs.Common.{◌≡◌, sym, ap, ◌∙◌, true}
use Rattle.tcl_chars.specs.Texts.{same_text}
use Rattle.tcl_names.specs.declared.placed.Place.{Place}
use Rattle.tcl_names.specs.Placed.{number_of}
use Rattle.tcl_names.specs.Places.{names_in}
use Rattle.tcl_names.proofs.Apart.{alike}
use Rattle.tcl_names.proofs.Held.{place_of}
use Rattle.tcl_names.proofs.placed.number_near.Goals as goal

pub returns-then-is_surely : goal.returns-then-is_surely
returns-then-is_surely g c =
    let q = c.args.name.now in
    let same : same_text q c.index-places-guess.result.name ≡ true =
    ap (λ (p : Place g.row.V.Denot). same_text q p.name) c.index-places-guess.is ∙ ap (same_text q) (sym (c.is_surely.ensures c.if-is_surely.true)) ∙ alike q in
    sym (place_of c.args.places.now q c.get-guess.result c.index-places-guess.result c.requires c.if-guess-places.true c.index-places-guess.is same)

pub returns : goal.returns
returns g c = c.number_afar.ensures ∙ ap (number_of (names_in c.args.places.now)) c.as_str.ensures
