use Rattle.std.proofs.Common.{◌≡◌, sym, ap, ◌∙◌, true}
use Rattle.std.specs.Str.{chars}
use Rattle.tcl_chars.specs.Texts.{same_text}
use Rattle.tcl_names.specs.declared.placed.Place.{Place}
use Rattle.tcl_names.proofs.Held.{place_of}
use Rattle.tcl_names.proofs.placed.number_afar.Goals as goal

pub returns-then-is_name : goal.returns-then-is_name
returns-then-is_name g c =
    let q = chars c.args.name.now in
    let alike : same_text q c.index-places-guess.result.name ≡ true =
    ap (λ (p : Place g.row.V.Denot). same_text q p.name) c.index-places-guess.is ∙ ap (same_text q) (sym c.as_str.ensures) ∙ sym c.is_name.ensures ∙ c.if-is_name.true in
    sym (place_of c.args.places.now q c.get-guess.result c.index-places-guess.result c.requires c.if-guess-places.true c.index-places-guess.is alike)
