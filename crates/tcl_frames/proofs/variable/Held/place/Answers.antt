use Rattle.std.proofs.Common.{◌≡◌, None, sym, ap, ◌∙◌, inr, refl}
use Rattle.std.specs.Box.{with_value}
use Rattle.std.specs.FinMap as map
use Rattle.std.specs.Option.{option_copied_mut}
use Rattle.std.specs.Str.{chars}
use Rattle.tcl_frames.specs.declared.variable.Held.TheVariants as held
use Rattle.tcl_frames.proofs.variable.Held.place.Goals as goal

pub returns-in-None : goal.returns-in-None
returns-in-None c =
    let box = c.in-Array.elements in
    let lent = rw c.in-Array.is at c.deref_mut.ensures.value in
    let none : map.get box.value (chars c.in-Element.index.now) ≡ None = ap (λ m. map.get m (chars c.in-Element.index.now)) (sym lent) ∙ sym c.get_mut.ensures.value ∙ ap option_copied_mut c.in-None.is in
    (rw c.in-Array.is (ap (λ m. inr (held.Array (with_value box m))) lent), record { writes_back = tt; found = tt; refused = rw (c.in-Array.is, c.in-Element.is, none) refl })
