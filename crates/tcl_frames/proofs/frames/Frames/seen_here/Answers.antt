use Rattle.std.proofs.Common.{◌≡◌, Ok, Err, sym, ap, subst, ◌∙◌}
use Rattle.std.specs.Option.{option_copied}
use Rattle.std.specs.Str.{chars}
use Rattle.tcl_meaning.specs.Variables.{get_part}
use Rattle.tcl_meaning.specs.declared.refusal.Refusal.TheVariants.{NoSuch}
use Rattle.tcl_frames.specs.Parts.{part_of}
use Rattle.tcl_frames.specs.Places.{spot, spot_of}
use Rattle.tcl_frames.specs.Written.{variable_in}
use Rattle.tcl_frames.specs.Seen.{seen_part}
use Rattle.tcl_frames.proofs.Joined.{here_joined}
use Rattle.tcl_frames.proofs.SeenLemmas.{seen_array, seen_text, seen_nothing}
use Rattle.tcl_frames.proofs.frames.Frames.seen_here.Goals as goal

pub returns-in-Some : goal.returns-in-Some
returns-in-Some c cs =
    seen_array _ _ c.in-Some.elements.now (sym c.array.ensures ∙ ap option_copied c.in-Some.is)
    ∙ sym (here_joined seen_part c.self.inside.stack c.self.inside.variables c.args.self.now c.self.view_is c.self.invariant cs (chars c.args.name.now) (spot_of c.place_here-at.result) c.place_here-at.ensures.leads)

pub returns-in-Ok : goal.returns-in-Ok
returns-in-Ok c cs =
    let at = c.place_here-at.result in
    let found = subst (λ n. get_part NoSuch (variable_in c.self.inside.variables (spot at.frame n (part_of at.part))) (part_of at.part) ≡ Ok c.in-Ok.value.now) c.unkeyed-name.ensures c.in-Ok.ensures.found in
    seen_text _ _ c.in-Ok.value.now (sym c.array.ensures ∙ ap option_copied c.in_default.is) found
    ∙ sym (here_joined seen_part c.self.inside.stack c.self.inside.variables c.args.self.now c.self.view_is c.self.invariant cs (chars c.args.name.now) (spot_of c.place_here-at.result) c.place_here-at.ensures.leads)

pub returns-in-Err : goal.returns-in-Err
returns-in-Err c cs =
    let at = c.place_here-at.result in
    let refused = subst (λ n. get_part NoSuch (variable_in c.self.inside.variables (spot at.frame n (part_of at.part))) (part_of at.part) ≡ Err c.in-Err.field-0) c.unkeyed-name.ensures c.in-Err.ensures.refused in
    seen_nothing _ _ c.in-Err.field-0 (sym c.array.ensures ∙ ap option_copied c.in_default.is) refused
    ∙ sym (here_joined seen_part c.self.inside.stack c.self.inside.variables c.args.self.now c.self.view_is c.self.invariant cs (chars c.args.name.now) (spot_of c.place_here-at.result) c.place_here-at.ensures.leads)
