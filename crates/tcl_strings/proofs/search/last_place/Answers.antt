use Rattle.std.proofs.Common.{◌≡◌, ◌<◌, ◌-◌, length, Some, None, sym, ◌∙◌, ap, arith, length-take-le}
use Rattle.std.specs.Prelude.{pos, ◌+ℤ◌}
use Rattle.std.specs.Str.{chars}
use Rattle.std.specs.Int.{w128}
use Rattle.std.proofs.lemmas.Int.{to_z-of_z}
use Rattle.tcl_chars.specs.Index.{clamp}
use Rattle.tcl_pages.specs.Strings.{last_until, found_at}
use Rattle.tcl_strings.proofs.Backwards.{from_end, found_here}
use Rattle.tcl_strings.proofs.Bytes.{clamped_le}
use Rattle.tcl_strings.proofs.search.last_place.Goals as goal

pub loop-front-init : goal.loop-front-init
loop-front-init c =
    let t = c.args.places.now in
    let needle = chars c.args.needle.now in
    let end = to_z-of_z w128 c.args.end c.ranges.end in
    let place : c.behind-place.result ≡ clamp (c.args.end +ℤ pos 1) (length t) = c.behind-place.ensures ∙ ap (λ z. clamp (z +ℤ pos 1) c.len.result) end ∙ ap (clamp (c.args.end +ℤ pos 1)) c.len.ensures in
    let some : 0 < length needle = omega (arith, ap length c.in_ok-split_first.ensures.parts.in_chars) in
    let le = clamped_le (c.args.end +ℤ pos 1) (length t) in
    record {
      text = c.front-rest.utf8;
      place = sym (ap length c.front-rest.ensures ∙ length-take-le c.behind-place.result t (omega arith));
      same = from_end needle t (chars c.front-rest.result.now) c.args.end c.behind-place.result some place c.front-rest.ensures
          ∙ ap (λ z. last_until (length needle) z None (found_at needle t)) (sym end);
    }

pub returns-then-ends_with : goal.returns-then-ends_with
returns-then-ends_with c =
    let t = chars c.loop-front.rest.now in
    let needle = chars c.args.needle.now in
    let end = to_z-of_z w128 c.args.end c.ranges.end in
    let size : c.loop-front.place - c.count-size.result ≡ length t - length needle = omega (arith, c.loop-front.invariant.place, c.count-size.ensures) in
    ap (λ n. Some n) size ∙ sym (found_here needle t _ _ c.in-Some.ensures.parts.in_chars (sym c.if-ends_with.ensures)) ∙ c.loop-front.invariant.same
    ∙ ap (λ z. last_until (length needle) z None (found_at needle c.args.places.now)) end
