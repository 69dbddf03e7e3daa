use Rattle.std.proofs.Common.{◌≡◌, refl, sym, ap, ◌∙◌, Some, true, false, arith, get_or, map as each}
use Rattle.std.proofs.lemmas.List.{map-id}
use Rattle.std.specs.Str.{chars}
use Rattle.tcl_chars.specs.Texts.{same_text}
use Rattle.tcl_names.specs.Placed.{number_of}
use Rattle.tcl_names.proofs.Numbers.{found_at, not_at, nowhere, from_start}
use Rattle.tcl_names.proofs.layout.Layout.number.Goals as goal

pub loop-known-init : goal.loop-known-init
loop-known-init c = (refl, from_start _)

pub returns-then-is_text : goal.returns-then-is_text
returns-then-is_text c =
    let ks = c.deref-known-items.result.now in
    let q = chars c.args.name.now in
    let here : same_text q (get_or ks c.loop-known.known-index c.known-item.result) ≡ true =
    ap (same_text q) (sym c.known-item.is) ∙ ap (same_text q) (sym c.as_str.ensures) ∙ sym c.is_text.ensures ∙ c.if-is_text.true in
    ap Some c.loop-known.invariant.0 ∙ sym (found_at (λ n. n) ks q _ _ c.loop-known-test.true here) ∙ c.loop-known.invariant.1
    ∙ ap (λ l. number_of (each (λ n. n) l) q) c.deref-known-items.ensures.value ∙ ap (λ l. number_of (each (λ n. n) l) q) c.self.view_is ∙ ap (λ l. number_of l q) (map-id c.args.self.now)

pub loop-known-preserved : goal.loop-known-preserved
loop-known-preserved c =
    let ks = c.deref-known-items.result.now in
    let q = chars c.args.name.now in
    let other : same_text q (get_or ks c.loop-known.known-index c.known-item.result) ≡ false =
    ap (same_text q) (sym c.known-item.is) ∙ ap (same_text q) (sym c.as_str.ensures) ∙ sym c.is_text.ensures ∙ c.if-is_text.false in
    (omega arith, sym (not_at (λ n. n) ks q _ _ c.loop-known-test.true other) ∙ c.loop-known.invariant.1)

pub returns : goal.returns
returns c =
    let ks = c.deref-known-items.result.now in
    let q = chars c.args.name.now in
    sym (nowhere (λ n. n) ks q _ c.loop-known-test.false) ∙ c.loop-known.invariant.1 ∙ ap (λ l. number_of (each (λ n. n) l) q) c.deref-known-items.ensures.value ∙ ap (λ l. number_of (each (λ n. n) l) q) c.self.view_is ∙ ap (λ l. number_of l q) (map-id c.args.self.now)
