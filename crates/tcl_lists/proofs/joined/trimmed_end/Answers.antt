use Rattle.std.proofs.Common.{rules, sym, eq-eqb, ne_eqb}
use Rattle.tcl_lists.proofs.Joining.{trim_begins, trim_goes_on, trim_escaped, trim_plain, trim_whole}
use Rattle.tcl_lists.proofs.joined.trimmed_end.Goals as goal

pub loop-front-init : goal.loop-front-init
loop-front-init c = record { end_text = search rules; longer_text = search rules; trimmed = trim_begins _ }

pub returns-then-last-eq92 : goal.returns-then-last-eq92
returns-then-last-eq92 c =
    trim_escaped _ _ _ _ _ c.in-Some.ensures.parts.in_chars (sym c.if-not-is_list_space.ensures) (eq-eqb c.in-Some.last 92 c.if-last-eq92.true) c.loop-front.invariant.trimmed

pub returns-else-last-eq92 : goal.returns-else-last-eq92
returns-else-last-eq92 c =
    trim_plain _ _ _ _ _ c.in-Some.ensures.parts.in_chars (sym c.if-not-is_list_space.ensures) (ne_eqb c.in-Some.last 92 c.if-last-eq92.false) c.loop-front.invariant.trimmed

pub loop-front-preserved : goal.loop-front-preserved
loop-front-preserved c = record {
  end_text = search rules;
  longer_text = search rules;
  trimmed = trim_goes_on _ _ _ _ _ c.in-Some.ensures.parts.in_chars (sym c.if-not-is_list_space.ensures) c.loop-front.invariant.trimmed;
}

pub returns : goal.returns
returns c = trim_whole _ _ _ c.in_default.ensures.parts c.loop-front.invariant.trimmed
