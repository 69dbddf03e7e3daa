use Rattle.std.proofs.Common.{sym, ◌∙◌, rules}
use Rattle.tcl_glob.proofs.FirstFit.{kept, star_goes_on, all_matched}
use Rattle.tcl_glob.proofs.glob.glob_match.Goals as goal

pub loop-behind-init : goal.loop-behind-init
loop-behind-init c = record {
  pattern_text = search rules;
  text = search rules;
  same = sym (kept _ _ _ _ c.in-Some.ensures.taken);
  at_end = c.in-Some.ensures.at_end;
}

pub returns-in_default-first_fit : goal.returns-in_default-first_fit
returns-in_default-first_fit c =
    sym (sym c.loop-behind.invariant.same ∙ star_goes_on _ _ _ _ c.in-Some-split_first.ensures.parts.in_chars c.loop-behind.invariant.at_end ∙ c.in_default-first_fit.ensures)

pub loop-behind-preserved : goal.loop-behind-preserved
loop-behind-preserved c = record {
  pattern_text = search rules;
  text = search rules;
  same = sym (sym c.loop-behind.invariant.same ∙ star_goes_on _ _ _ _ c.in-Some-split_first.ensures.parts.in_chars c.loop-behind.invariant.at_end ∙ c.in-Some-first_fit.ensures.same);
  at_end = c.in-Some-first_fit.ensures.at_end;
}

pub returns : goal.returns
returns c = sym (sym c.loop-behind.invariant.same ∙ all_matched _ _ c.in_default-split_first.ensures.parts c.loop-behind.invariant.at_end)
