use Rattle.std.proofs.Common.{sym, ◌∙◌, rules}
use Rattle.tcl_glob.specs.Glob as parts
use Rattle.tcl_glob.proofs.FirstFit.{taken_on, fails_here, fails_at_end, fails_behind, stops_at_end, stops_at_star}
use Rattle.tcl_glob.proofs.glob.fit.Goals as goal

pub loop-first-init : goal.loop-first-init
loop-first-init c = record { pattern_text = search rules; text = search rules; taken = parts.none _ _ }

pub returns-then-first-eq42 : goal.returns-then-first-eq42
returns-then-first-eq42 c = stops_at_star _ _ _ _ _ c.in-Some.first c.in-Some.ensures.parts.in_chars c.if-first-eq42.true c.loop-first.invariant.taken

pub returns-in_default-split_first : goal.returns-in_default-split_first
returns-in_default-split_first c = fails_at_end _ _ _ _ _ c.in-Some.first c.in-Some.ensures.parts.in_chars c.in_default-split_first.ensures.parts c.if-first-eq42.false c.loop-first.invariant.taken

pub returns-then-not-takes : goal.returns-then-not-takes
returns-then-not-takes c =
    fails_here _ _ _ _ _ _ _ _ _ _
    record { pattern = c.in-Some.ensures.parts.in_chars; text = c.in-Some-split_first.ensures.parts.in_chars; no_star = c.if-first-eq42.false; is_part = c.first_part.ensures }
    (sym c.takes.ensures ∙ c.if-not-takes.true) c.loop-first.invariant.taken

pub loop-first-preserved : goal.loop-first-preserved
loop-first-preserved c = record {
  pattern_text = search rules;
  text = search rules;
  taken =
      taken_on _ _ _ _ _ _ _ _ _ _
      record { pattern = c.in-Some.ensures.parts.in_chars; text = c.in-Some-split_first.ensures.parts.in_chars; no_star = c.if-first-eq42.false; is_part = c.first_part.ensures }
      (sym c.takes.ensures ∙ c.if-not-takes.false) c.loop-first.invariant.taken;
}

pub returns-in-None : goal.returns-in-None
returns-in-None c = stops_at_end _ _ _ _ c.in_default.ensures.parts c.in-None.ensures.parts c.loop-first.invariant.taken

pub returns-in-Some-split_first-2 : goal.returns-in-Some-split_first-2
returns-in-Some-split_first-2 c = fails_behind _ _ _ _ _ _ c.in_default.ensures.parts c.in-Some-split_first-2.ensures.parts.in_chars c.loop-first.invariant.taken
