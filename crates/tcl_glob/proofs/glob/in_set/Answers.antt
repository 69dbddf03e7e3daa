use Rattle.std.proofs.Common.{length, ◌||◌, sym, ap, ◌∙◌, arith, rules}
use Rattle.std.proofs.lemmas.Bool.{ne_eqb}
use Rattle.std.specs.Str.{chars}
use Rattle.tcl_pages.specs.Glob.{in_set}
use Rattle.tcl_glob.proofs.Sets.{with_range, without_range, range_shorter}
use Rattle.tcl_glob.proofs.glob.in_set.Goals as goal

pub loop-first-smaller-in-Some-range_end : goal.loop-first-smaller-in-Some-range_end
loop-first-smaller-in-Some-range_end c =
    omega (arith, range_shorter (chars c.in-Some.behind.now) _ c.in-Some-range_end.ensures, ap length c.in-Some.ensures.parts.in_chars)

pub loop-first-preserved-in-Some-range_end : goal.loop-first-preserved-in-Some-range_end
loop-first-preserved-in-Some-range_end c = record {
  text = search rules;
  same =
      sym (ap (λ cs. in_set cs c.args.c) c.in-Some.ensures.parts.in_chars
      ∙ with_range c.in-Some.first c.args.c (chars c.in-Some.behind.now) _ (sym c.in-Some-range_end.ensures)
      ∙ ap (λ b. b || in_set (chars c.in-Some-range_end.after.now) c.args.c) (sym c.is_between.ensures ∙ c.if-is_between.false))
      ∙ c.loop-first.invariant.same;
}

pub loop-first-preserved : goal.loop-first-preserved
loop-first-preserved c = record {
  text = search rules;
  same =
      sym (ap (λ cs. in_set cs c.args.c) c.in-Some.ensures.parts.in_chars
      ∙ without_range c.in-Some.first c.args.c (chars c.in-Some.behind.now) (sym c.in-None.ensures)
      ∙ ap (λ b. b || in_set (chars c.in-Some.behind.now) c.args.c) (ne_eqb _ _ c.if-first-c.false))
      ∙ c.loop-first.invariant.same;
}
