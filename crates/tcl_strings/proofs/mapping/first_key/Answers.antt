use Rattle.std.proofs.Common.{rules}
use Rattle.std.specs.Str.{chars}
use Rattle.tcl_strings.proofs.Pairs.{key_found, one_passed}
use Rattle.tcl_strings.proofs.mapping.first_key.Goals as goal

pub returns-in-Some-pair_in-clause-found : goal.returns-in-Some-pair_in-clause-found
returns-in-Some-pair_in-clause-found c =
    key_found c.args.groups.now (chars c.args.text.now) (chars c.loop-c.rest.now) (chars c.in-Some.after.now) _ _ _ c.in-Some.c c.in-Some.ensures.parts.in_chars c.in-Some-pair_in.ensures.shorter c.in-Some-pair_in.ensures.pair c.before-in-Some-pair_in.ensures
    c.loop-c.invariant.passed

pub loop-c-preserved : goal.loop-c-preserved
loop-c-preserved c = record {
  text = search rules;
  passed = one_passed c.args.groups.now (chars c.args.text.now) (chars c.loop-c.rest.now) (chars c.in-Some.after.now) c.in-Some.c c.in-Some.ensures.parts.in_chars c.in_default-pair_in.ensures.pair c.loop-c.invariant.passed;
}
