use Rattle.std.proofs.Common.{sym, ◌∙◌, subst, rules}
use Rattle.std.specs.Str.{chars}
use Rattle.tcl_chars.specs.Place.{EndsWith}
use Rattle.tcl_pages.specs.Strings.{is_among, parts_between}
use Rattle.tcl_glob.proofs.SeekLemmas.{ends_there}
use Rattle.tcl_strings.proofs.Parts.{behind_shorter, next_part, last_part}
use Rattle.tcl_strings.proofs.lists.parts_between.Goals as goal

pub before-requires : goal.before-requires
before-requires c = subst (EndsWith (chars c.parts.rest.now)) (sym c.to_separator-end.ensures) (ends_there (is_among (chars c.args.set.now)) (chars c.parts.rest.now))

pub parts-smaller : goal.parts-smaller
parts-smaller c = behind_shorter (is_among (chars c.args.set.now)) (chars c.parts.rest.now) (chars c.to_separator-end.result.now) _ c.in-Some.field-0-0 c.to_separator-end.ensures c.in-Some.ensures.parts.in_chars

pub parts-preserved : goal.parts-preserved
parts-preserved c = record {
  text = search rules;
  same =
      next_part (is_among (chars c.args.set.now)) (chars c.parts.rest.now) (chars c.to_separator-end.result.now) _ c.in_ok-value_of.field-0 c.parts.parts.items c.push.new.self.items (parts_between (is_among (chars c.args.set.now)) (chars c.args.text.now)) c.in-Some.field-0-0
      c.to_separator-end.ensures c.in-Some.ensures.parts.in_chars (c.in_ok-value_of.ensures ∙ c.before-in-parts.ensures) c.in_ok-push.ensures.items c.parts.invariant.same;
}

pub returns-in-None : goal.returns-in-None
returns-in-None c =
    last_part (is_among (chars c.args.set.now)) (chars c.parts.rest.now) (chars c.to_separator-end.result.now) c.in_ok-value_of.field-0 c.parts.parts.items c.push.new.self.items (parts_between (is_among (chars c.args.set.now)) (chars c.args.text.now))
    c.to_separator-end.ensures c.in-None.ensures.parts (c.in_ok-value_of.ensures ∙ c.before-in-parts.ensures) c.in_ok-push.ensures.items c.parts.invariant.same
