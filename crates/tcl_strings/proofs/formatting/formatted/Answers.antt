use Rattle.std.proofs.Common.{map, rules}
use Rattle.std.proofs.lemmas.Result.{err_from_is_err_and}
use Rattle.std.specs.Str.{chars}
use Rattle.std.specs.String.{string_bytes}
use Rattle.tcl_chars.specs.Texts.{text_of}
use Rattle.tcl_pages.specs.Formats.{formatted, no_field}
use Rattle.tcl_pages.specs.declared.formats.FormatStage.TheVariants.{Plain}
use Rattle.tcl_strings.proofs.Showing.{goes_on, stops_at}
use Rattle.tcl_strings.proofs.formatting.formatted.Goals as goal

pub returns-in_err-left : goal.returns-in_err-left
returns-in_err-left c =
    let p = err_from_is_err_and c.from_residual-in_err-left.result c.from_residual-in_err-left.ensures.1 in
    rw (p.1, p.2)
    (stops_at c.args.dialect c.characters.stage c.characters.field c.next_of-step.result (chars c.characters.rest.now) (chars c.in-Some.after.now) (chars (string_bytes c.characters.said)) (map text_of c.characters.left.now) c.in-Some.c
    (formatted c.args.dialect Plain no_field (chars c.args.format.now) (map text_of c.args.args.now)) c.in_err-left.field-0.0 c.in-Some.ensures.parts.in_chars c.next_of-step.ensures c.in_err-left.ensures c.characters.invariant.same)

pub characters-preserved : goal.characters-preserved
characters-preserved c = record {
  text = search rules;
  same =
      goes_on c.args.dialect c.characters.stage c.characters.field c.next_of-step.result (chars c.characters.rest.now) (chars c.in-Some.after.now) (chars (string_bytes c.characters.said)) (chars (string_bytes c.push_part.new.said)) (map text_of c.characters.left.now)
      (map text_of c.in_ok-left.left.now) c.in-Some.c (formatted c.args.dialect Plain no_field (chars c.args.format.now) (map text_of c.args.args.now)) c.in-Some.ensures.parts.in_chars c.next_of-step.ensures c.in_ok-left.ensures c.characters.invariant.same;
}
