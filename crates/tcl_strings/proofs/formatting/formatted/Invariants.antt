use Rattle.std.proofs.Common.{◌≡◌, length, map}
use denote.Text.{Utf8}
use denote.Shadow.{shadow}
use Rattle.std.specs.Str.{chars}
use Rattle.std.specs.String.{string_bytes}
use Rattle.tcl_chars.specs.Texts.{text_of}
use Rattle.tcl_pages.specs.Formats.{with_shown, formatted, no_field}
use Rattle.tcl_pages.specs.declared.formats.FormatStage.TheVariants.{Plain}
use Rattle.tcl_strings.proofs.formatting.formatted.Given as goal

abbrev pub invariant-characters : goal.invariant-characters
invariant-characters l = record {
  text : shadow (Utf8 l.rest);
  same : with_shown (chars (string_bytes l.said)) (formatted l.dialect l.stage l.field (chars l.rest) (map text_of l.left)) ≡ formatted l.dialect Plain no_field (chars l.format) (map text_of l.args);
}

abbrev pub decreases-characters : goal.decreases-characters
decreases-characters l = length l.rest
