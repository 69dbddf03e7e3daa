use denote.Text.{Utf8}
use denote.Shadow.{shadow}
use Rattle.std.specs.Str.{chars}
use Rattle.tcl_words.specs.Waiting.{Alike}
use Rattle.tcl_words.proofs.waiting.run.Given as goal

abbrev pub invariant-turns : goal.invariant-turns
invariant-turns l = record {
  text : shadow (Utf8 l.rest);
  alike : Alike l.fn.outer.items l.fn.at (chars l.fn.text) l.outer.items l.at (chars l.rest);
}
