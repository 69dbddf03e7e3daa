use Rattle.std.proofs.Common.{sym}
use Rattle.std.specs.Str.{chars}
use Rattle.tcl_lists.proofs.OptionLemmas.{no_search_option}
use Rattle.tcl_lists.proofs.search.with_option.Goals as goal

pub returns-in_ok-about : goal.returns-in_ok-about
returns-in_ok-about c =
    no_search_option c.args.options (chars c.args.text.now) _ (sym c.if-is_text.ensures) (sym c.if-is_text-2.ensures) (sym c.if-is_text-3.ensures) (sym c.if-is_text-4.ensures) (sym c.if-is_text-5.ensures) c.in_ok-about.ensures
