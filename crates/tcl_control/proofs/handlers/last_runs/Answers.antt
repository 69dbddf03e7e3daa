use Rattle.std.proofs.Common.{ap, ◌∙◌, sym}
use Rattle.std.specs.Prelude.{not}
use Rattle.tcl_control.proofs.HandlerLemmas.{last_at}
use Rattle.tcl_control.proofs.handlers.last_runs.Goals as goal

pub returns-in_ok-is_word-in-len1-up : goal.returns-in_ok-is_word-in-len1-up
returns-in_ok-is_word-in-len1-up c =
    ap not c.in_ok-is_word-in-len1-up.ensures ∙ sym (last_at c.args.handlers.now c.last-item.result c.in-len1-up.len_at_least c.last-item.is)
