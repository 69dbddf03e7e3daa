use Rattle.tcl_channels.proofs.WordLemmas.{line_is}
use Rattle.tcl_channels.proofs.output.line_of.Goals as goal

pub returns : goal.returns
returns c = line_is _ _ _ c.args.text.now c.in_ok-line.ensures.bytes c.in_ok-push_text.ensures.ok c.in_ok-push.ensures.ok
