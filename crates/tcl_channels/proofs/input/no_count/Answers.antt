use Rattle.std.specs.Str.{chars}
use Rattle.tcl_channels.proofs.ReadLemmas.{no_count_is}
use Rattle.tcl_channels.proofs.input.no_count.Goals as goal

pub returns : goal.returns
returns c = no_count_is (chars c.args.text.now) _ c.in_ok-about.ensures
