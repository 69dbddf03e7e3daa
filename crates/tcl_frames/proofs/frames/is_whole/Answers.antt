use Rattle.std.proofs.Common.{◌≡◌, subst}
use Rattle.tcl_meaning.specs.Names.{divided_name}
use Rattle.tcl_frames.specs.Parts.{plain_name}
use Rattle.tcl_frames.proofs.NamesLemmas.{keyed_is}
use Rattle.tcl_frames.proofs.frames.is_whole.Goals as goal

pub returns-then-is_keyed : goal.returns-then-is_keyed
returns-then-is_keyed c _ = keyed_is c.args.name.now (c.is_keyed.ensures c.if-is_keyed.true)

pub returns : goal.returns
returns c plain = subst (λ t. divided_name t ≡ plain_name t) c.as_str.ensures (c.is_plain.ensures plain)
