use Rattle.std.specs.Str.{chars}
use Rattle.tcl_frames.specs.Levels.{level_of}
use Rattle.tcl_procs.proofs.LinkLemmas.{link_refused}
use Rattle.tcl_procs.proofs.links.link_name.Goals as goal

pub returns-in_ok-cant_link-in-Err-Refused : goal.returns-in_ok-cant_link-in-Err-Refused
returns-in_ok-cant_link-in-Err-Refused c =
    rw (c.in-Err-Refused.ensures.same, c.in_ok-cant_link-in-Err-Refused.ensures)
    (link_refused (chars c.args.word.now) (level_of c.args.level) (chars c.args.other.now) (chars c.args.local.now) c.args.frames.now c.in-Err-Refused.field-0 c.in-Err-Refused.refusal c.in-Err-Refused.field-0-is c.in-Err-Refused.ensures.refused)
