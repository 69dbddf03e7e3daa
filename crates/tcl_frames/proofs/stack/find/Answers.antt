use Rattle.std.proofs.Common.{sym, ap, ◌∙◌, arith}
use Rattle.std.specs.FinMap as map
use Rattle.std.specs.Str.{chars}
use Rattle.tcl_meaning.specs.Frames.{Frame}
use Rattle.tcl_frames.proofs.Chains.{link_at-get, link_at-past}
use Rattle.tcl_frames.proofs.stack.find.Goals as goal

pub returns-then-frame-calls : goal.returns-then-frame-calls
returns-then-frame-calls c =
    c.link.ensures ∙ ap (λ (f : Frame). map.get f.links (chars c.args.name.now)) c.index-calls-frame.is
    ∙ sym (link_at-get (chars c.args.name.now) c.args.calls.now c.args.frame c.index-calls-frame.result (omega arith))

pub returns-else-frame-calls : goal.returns-else-frame-calls
returns-else-frame-calls c = sym (link_at-past (chars c.args.name.now) c.args.calls.now c.args.frame (omega arith))
