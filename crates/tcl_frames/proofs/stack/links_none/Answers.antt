use Rattle.std.proofs.Common.{sym, ap, ◌∙◌, arith}
use Rattle.std.specs.FinMap as map
use Rattle.std.specs.FinMap.{get-empty}
use Rattle.tcl_chars.specs.Texts.{by_code_point}
use Rattle.tcl_meaning.specs.Frames.{Frame}
use Rattle.tcl_frames.proofs.Chains.{link_at-get, link_at-past}
use Rattle.tcl_frames.proofs.stack.links_none.Goals as goal

pub returns-then-frame-calls : goal.returns-then-frame-calls
returns-then-frame-calls c none name =
    link_at-get name c.args.calls.now c.args.frame c.index-calls-frame.result (omega arith)
    ∙ ap (λ (f : Frame). map.get f.links name) (sym c.index-calls-frame.is) ∙ ap (λ l. map.get l name) (c.has_no_link.ensures none) ∙ get-empty by_code_point name

pub returns-else-frame-calls : goal.returns-else-frame-calls
returns-else-frame-calls c none name = link_at-past name c.args.calls.now c.args.frame (omega arith)
