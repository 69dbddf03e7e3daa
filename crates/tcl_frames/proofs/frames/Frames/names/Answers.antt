use Rattle.std.proofs.Common.{ap, ◌∙◌}
use Rattle.tcl_meaning.specs.Frames.{frame_at}
use Rattle.tcl_meaning.specs.SeenPages.{names_of}
use Rattle.tcl_frames.specs.NameSets.{with_names}
use Rattle.tcl_frames.specs.Written.{variables_of}
use Rattle.tcl_frames.proofs.Joined.{names_joined}
use Rattle.tcl_frames.proofs.frames.Frames.names.Goals as goal

pub returns : goal.returns
returns c cs =
    let vs = c.self.inside.variables in
    c.in_ok-add_names.ensures
    ∙ ap (λ i. with_names c.add_links.new.names (names_of (variables_of vs i))) c.active.ensures.active
    ∙ ap (λ m. with_names m (names_of (variables_of vs c.self.inside.stack.active))) (c.in_ok-add_links.ensures ∙ ap (λ m. with_names m (names_of (frame_at c.self.inside.stack.frames c.self.inside.stack.active).links)) c.new-names.ensures)
    ∙ names_joined c.self.inside.stack vs c.args.self.now c.self.view_is c.self.invariant cs
