use Rattle.std.proofs.Common.{sym, ap, ◌∙◌}
use Rattle.tcl_meaning.specs.Frames.{frame_of_level, up, at}
use Rattle.tcl_frames.specs.Standing.{Standing}
use Rattle.tcl_frames.proofs.Joined.{level_of_joined}
use Rattle.tcl_frames.proofs.frames.Frames.levels_fit.Goals as goal

pub returns-clause-up : goal.returns-clause-up
returns-clause-up c = λ n h.
    let f = c.self.inside.stack in
    sym (ap (λ (s : Standing). frame_of_level s.frames s.active (up n)) c.self.view_is) ∙ level_of_joined f.frames c.self.inside.variables f.active (up n) ∙ c.levels_fit.ensures.up n h

pub returns-clause-at : goal.returns-clause-at
returns-clause-at c = λ n h.
    let f = c.self.inside.stack in
    sym (ap (λ (s : Standing). frame_of_level s.frames s.active (at n)) c.self.view_is) ∙ level_of_joined f.frames c.self.inside.variables f.active (at n) ∙ c.levels_fit.ensures.at n h
