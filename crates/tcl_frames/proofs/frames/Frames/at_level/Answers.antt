use Rattle.std.proofs.Common.{sym, ap, ◌∙◌}
use Rattle.tcl_meaning.specs.Frames.{frame_of_level}
use Rattle.tcl_frames.specs.Levels.{level_of}
use Rattle.tcl_frames.specs.Standing.{Standing}
use Rattle.tcl_frames.proofs.Joined.{level_of_joined, count_joined, if_within}
use Rattle.tcl_frames.proofs.frames.Frames.at_level.Goals as goal

pub returns-clause-found : goal.returns-clause-found
returns-clause-found c =
    let f = c.self.inside.stack in
    c.frame_of.ensures.found ∙ sym (level_of_joined f.frames c.self.inside.variables f.active (level_of c.args.level))
    ∙ ap (λ (s : Standing). frame_of_level s.frames s.active (level_of c.args.level)) c.self.view_is

pub returns-clause-there : goal.returns-clause-there
returns-clause-there c = if_within c.frame_of.result _ _ (count_joined c.self.inside.stack c.self.inside.variables c.args.self.now c.self.view_is) c.frame_of.ensures.there
