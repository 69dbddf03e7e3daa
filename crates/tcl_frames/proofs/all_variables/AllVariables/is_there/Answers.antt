use Rattle.std.proofs.Common.{ap, sym, ◌∙◌}
use Rattle.std.specs.FinMap as map
use Rattle.std.specs.Str.{chars}
use Rattle.tcl_meaning.specs.SeenPages.{is_there}
use Rattle.tcl_frames.specs.Parts.{part_of}
use Rattle.tcl_frames.proofs.Joined.{variables_here}
use Rattle.tcl_frames.proofs.all_variables.AllVariables.is_there.Goals as goal

pub returns : goal.returns
returns c =
    c.is_there_in.ensures
    ∙ ap (λ m. is_there (map.get m (chars c.args.at.name.now)) (part_of c.args.at.part)) (sym (variables_here c.self.inside.frames.items c.args.self.now c.args.at.frame c.index.result.now c.self.view_is c.index.ensures c.requires))
