use Rattle.std.proofs.Common.{ap, sym, ◌∙◌}
use Rattle.std.specs.FinMap as map
use Rattle.std.specs.Str.{chars}
use Rattle.tcl_meaning.specs.Arrays.{whole_array}
use Rattle.tcl_frames.specs.Parts.{part_of}
use Rattle.tcl_frames.proofs.Joined.{variables_here}
use Rattle.tcl_frames.proofs.all_variables.AllVariables.array.Goals as goal

pub returns : goal.returns
returns c =
    c.array_in.ensures
    ∙ ap (λ m. whole_array (map.get m (chars c.args.at.name.now)) (part_of c.args.at.part)) (sym (variables_here c.self.inside.frames.items c.args.self.now c.args.at.frame c.index.result.now c.self.view_is c.index.ensures c.requires))
