use Rattle.std.proofs.Common.{ap, sym, ◌∙◌}
use Rattle.std.specs.Prelude.{is_some}
use Rattle.std.specs.FinMap as map
use Rattle.std.specs.Str.{chars}
use Rattle.tcl_frames.proofs.Joined.{variables_here}
use Rattle.tcl_frames.proofs.Standings.{copied_some}
use Rattle.tcl_frames.proofs.all_variables.AllVariables.has.Goals as goal

pub returns : goal.returns
returns c =
    c.is_some.ensures ∙ copied_some c.get.result ∙ ap is_some c.get.ensures
    ∙ ap (λ m. is_some (map.get m (chars c.args.name.now))) (sym (variables_here c.self.inside.frames.items c.args.self.now c.args.frame c.index.result.now c.self.view_is c.index.ensures c.requires))
