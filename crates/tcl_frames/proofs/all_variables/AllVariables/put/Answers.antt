use Rattle.std.specs.FinMap as map
use Rattle.tcl_meaning.specs.Variables.{put_part}
use Rattle.tcl_frames.specs.Parts.{part_of}
use Rattle.tcl_frames.specs.Written.{stored_in}
use Rattle.tcl_frames.proofs.Joined.{variables_here, done_at}
use Rattle.tcl_frames.proofs.all_variables.AllVariables.put.Goals as goal

pub returns-clause-done : goal.returns-clause-done
returns-clause-done c =
    let name = c.args.name.now in
    done_at c.put_in.result c.self.inside.frames.items c.args.self.now c.args.frame c.index_mut-variables.result.now c.put_in.new.variables
    (λ m. stored_in m name (put_part (map.get m name) (part_of c.args.part) c.args.value)) c.self.view_is
    (variables_here c.self.inside.frames.items c.args.self.now c.args.frame c.index_mut-variables.result.now c.self.view_is c.index_mut-variables.ensures.value c.requires) c.put_in.ensures.done

pub returns-clause-refused : goal.returns-clause-refused
returns-clause-refused c = rw (variables_here c.self.inside.frames.items c.args.self.now c.args.frame c.index_mut-variables.result.now c.self.view_is c.index_mut-variables.ensures.value c.requires) c.put_in.ensures.refused
