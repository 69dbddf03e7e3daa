use Rattle.std.proofs.Common.{◌≡◌, sym, ap, subst, ◌∙◌}
use Rattle.std.specs.Str.{chars}
use Rattle.tcl_channels.specs.Shown.{channels_of}
use Rattle.tcl_frames.specs.Standing.{Standing}
use Rattle.tcl_meaning.specs.Frames.{Frame, frame_at}
use Rattle.tcl_meaning.specs.Run.{run_script}
use Rattle.tcl_interp.specs.Interp.{Shows, state_at}
use Rattle.tcl_interp.specs.Outcome.{Ends}
use Rattle.tcl_interp.proofs.Ending.{run_ends}
use Rattle.tcl_interp.proofs.Standing.{unwound_globals}
use Rattle.tcl_interp.proofs.interp.Interp.eval_noted.Goals as goal

pub returns-clause-run : goal.returns-clause-run
returns-clause-run g c sound =
    let i = c.self.inside in
    let shows = c.args.self.now in
    let new = c.run_noted-ended.new in
    let before = channels_of g.R.Input.to_come g.W.Output.written g.E.Output.written c.args.world.now in
    let after = channels_of g.R.Input.to_come g.W.Output.written g.E.Output.written new.devices in
    let left : frame_at new.frames.frames 0 ≡ frame_at c.unwind.new.self.frames 0 = sym (ap (λ (f : Standing). frame_at f.frames 0) c.unwind.ensures ∙ unwound_globals new.frames.frames) in
    subst (λ (globals : Frame). Ends c.outcome_of-told.result (run_script shows.dialect (chars c.args.script.now) (state_at g.R.Input.to_come g.W.Output.written g.E.Output.written shows c.args.world.now c.args.budget)) (record { globals = globals; commands = new.table; channels = after })) left
    (run_ends i.codes shows i.frames i.table before c.args.budget (chars c.args.script.now) new.frames new.table after new.units c.run_noted-ended.result c.outcome_of-told.result (ap (λ (s : Shows). s.dialect) c.self.view_is) c.self.invariant
    (ap (λ (s : Shows). s.globals) c.self.view_is) (ap (λ (s : Shows). s.commands) c.self.view_is) c.run_noted-ended.ensures.follows c.outcome_of-told.ensures)
