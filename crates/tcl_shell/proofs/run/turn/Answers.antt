use Rattle.std.proofs.Common.{ℕ, List, refl, sym, ap, subst, ◌∙◌}
use Rattle.std.specs.Str.{chars}
use Rattle.std.specs.String.{string_bytes}
use Rattle.tcl_channels.specs.Shown.{channels_of}
use Rattle.tcl_meaning.specs.Run.{run_script}
use Rattle.tcl_meaning.proofs.Onward.{outputs_trans}
use Rattle.tcl_interp.specs.Interp.{kept_by, remains_at, state_at}
use Rattle.tcl_interp.specs.Outcome.{outcome_fails}
use Rattle.tcl_shell.specs.Session.{evaluated, turn, turns}
use Rattle.tcl_shell.specs.Turns.{LeadsTo}
use Rattle.tcl_shell.proofs.Writes.{no_chars, some_chars}
use Rattle.tcl_shell.proofs.Sessions.{ended_turn, evaluated_turn, still_sound}
use Rattle.tcl_shell.proofs.run.turn.Goals as goal

pub returns-then-is_empty-clause-turned : goal.returns-then-is_empty-clause-turned
returns-then-is_empty-clause-turned g c =
    let shows = c.args.interp.now in
    let s = state_at g.R.Input.to_come g.W.Output.written g.E.Output.written shows c.args.world.now c.args.units in
    let r = remains_at g.R.Input.to_come g.W.Output.written g.E.Output.written shows c.ask_text.new.world in
    λ n.
    ended_turn shows.dialect n s (chars (string_bytes c.in-Ok.text)) (kept_by shows) c.args.units r (ap chars (sym c.as_str-script.ensures.value) ∙ no_chars c.as_str-script.result.now c.is_empty.result c.is_empty.ensures c.if-is_empty.true) refl
    (c.in-Ok.ensures.asked shows.dialect n (kept_by shows) c.args.units)

pub returns-clause-turned : goal.returns-clause-turned
returns-clause-turned g c =
    let shows = c.args.interp.now in
    let d = shows.dialect in
    let new = c.eval-outcome.new in
    let state = state_at g.R.Input.to_come g.W.Output.written g.E.Output.written shows in
    let channels = channels_of g.R.Input.to_come g.W.Output.written g.E.Output.written in
    let s = state c.args.world.now c.args.units in
    let mid = state c.ask_text.new.world c.args.units in
    let r = remains_at g.R.Input.to_come g.W.Output.written g.E.Output.written new.self c.tell.new.world in
    let text = c.as_str-script.result.now in
    λ n.
    evaluated_turn d n s mid (chars text) c.tell.result r (some_chars text c.is_empty.result c.as_str-script.utf8 c.is_empty.ensures c.if-is_empty.false)
    (subst (λ (t : List ℕ). LeadsTo (turn d (turns d n) s) (evaluated d (turns d n) (chars t) mid) (channels c.ask_text.new.world)) (sym c.as_str-script.ensures.value) (c.in-Ok.ensures.asked d n (kept_by shows) c.args.units))
    (outputs_trans c.eval-outcome.ensures.grows c.tell.ensures.adds) (c.tell.ensures.followed d n (run_script d (chars text) mid) new.self.globals new.self.commands (c.eval-outcome.ensures.run c.requires))

pub returns-clause-sound : goal.returns-clause-sound
returns-clause-sound g c = still_sound c.tell.result c.eval-outcome.new.self.failed (outcome_fails c.eval-outcome.result) (c.eval-outcome.ensures.fails c.requires) c.tell.ensures.goes
