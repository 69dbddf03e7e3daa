use Rattle.std.proofs.Common.{◌-◌, refl, sym, subst, ◌∙◌}
use Rattle.tcl_channels.specs.Shown.{channels_of}
use Rattle.tcl_chars.specs.declared.numbers.Dialect.{Dialect}
use Rattle.tcl_meaning.specs.Effects.{Got}
use Rattle.tcl_interp.specs.Interp.{remains_at, state_at}
use Rattle.tcl_shell.specs.Ends.{EndsSo}
use Rattle.tcl_shell.specs.Session.{most_texts, turns}
use Rattle.tcl_shell.specs.Turns.{LeadsTo}
use Rattle.tcl_shell.proofs.Sessions.{leads_on, leads_ends, turns_more, same_devices, spent}
use Rattle.tcl_shell.proofs.run.turns.Goals as goal

pub returns-in-Over-clause-ends : goal.returns-in-Over-clause-ends
returns-in-Over-clause-ends g c =
    let state = state_at g.R.Input.to_come g.W.Output.written g.E.Output.written in
    let d = c.texts.interp.dialect in
    let n = c.texts.texts in
    let now = state c.texts.interp c.texts.world c.texts.units in
    let r = remains_at g.R.Input.to_come g.W.Output.written g.E.Output.written c.turn.new.interp c.turn.new.world in
    leads_ends c.in-Over.end (turns c.args.interp.now.dialect most_texts (state c.args.interp.now c.args.world.now c.args.budget)) (turns d n now) (channels_of g.R.Input.to_come g.W.Output.written g.E.Output.written c.texts.world) r c.texts.invariant.0 c.in-Over.ensures.adds
    (subst (λ (x : Got (Unit {0})). EndsSo c.in-Over.end x r) (sym (turns_more d n now c.texts-test.true)) (c.in-Over.ensures.turned (n - 1)))

pub texts-preserved : goal.texts-preserved
texts-preserved g c =
    let state = state_at g.R.Input.to_come g.W.Output.written g.E.Output.written in
    let channels = channels_of g.R.Input.to_come g.W.Output.written g.E.Output.written in
    let d = c.texts.interp.dialect in
    let n = c.texts.texts in
    let now = state c.texts.interp c.texts.world c.texts.units in
    let new = c.turn.new in
    let then = state new.interp new.world c.in-Goes.left in
    let goes = c.in-Goes.ensures in (
      leads_on (turns c.args.interp.now.dialect most_texts (state c.args.interp.now c.args.world.now c.args.budget)) (turns d n now) (turns new.interp.dialect (n - 1) then) (channels c.texts.world) (channels new.world) c.texts.invariant.0 goes.adds
          (subst (λ (x : Dialect). LeadsTo (turns d n now) (turns x (n - 1) then) (channels new.world)) (sym goes.dialect)
          (subst (λ (x : Got (Unit {0})). LeadsTo x (turns d (n - 1) then) (channels new.world)) (sym (turns_more d n now c.texts-test.true)) (goes.turned (n - 1)))),
      goes.sound,
      goes.dialect ∙ c.texts.invariant.2,
      same_devices c.args.world.now c.texts.world new.world c.texts.invariant.3 goes.devices,
      goes.failures ∙ c.texts.invariant.4,
    )

pub returns-clause-ends : goal.returns-clause-ends
returns-clause-ends g c =
    let state = state_at g.R.Input.to_come g.W.Output.written g.E.Output.written in
    spent c.texts.interp.dialect c.texts.texts (state c.texts.interp c.texts.world c.texts.units) (remains_at g.R.Input.to_come g.W.Output.written g.E.Output.written c.texts.interp c.texts.world)
    (turns c.args.interp.now.dialect most_texts (state c.args.interp.now c.args.world.now c.args.budget)) c.texts-test.false refl c.texts.invariant.0
