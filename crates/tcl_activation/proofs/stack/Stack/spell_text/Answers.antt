use Rattle.std.proofs.Common.{Ok}
use Rattle.tcl_code.specs.declared.instr.TextInstr.TheVariants as text_instr
use Rattle.tcl_activation.specs.declared.progress.Progress.TheVariants as progress
use Rattle.tcl_activation.proofs.Topics.{spells_as}
use Rattle.tcl_activation.proofs.stack.Stack.spell_text.Goals as goal

pub returns-in_ok-push-in-Push : goal.returns-in_ok-push-in-Push
returns-in_ok-push-in-Push g c = spells_as (g.F.Variables.store c.args.frames.now) c.args.instr text_instr.Push c.args.text c.args.self.now c.push.new.self (Ok progress.Moved) c.in-Push.is (λ dialect at s same. c.in_ok-push-in-Push.ensures dialect at s)

pub returns-in-Read : goal.returns-in-Read
returns-in-Read g c = spells_as (g.F.Variables.store c.args.frames.now) c.args.instr text_instr.Read c.args.text c.args.self.now c.read.new.self c.read.result c.in-Read.is c.read.ensures

pub returns-in-ReadElement : goal.returns-in-ReadElement
returns-in-ReadElement g c = spells_as (g.F.Variables.store c.args.frames.now) c.args.instr text_instr.ReadElement c.args.text c.args.self.now c.read_element.new.self c.read_element.result c.in-ReadElement.is c.read_element.ensures

pub returns-in-Raise : goal.returns-in-Raise
returns-in-Raise g c = spells_as (g.F.Variables.store c.args.frames.now) c.args.instr text_instr.Raise c.args.text c.args.self.now c.args.self.now c.raise.result c.in-Raise.is (λ dialect at s same. c.raise.ensures dialect at s)

pub returns-in_ok-under-in-Under : goal.returns-in_ok-under-in-Under
returns-in_ok-under-in-Under g c = spells_as (g.F.Variables.store c.args.frames.now) c.args.instr text_instr.Under c.args.text c.args.self.now c.under.new.self (Ok progress.Moved) c.in-Under.is (λ dialect at s same. c.in_ok-under-in-Under.ensures dialect at s)
