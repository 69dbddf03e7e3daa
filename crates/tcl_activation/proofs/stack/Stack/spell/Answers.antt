use Rattle.std.proofs.Common.{Ok, ap, refl, inl, inr}
use Rattle.tcl_code.specs.Instructions.{Push, Read, ReadElement, Join, Raise, Under}
use Rattle.tcl_code.specs.declared.instr.Instr.TheVariants as instr
use Rattle.tcl_activation.specs.declared.progress.Progress.TheVariants as progress
use Rattle.tcl_activation.proofs.Topics.{copied, reads_as}
use Rattle.tcl_activation.proofs.stack.Stack.spell.Goals as goal

pub returns-in_ok-push-in-Push : goal.returns-in_ok-push-in-Push
returns-in_ok-push-in-Push g c = reads_as (g.F.Variables.store c.args.frames.now) c.args.code.now.texts c.args.instr (instr.Push c.in-Push.number) (Push c.in_ok-copy-in-Push.field-0) c.args.self.now c.push.new.self (Ok progress.Moved)
    c.in-Push.is (ap Push (copied c.args.code.now.texts.kept c.in-Push.number c.text.result.now c.in_ok-copy-in-Push.field-0 c.text.ensures c.in_ok-copy-in-Push.ensures)) (λ dialect at s same. c.in_ok-push-in-Push.ensures dialect at s)

pub returns-in-Read : goal.returns-in-Read
returns-in-Read g c =
    let name = ap Read (copied c.args.code.now.texts.kept c.in-Read.number c.text-in-Read.result.now c.text-in-Read.result.now c.text-in-Read.ensures refl) in
    elim c.in-Read.is [
      | inl is ↦ reads_as (g.F.Variables.store c.args.frames.now) c.args.code.now.texts c.args.instr (instr.Read c.in-Read.number) (Read c.text-in-Read.result.now) c.args.self.now c.read.new.self c.read.result is name c.read.ensures
      | inr w ↦ elim w [
        | inl is ↦ reads_as (g.F.Variables.store c.args.frames.now) c.args.code.now.texts c.args.instr (instr.ReadPairs c.in-Read.number) (Read c.text-in-Read.result.now) c.args.self.now c.read.new.self c.read.result is name c.read.ensures
        | inr is ↦ reads_as (g.F.Variables.store c.args.frames.now) c.args.code.now.texts c.args.instr (instr.ReadList c.in-Read.number) (Read c.text-in-Read.result.now) c.args.self.now c.read.new.self c.read.result is name c.read.ensures
      ]
    ]

pub returns-in-ReadElement : goal.returns-in-ReadElement
returns-in-ReadElement g c = reads_as (g.F.Variables.store c.args.frames.now) c.args.code.now.texts c.args.instr (instr.ReadElement c.in-ReadElement.number) (ReadElement c.text-in-ReadElement.result.now) c.args.self.now c.read_element.new.self c.read_element.result
    c.in-ReadElement.is (ap ReadElement (copied c.args.code.now.texts.kept c.in-ReadElement.number c.text-in-ReadElement.result.now c.text-in-ReadElement.result.now c.text-in-ReadElement.ensures refl)) c.read_element.ensures

pub returns-in_ok-join-in-Join : goal.returns-in_ok-join-in-Join
returns-in_ok-join-in-Join g c = reads_as (g.F.Variables.store c.args.frames.now) c.args.code.now.texts c.args.instr (instr.Join c.in-Join.count) (Join c.in-Join.count) c.args.self.now c.join.new.self (Ok progress.Moved)
    c.in-Join.is refl (λ dialect at s same. c.in_ok-join-in-Join.ensures dialect at s)

pub returns-in_ok-copy-in-Raise : goal.returns-in_ok-copy-in-Raise
returns-in_ok-copy-in-Raise g c = reads_as (g.F.Variables.store c.args.frames.now) c.args.code.now.texts c.args.instr (instr.Raise c.in-Raise.number) (Raise c.in_ok-copy-in-Raise.field-0) c.args.self.now c.args.self.now c.raise.result
    c.in-Raise.is (ap Raise (copied c.args.code.now.texts.kept c.in-Raise.number c.text-in-Raise.result.now c.in_ok-copy-in-Raise.field-0 c.text-in-Raise.ensures c.in_ok-copy-in-Raise.ensures)) (λ dialect at s same. c.raise.ensures dialect at s)

pub returns-in_ok-under-in-Under : goal.returns-in_ok-under-in-Under
returns-in_ok-under-in-Under g c = reads_as (g.F.Variables.store c.args.frames.now) c.args.code.now.texts c.args.instr (instr.Under c.in-Under.number) (Under c.in_ok-copy-in-Under.field-0) c.args.self.now c.under.new.self (Ok progress.Moved)
    c.in-Under.is (ap Under (copied c.args.code.now.texts.kept c.in-Under.number c.text-in-Under.result.now c.in_ok-copy-in-Under.field-0 c.text-in-Under.ensures c.in_ok-copy-in-Under.ensures)) (λ dialect at s same. c.in_ok-under-in-Under.ensures dialect at s)
