use Rattle.std.proofs.Common.{Ok, subst, sym}
use Rattle.tcl_code.specs.declared.instr.Instr.TheVariants as instr
use Rattle.tcl_activation.specs.Moves.{Acts}
use Rattle.tcl_activation.specs.declared.progress.Progress.TheVariants as progress
use Rattle.tcl_activation.proofs.Topics.{acts_as, called_as, goes_as}
use Rattle.tcl_activation.proofs.stack.Stack.command.Goals as goal
use Rattle.tcl_activation.proofs.stack.Stack.command.Goals.{in-Leave+in_ok-leave-in-Leave, in-Gather+in_ok-gather-in-Gather, in-Add+in_ok-add-in-Add, in-TakeFirst+in_ok-take_first-in-TakeFirst, in-DropList, in-Listed+in_ok-listed-in-Listed, in-Duplicate+in_ok-duplicate-in-Duplicate, in-Answer, in-Become}

pub returns-in-Call : goal.returns-in-Call
returns-in-Call c ts = subst (λ i. Acts c.args.dialect i c.args.self.now c.call.new.self (Ok c.call.result)) (sym (called_as ts c.args.instr c.in-Call.count c.in-Call.is)) (c.call.ensures c.args.dialect)

pub returns-in-AddAll : goal.returns-in-AddAll
returns-in-AddAll c ts = acts_as c.args.dialect ts c.args.instr instr.AddAll c.args.self.now c.add_all.new.self c.add_all.result c.in-AddAll.is (c.add_all.ensures c.args.dialect)

pub returns-in-Deal : goal.returns-in-Deal
returns-in-Deal c ts = acts_as c.args.dialect ts c.args.instr (instr.Deal c.in-Deal.count) c.args.self.now c.deal.new.self c.deal.result c.in-Deal.is (c.deal.ensures c.args.dialect)

pub returns-in-CallGathered : goal.returns-in-CallGathered
returns-in-CallGathered c ts = acts_as c.args.dialect ts c.args.instr instr.CallGathered c.args.self.now c.call_gathered.new.self c.call_gathered.result c.in-CallGathered.is (c.call_gathered.ensures c.args.dialect)

pub returns : goal.returns
returns c ts at s = elim c.match-instr.branch [
  | in-Leave+in_ok-leave-in-Leave w ↦ goes_as c.args.dialect ts c.args.instr instr.Leave c.args.self.now w.leave.new.self c.match-instr.self w.in-Leave.is w.self-is w.in_ok-leave-in-Leave.ensures at s
  | in-Gather+in_ok-gather-in-Gather w ↦ goes_as c.args.dialect ts c.args.instr instr.Gather c.args.self.now w.gather.new.self c.match-instr.self w.in-Gather.is w.self-is w.in_ok-gather-in-Gather.ensures at s
  | in-Add+in_ok-add-in-Add w ↦ goes_as c.args.dialect ts c.args.instr instr.Add c.args.self.now w.add.new.self c.match-instr.self w.in-Add.is w.self-is w.in_ok-add-in-Add.ensures at s
  | in-TakeFirst+in_ok-take_first-in-TakeFirst w ↦ goes_as c.args.dialect ts c.args.instr instr.TakeFirst c.args.self.now w.take_first.new.self c.match-instr.self w.in-TakeFirst.is w.self-is w.in_ok-take_first-in-TakeFirst.ensures at s
  | in-DropList w ↦ goes_as c.args.dialect ts c.args.instr instr.DropList c.args.self.now w.drop_list.new.self c.match-instr.self w.in-DropList.is w.self-is w.drop_list.ensures at s
  | in-Listed+in_ok-listed-in-Listed w ↦ goes_as c.args.dialect ts c.args.instr instr.Listed c.args.self.now w.listed.new.self c.match-instr.self w.in-Listed.is w.self-is w.in_ok-listed-in-Listed.ensures at s
  | in-Duplicate+in_ok-duplicate-in-Duplicate w ↦ goes_as c.args.dialect ts c.args.instr instr.Duplicate c.args.self.now w.duplicate.new.self c.match-instr.self w.in-Duplicate.is w.self-is w.in_ok-duplicate-in-Duplicate.ensures at s
  | in-Answer w ↦ goes_as c.args.dialect ts c.args.instr instr.Answer c.args.self.now w.set_result.new.self c.match-instr.self w.in-Answer.is w.self-is w.set_result.ensures at s
  | in-Become w ↦ goes_as c.args.dialect ts c.args.instr instr.Become c.args.self.now w.end_script.new.self c.match-instr.self w.in-Become.is w.self-is w.end_script.ensures at s
]

pub returns-in-Return : goal.returns-in-Return
returns-in-Return c ts = acts_as c.args.dialect ts c.args.instr instr.Return c.args.self.now c.returned.new.self (Ok (progress.Over c.in_ok-returned-in-Return.field-0)) c.in-Return.is (c.in_ok-returned-in-Return.ensures c.args.dialect)
