use Rattle.std.proofs.Common.{◌∙◌, arith}
use Rattle.std.specs.Str.{chars}
use Rattle.tcl_each.proofs.LoopListLemmas.{list_pushed, lists_end}
use Rattle.tcl_steps.specs.Views.{loop_lists_of}
use Rattle.tcl_each.proofs.rows.loop_lists_among.Goals as goal

pub loop-pair-preserved : goal.loop-pair-preserved
loop-pair-preserved c = record {
  same = c.in_ok-list.ensures.same ∙ c.loop-pair.invariant.same;
  read = list_pushed (chars c.args.empty.now) c.args.words.now c.loop-pair.words c.loop-pair.pair c.loop-pair.lists.items (omega arith) c.loop-pair.invariant.same c.loop-pair.invariant.read
      c.in_ok-list.list c.push.new.self.items c.in_ok-list.ensures.list c.in_ok-push.ensures.items;
}

pub returns-clause-lists : goal.returns-clause-lists
returns-clause-lists c = c.loop-pair.invariant.read ∙ lists_end (chars c.args.empty.now) c.args.words.now c.loop-pair.pair (loop_lists_of c.loop-pair.lists.items) (omega arith)
