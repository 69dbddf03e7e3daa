use Rattle.std.proofs.Common.{true, false}
use Rattle.std.specs.Str.{chars}
use Rattle.tcl_words.proofs.GoesOnRuns.{waits_on, hidden_on, judged_on}
use Rattle.tcl_words.proofs.waiting.is_complete_behind.Goals as goal

pub returns-then-waiting-clause-awaits : goal.returns-then-waiting-clause-awaits
returns-then-waiting-clause-awaits c = waits_on c.args.waiting c.in_ok-waiting.waiting (chars c.args.line.now) (chars c.args.text.now) c.requires c.in_ok-waiting.ensures.alike c.in_ok-waiting.ensures.hides

pub returns-in-Whole-clause-awaits : goal.returns-in-Whole-clause-awaits
returns-in-Whole-clause-awaits c = waits_on c.args.waiting c.in_ok-waiting.waiting (chars c.args.line.now) (chars c.args.text.now) c.requires c.in_ok-waiting.ensures.alike c.in_ok-waiting.ensures.hides

pub returns-in-Open-clause-awaits : goal.returns-in-Open-clause-awaits
returns-in-Open-clause-awaits c = waits_on c.args.waiting c.in_ok-waiting.waiting (chars c.args.line.now) (chars c.args.text.now) c.requires c.in_ok-waiting.ensures.alike c.in_ok-waiting.ensures.hides

pub returns-in_ok-complete-in-Unknown-clause-awaits : goal.returns-in_ok-complete-in-Unknown-clause-awaits
returns-in_ok-complete-in-Unknown-clause-awaits c = waits_on c.args.waiting c.in_ok-waiting.waiting (chars c.args.line.now) (chars c.args.text.now) c.requires c.in_ok-waiting.ensures.alike c.in_ok-waiting.ensures.hides

pub returns-then-waiting-clause-complete : goal.returns-then-waiting-clause-complete
returns-then-waiting-clause-complete c = hidden_on c.args.waiting c.in_ok-waiting.waiting (chars c.args.line.now) (chars c.args.text.now) c.requires c.in_ok-waiting.ensures.alike c.in_ok-waiting.ensures.hides c.if-waiting.true

pub returns-in-Whole-clause-complete : goal.returns-in-Whole-clause-complete
returns-in-Whole-clause-complete c =
    let judged = rw c.in-Whole.is at c.in_ok-waiting.ensures.judges in
    judged_on c.args.waiting c.in_ok-waiting.waiting (chars c.args.line.now) (chars c.args.text.now) c.requires c.in_ok-waiting.ensures.alike c.in_ok-waiting.ensures.hides false c.if-waiting.false judged

pub returns-in-Open-clause-complete : goal.returns-in-Open-clause-complete
returns-in-Open-clause-complete c =
    let judged = rw c.in-Open.is at c.in_ok-waiting.ensures.judges in
    judged_on c.args.waiting c.in_ok-waiting.waiting (chars c.args.line.now) (chars c.args.text.now) c.requires c.in_ok-waiting.ensures.alike c.in_ok-waiting.ensures.hides true c.if-waiting.false judged
