use Rattle.tcl_expr.specs.View.{view, held_of, stack_of}
use Rattle.std.proofs.Common.{arith}
use Rattle.tcl_expr.proofs.moves.reduce.Goals as goal
use Rattle.tcl_expr.proofs.Loops.{reduce_nil, reduce_more, reduce_ends}

pub returns-in-None : goal.returns-in-None
returns-in-None c =
    let k = rw c.in-None.is at c.pop.ensures.frame in
    reduce_nil c.args.reach (view c.frames.x) (stack_of c.frames.stack.frames.items) (stack_of c.pop.new.self.frames.items) _ k.0 k.1 c.frames.invariant

pub frames-preserved : goal.frames-preserved
frames-preserved c =
    let k = rw c.in-Some.is at c.pop.ensures.frame in
    reduce_more c.args.reach (view c.frames.x) (view c.in_ok-x-in-Some.x) (held_of c.in-Some.frame) (stack_of c.frames.stack.frames.items) (stack_of c.pop.new.self.frames.items) _ k (omega (arith, c.level.ensures, c.if-level-reach.true)) c.in_ok-x-in-Some.ensures c.frames.invariant

pub returns-else-level-reach : goal.returns-else-level-reach
returns-else-level-reach c =
    let k = rw c.in-Some.is at c.pop.ensures.frame in
    reduce_ends c.args.reach (view c.frames.x) (held_of c.in-Some.frame) (stack_of c.frames.stack.frames.items) (stack_of c.pop.new.self.frames.items) (stack_of c.push.new.self.frames.items) _ k (omega (arith, c.level.ensures, c.if-level-reach.false)) c.in_ok-push-in-Some.ensures.frame c.frames.invariant
