use Rattle.std.proofs.Common.{◌≡◌, length, rules, sym, ap}
use Rattle.std.specs.Str.{chars}
use Rattle.std.proofs.lemmas.Result.{err_from_is_err_and}
use Rattle.std.proofs.lemmas.Str.{encodes-chars}
use Rattle.tcl_chars.specs.Place.{bytes}
use Rattle.tcl_expr.specs.Gives.{state_view}
use Rattle.tcl_expr.specs.Machine.{expression_of}
use Rattle.tcl_expr.specs.View.{stack_of, token_of}
use Rattle.tcl_expr.proofs.Lexing.{run_more, run_stops, ends_parse, state_more, found_by, begins_parse, state_begins}
use Rattle.tcl_chars.proofs.Ends.{ends_self, ends_trans}
use Rattle.tcl_expr.proofs.Suffix.{ends_next, shorter_next}
use Rattle.tcl_expr.proofs.parse.run.Goals as goal

pub tokens-init : goal.tokens-init
tokens-init c =
    let text = c.args.text.now in
    let size : length text ≡ bytes (chars text) = sym (ap length (encodes-chars text c.utf8.text)) in
    record {
      text = search rules;
      ends = ends_self (chars text);
      state = state_begins (stack_of c.new-stack.result.frames.items) c.new-stack.ensures;
      same = begins_parse c.args.dialect (chars text) (length text) (stack_of c.new-stack.result.frames.items) size c.new-stack.ensures;
    }

pub returns-in-None : goal.returns-in-None
returns-in-None c =
    let found = rw c.in-None.is at c.in_ok-found.ensures in
    let s = stack_of c.tokens.stack.frames.items in
    let here = found_by c.args.dialect (length c.args.text.now) c.room.result c.wants_operand.result c.tokens.state s (chars c.tokens.left.now) _ c.wants_operand.ensures c.room.ensures found in
    ends_parse c.args.dialect (length c.args.text.now) c.finish.result (state_view c.tokens.state s) (chars c.tokens.left.now) (expression_of c.args.dialect (chars c.args.text.now)) here c.finish.ensures c.tokens.invariant.same

pub returns-in_err-state-in-Some : goal.returns-in_err-state-in-Some
returns-in_err-state-in-Some c =
    let found = rw c.in-Some.is at c.in_ok-found.ensures in
    let s = stack_of c.tokens.stack.frames.items in
    let here = found_by c.args.dialect (length c.args.text.now) c.room.result c.wants_operand.result c.tokens.state s (chars c.tokens.left.now) _ c.wants_operand.ensures c.room.ensures found in
    let p = err_from_is_err_and c.from_residual-in_err-state-in-Some.result c.from_residual-in_err-state-in-Some.ensures.1 in
    rw (p.1, p.2) (run_stops c.args.dialect (length c.args.text.now) c.in_err-state-in-Some.field-0.0 (state_view c.tokens.state s) (token_of c.in-Some.token) (chars c.tokens.left.now) (chars c.in-Some.after.now) (expression_of c.args.dialect (chars c.args.text.now)) here c.in_err-state-in-Some.ensures c.tokens.invariant.same)

pub tokens-smaller : goal.tokens-smaller
tokens-smaller c =
    let found = rw c.in-Some.is at c.in_ok-found.ensures in
    shorter_next c.args.dialect (length c.args.text.now) c.wants_operand.result c.room.result (chars c.tokens.left.now) (token_of c.in-Some.token) (chars c.in-Some.after.now) (sym found)

pub tokens-preserved : goal.tokens-preserved
tokens-preserved c =
    let text = c.args.text.now in
    let left = c.tokens.left.now in
    let after = c.in-Some.after.now in
    let found = rw c.in-Some.is at c.in_ok-found.ensures in
    let s = stack_of c.tokens.stack.frames.items in
    let st = state_view c.tokens.state s in
    let now = state_view c.in_ok-state-in-Some.state (stack_of c.step.new.stack.frames.items) in
    let here = found_by c.args.dialect (length text) c.room.result c.wants_operand.result c.tokens.state s (chars left) _ c.wants_operand.ensures c.room.ensures found in
    record {
      text = search rules;
      ends = ends_trans (chars text) (chars left) (chars after) c.tokens.invariant.ends (ends_next c.args.dialect (length text) c.wants_operand.result c.room.result (chars left) (token_of c.in-Some.token) (chars after) (sym found));
      state = state_more st now (token_of c.in-Some.token) c.tokens.invariant.state c.in_ok-state-in-Some.ensures;
      same = run_more c.args.dialect (length text) st now (token_of c.in-Some.token) (chars left) (chars after) (expression_of c.args.dialect (chars text)) c.tokens.invariant.state here c.in_ok-state-in-Some.ensures c.tokens.invariant.same;
    }
