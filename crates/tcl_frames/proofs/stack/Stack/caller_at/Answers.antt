use Rattle.std.proofs.Common.{sym, ap, ◌∙◌, ◌-◌, arith}
use Rattle.tcl_meaning.specs.Frames.{Frame, frame_of_level, at, chain_of, of_level}
use Rattle.tcl_frames.specs.Standing.{Standing}
use Rattle.tcl_frames.proofs.Standings.{frame_at-get, level_here, level_past, level_step}
use Rattle.tcl_frames.proofs.stack.Stack.caller_at.Goals as goal

pub returns-then-above-eq0-clause-found : goal.returns-then-above-eq0-clause-found
returns-then-above-eq0-clause-found c =
    let fs = c.self.inside.calls.items in
    let near = c.up.invariant.earlier in
    let inside = c.self.invariant.sound.active in
    let is = c.level.ensures ∙ ap (λ (f : Frame). f.level) (c.index.ensures ∙ sym (frame_at-get fs c.up.frame c.index.result.now (omega (arith, near, inside)))) in
    sym (level_past fs c.args.level c.up.frame (λ e. c.up-test.true (is ∙ e))) ∙ ap (λ n. of_level fs c.args.level (chain_of n fs c.up.frame)) (sym c.if-above-eq0.true)
    ∙ c.up.invariant.found ∙ ap (λ (s : Standing). frame_of_level s.frames s.active (at c.args.level)) c.self.view_is

pub up-preserved : goal.up-preserved
up-preserved c =
    let fs = c.self.inside.calls.items in
    let near = c.up.invariant.earlier in
    let inside = c.self.invariant.sound.active in
    let is = c.level.ensures ∙ ap (λ (f : Frame). f.level) (c.index.ensures ∙ sym (frame_at-get fs c.up.frame c.index.result.now (omega (arith, near, inside)))) in
    let up = c.caller-frame.ensures ∙ ap (λ (f : Frame). f.caller) (c.index-in-up.ensures ∙ sym (frame_at-get fs c.up.frame c.index-in-up.result.now (omega (arith, near, inside)))) in
    record {
      earlier = let down = c.self.invariant.sound.callers c.up.frame in omega (arith, up, down, near);
      found = ap (λ i. of_level fs c.args.level (chain_of (c.up.above - 1) fs i)) up
          ∙ level_step fs c.args.level c.up.above c.up.frame (λ e. c.up-test.true (is ∙ e)) (let more = c.if-above-eq0.false in omega (arith, more)) ∙ c.up.invariant.found;
    }

pub returns-clause-found : goal.returns-clause-found
returns-clause-found c =
    let fs = c.self.inside.calls.items in
    let near = c.up.invariant.earlier in
    let inside = c.self.invariant.sound.active in
    let is = c.level.ensures ∙ ap (λ (f : Frame). f.level) (c.index.ensures ∙ sym (frame_at-get fs c.up.frame c.index.result.now (omega (arith, near, inside)))) in
    sym (level_here fs c.args.level c.up.above c.up.frame (sym is ∙ c.up-test.false)) ∙ c.up.invariant.found
    ∙ ap (λ (s : Standing). frame_of_level s.frames s.active (at c.args.level)) c.self.view_is
