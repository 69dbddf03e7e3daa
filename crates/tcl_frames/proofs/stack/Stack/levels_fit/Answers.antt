use Rattle.std.proofs.Common.{◌≡◌, length, subst, ap, ◌∙◌, arith}
use Rattle.tcl_frames.specs.Standing.{Standing, IsStanding}
use Rattle.tcl_frames.proofs.HighLevels.{none_up, none_at}
use Rattle.tcl_frames.proofs.stack.Stack.levels_fit.Goals as goal

pub returns-clause-up : goal.returns-clause-up
returns-clause-up c = λ n h.
    let few = c.count.ensures.fits in
    let count : c.count.result ≡ length c.args.self.now.frames = c.count.ensures.is ∙ ap length c.deref.ensures.value ∙ ap (λ (s : Standing). length s.frames) c.self.view_is in
    none_up c.args.self.now n (subst IsStanding c.self.view_is c.self.invariant) (omega (arith, h, count, few))

pub returns-clause-at : goal.returns-clause-at
returns-clause-at c = λ n h.
    let few = c.count.ensures.fits in
    let count : c.count.result ≡ length c.args.self.now.frames = c.count.ensures.is ∙ ap length c.deref.ensures.value ∙ ap (λ (s : Standing). length s.frames) c.self.view_is in
    none_at c.args.self.now n (subst IsStanding c.self.view_is c.self.invariant) (omega (arith, h, count, few))
