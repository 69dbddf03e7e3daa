use Rattle.std.proofs.Common.{◌≡◌, ◌∙◌, ap, sym, subst, arith}
use Rattle.tcl_values.specs.Kept.{texts, depth_over}
use Rattle.tcl_values.specs.Shape.{AreKept}
use Rattle.tcl_values.proofs.Joined.{reads_written}
use Rattle.tcl_values.proofs.gathering.Gathering.into_value.Goals as goal

pub invariant_of-result : goal.invariant_of-result
invariant_of-result c =
    let exact : c.depth_within-depth.result ≡ depth_over c.self.inside.items.items = c.depth_within-depth.ensures ∙ ap depth_over c.deref.ensures.value in
    subst AreKept (sym c.in_ok-new.ensures.ok) (record { limit = omega (arith, exact, c.self.invariant.deeper, c.self.invariant.limit); exact = exact; reading = reads_written (texts c.self.inside.items.items); beside = tt; lower = tt })
