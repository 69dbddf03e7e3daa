use Rattle.std.proofs.Common.{◌≡◌, ◌∙◌, ap, sym, subst, arith}
use Rattle.tcl_values.specs.Kept.{texts, depth_over}
use Rattle.tcl_values.specs.Shape.{AreKept}
use Rattle.tcl_values.proofs.Joined.{reads_written}
use Rattle.tcl_values.proofs.items.gathered.Goals as goal

pub returns-clause-kept : goal.returns-clause-kept
returns-clause-kept c =
    let exact : c.deepest-depth.result ≡ depth_over c.args.items.items = c.deepest-depth.ensures ∙ ap depth_over c.deref.ensures.value in
    subst AreKept (sym c.in_ok-new.ensures.ok) (record { limit = omega (arith, exact, c.requires); exact = exact; reading = reads_written (texts c.args.items.items); beside = tt; lower = tt })
