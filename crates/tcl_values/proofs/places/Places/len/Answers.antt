use Rattle.std.proofs.Common.{subst, ap, ap₂, ◌∙◌, ◌+◌, ◌*◌, length}
use Rattle.std.specs.Str.{IsUtf8}
use Rattle.tcl_values.proofs.Beginnings.{counted, rest_counted}
use Rattle.tcl_values.proofs.Growth.{when_true, bytes_of_known}
use Rattle.tcl_values.proofs.places.Places.len.Goals as goal

pub returns-then-self : goal.returns-then-self
returns-then-self c = ap length (bytes_of_known _ _ (when_true _ _ c.if-self.true c.self.invariant.ascii) c.self.view_is)

pub returns : goal.returns
returns c =
    ap₂ (λ a b. a + b) c.begun_in.ensures (c.starts.ensures ∙ rest_counted _ _ _ c.as_bytes.ensures.value)
    ∙ counted c.self.inside.text.now (64 * length c.self.inside.marks.now) (subst IsUtf8 c.as_bytes.ensures.value c.as_bytes.ensures.utf8) ∙ ap length c.self.view_is
