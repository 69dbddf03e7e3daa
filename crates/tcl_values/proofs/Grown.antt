-- Copies of texts that grow.
use Rattle.std.proofs.Common.{subst}
use Rattle.std.specs.Bool.{OnTrue}
use Rattle.std.specs.Str.{IsAscii}
use Rattle.std.specs.String.{string_bytes}
use Rattle.tcl_values.specs.Marks.{AreMarks}
use Rattle.tcl_values.specs.Shape.{AreSameGrown, AreSameComposed, IsGrown}
use Rattle.tcl_values.specs.declared.composed.Composed.{Composed}
use Rattle.tcl_values.specs.declared.value.Growing.{Growing}

-- what is known of a text is known of its copy
pub grown_same : (g h : Growing) → AreSameGrown g h → IsGrown g → IsGrown h
grown_same g h s k = record {
  ascii = subst (λ b. OnTrue b (IsAscii (string_bytes h.text))) s.ascii (subst (λ t. OnTrue g.ascii (IsAscii t)) s.text k.ascii);
  marks = subst (λ ms. AreMarks ms (string_bytes h.text)) s.marks (subst (AreMarks g.marks.before.items) s.text k.marks);
}

pub composed_same : (c d : Composed) → AreSameComposed c d → IsGrown c.growing → IsGrown d.growing
composed_same c d s k = grown_same c.growing d.growing s k
