use Rattle.std.proofs.Common.{ℕ, ◌≡◌, true, false, not, ◌==◌, sym, ap, subst, ◌∙◌, eq-eqb, ltb-true, length, arith}
use Rattle.std.specs.Str.{chars}
use Rattle.tcl_meaning.specs.Names.{divided_name}
use Rattle.tcl_frames.specs.Parts.{plain_name}
use Rattle.tcl_frames.proofs.NamesLemmas.{plain_is}
use Rattle.tcl_frames.proofs.name.is_plain.Goals as goal
use Rattle.tcl_frames.proofs.name.is_plain.Goals.{then-size-gt0, else-size-gt0}

another : (b d : ℕ) → not (b == d) ≡ true → b ≡ d → ⊥
another b d h e =
    let same : false ≡ true = sym (ap not (eq-eqb b d e)) ∙ h in
    cc

pub returns-then-bytes-ne58 : goal.returns-then-bytes-ne58
returns-then-bytes-ne58 c last =
    let bs = c.as_bytes-bytes.result.now in
    elim c.if-size-gt0.branch [
      | then-size-gt0 w ↦ subst (λ t. divided_name (chars t) ≡ plain_name (chars t)) c.as_bytes-bytes.ensures.value (plain_is bs c.as_bytes-bytes.ensures.utf8 (another _ _ (sym w.value-is ∙ c.if-bytes-ne58.true)) (another _ _ last))
      | else-size-gt0 w ↦ let some = ltb-true 0 (length bs) (sym w.value-is ∙ c.if-bytes-ne58.true) in absurd (omega arith)
    ]
