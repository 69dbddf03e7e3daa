use Rattle.std.proofs.Common.{◌≡◌, [], length, sym, subst, ◌∙◌}
use Rattle.std.proofs.lemmas.Bool.{eqb-true}
use Rattle.std.specs.Str.{chars}
use Rattle.tcl_meaning.specs.Names.{from_paren}
use Rattle.tcl_frames.proofs.Parens.{no_paren}
use Rattle.tcl_frames.proofs.name.has_no_paren.Goals as goal

pub returns : goal.returns
returns c = λ same.
    let bs = c.as_bytes-bytes.result.now in
    subst (λ t. from_paren (chars t) ≡ []) c.as_bytes-bytes.ensures.value
    (no_paren bs c.as_bytes-bytes.ensures.utf8 (sym c.paren_in.ensures ∙ eqb-true c.paren_in.result (length bs) same))
