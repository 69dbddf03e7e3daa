use Rattle.std.proofs.Common.{[], sym, subst, ap, ◌∙◌, arith}
use Rattle.tcl_values.specs.Kept.{texts}
use Rattle.tcl_values.specs.Paired.{read_pairs}
use Rattle.tcl_values.specs.Shape.{ArePaired, pairs_text}
use Rattle.tcl_values.proofs.PairKept.{read_kept}
use Rattle.tcl_values.proofs.Unrepeated.{written_alike}
use Rattle.tcl_values.proofs.pairs.paired.Goals as goal

pub returns-then-len-clause-same : goal.returns-then-len-clause-same
returns-then-len-clause-same c =
    ap pairs_text c.in_ok-new.ensures.ok
    ∙ written_alike c.in_ok-pairs.pairs c.args.row.now c.in_ok-pairs.ensures.kept c.in_ok-pairs.ensures.text c.if-is_none.ensures
    (ap (λ es. read_pairs [] (texts es)) (sym c.deref.ensures.value) ∙ c.in_ok-pairs.ensures.pairs)
    (omega (arith, c.if-len.true, c.len.ensures, c.args.row.now.items.ok.0, c.len-then-is_none.ensures.len))

pub returns-clause-kept : goal.returns-clause-kept
returns-clause-kept c =
    subst ArePaired (sym (c.in_ok-new-2.ensures.ok ∙ c.with_text.ensures))
    (read_kept c.in_ok-pairs.pairs c.args.row.now c.in_ok-text.text c.requires c.in_ok-text.ensures c.in_ok-pairs.ensures.kept
    (ap (λ es. read_pairs [] (texts es)) (sym c.deref.ensures.value) ∙ c.in_ok-pairs.ensures.pairs))
