use Rattle.std.proofs.Common.{reverse, subst}
use Rattle.std.proofs.lemmas.Result.{err_from_is_err_and}
use Rattle.std.specs.Vec.Iter.{into_iter_items}
use Rattle.tcl_chars.specs.Answers.{Stops}
use Rattle.tcl_pages.specs.DictPages.{inner_of}
use Rattle.tcl_pages.specs.Texts.{Text}
use Rattle.tcl_dicts.proofs.Updating.{unset_faults}
use Rattle.tcl_dicts.proofs.paths.without_key.Goals as goal

pub returns-in_err-inner : goal.returns-in_err-inner
returns-in_err-inner c =
    let e = c.in_err-inner.field-0.0 in
    let t = c.loop-key.level in
    let p = err_from_is_err_and c.from_residual-in_err-inner.result c.from_residual-in_err-inner.ensures.1 in
    rw (p.1, p.2) (unset_faults e t c.in-Some.key c.args.last (into_iter_items c.loop-key.key-iterator) _ (reverse c.loop-key.levels.items) _ c.in-Some.ensures.steps.0 c.loop-key.invariant
    (subst (λ (key : Text). Stops e (inner_of t key)) c.as_str.ensures c.in_err-inner.ensures.inner))
