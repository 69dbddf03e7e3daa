use Rattle.std.proofs.Common.{ap, sym, get_or, ◌∙◌}
use Rattle.std.proofs.lemmas.Result.{err_from_is_err_and}
use Rattle.std.specs.Str.{chars}
use Rattle.tcl_vars.proofs.SetLemmas.{set_reads, set_cant_read, set_writes, set_cant_write, set_usage}
use Rattle.tcl_vars.proofs.setting.set_words.Goals as goal

pub returns-in_err-value-clause-ends : goal.returns-in_err-value-clause-ends
returns-in_err-value-clause-ends c =
    let p = err_from_is_err_and c.from_residual-in_err-value.result c.from_residual-in_err-value.ensures.1 in
    rw (p.1, p.2) (set_cant_read c.args.words.now c.args.frames.now _ _ c.if-words-eq1.true (ap chars c.as_str.ensures.value ∙ c.in_ok-name.ensures.text) c.in_err-value.ensures)

pub returns-then-words-eq1-clause-ends : goal.returns-then-words-eq1-clause-ends
returns-then-words-eq1-clause-ends c =
    rw c.normal.ensures (set_reads c.args.words.now c.args.frames.now _ _ c.if-words-eq1.true (ap chars c.as_str.ensures.value ∙ c.in_ok-name.ensures.text) c.in_ok-value.ensures)

pub returns-then-words-ne2-clause-ends : goal.returns-then-words-ne2-clause-ends
returns-then-words-ne2-clause-ends c = rw c.in_ok-wrong_words.ensures (set_usage c.args.words.now c.args.frames.now c.if-words-eq1.false c.if-words-ne2.true)

pub returns-in_err-assign-clause-ends : goal.returns-in_err-assign-clause-ends
returns-in_err-assign-clause-ends c =
    let p = err_from_is_err_and c.from_residual-in_err-assign.result c.from_residual-in_err-assign.ensures.1 in
    rw (p.1, p.2)
    (set_cant_write c.args.words.now c.args.frames.now _ _ _ _ _ c.if-words-ne2.false (ap chars c.as_str-2.ensures.value ∙ c.in_ok-name-2.ensures.text) (c.in_ok-copy.ensures ∙ c.in_ok-value-2.ensures ∙ ap (λ ws. get_or ws 1 c.index-words-1.result) c.text_at-2.ensures.same) c.in_err-assign.ensures.ends)

pub returns-clause-ends : goal.returns-clause-ends
returns-clause-ends c =
    rw (c.normal-2.ensures, sym c.in_ok-copy.ensures)
    (set_writes c.args.words.now c.args.frames.now _ _ _ _ c.if-words-ne2.false (ap chars c.as_str-2.ensures.value ∙ c.in_ok-name-2.ensures.text) (c.in_ok-copy.ensures ∙ c.in_ok-value-2.ensures ∙ ap (λ ws. get_or ws 1 c.index-words-1.result) c.text_at-2.ensures.same) c.in_ok-assign.ensures.ends)
