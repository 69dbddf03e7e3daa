use Rattle.std.proofs.Common.{sym, subst, ◌∙◌}
use Rattle.std.proofs.lemmas.Result.{err_from_is_err_and}
use Rattle.tcl_chars.specs.Answers.{Answers}
use Rattle.tcl_lists.proofs.SearchLemmas.{lsearch_usage, options_stop, list_stops, lsearch_is}
use Rattle.tcl_lists.proofs.search.lsearch.Goals as goal

pub returns-then-words-lt2-clause-answer : goal.returns-then-words-lt2-clause-answer
returns-then-words-lt2-clause-answer c = subst (Answers (λ v. v) c.usage.result) (sym (lsearch_usage c.args.words.now c.if-words-lt2.true)) c.usage.ensures

pub returns-in_err-options-clause-answer : goal.returns-in_err-options-clause-answer
returns-in_err-options-clause-answer c =
    let p = err_from_is_err_and c.from_residual.result c.from_residual.ensures.1 in
    rw (p.1, p.2) (options_stop c.in_err-options.field-0.0 c.args.words.now c.if-words-lt2.false c.in_err-options.ensures.options)

pub returns-in_err-row-clause-answer : goal.returns-in_err-row-clause-answer
returns-in_err-row-clause-answer c =
    let p = err_from_is_err_and c.from_residual-in_err-row.result c.from_residual-in_err-row.ensures.1 in
    rw (p.1, p.2)
    (list_stops c.in_err-row.field-0.0 c.args.words.now c.options_of.new.words c.in_ok-options.options c.if-words-lt2.false c.options_of.ensures.same c.in_ok-options.ensures.options c.in_err-row.ensures.row)

pub returns-clause-answer : goal.returns-clause-answer
returns-clause-answer c =
    lsearch_is c.args.words.now c.options_of.new.words c.row_at.new.words c.in_ok-row.row _ c.in_ok-options.options c.new-pattern.result _
    c.if-words-lt2.false c.options_of.ensures.same c.row_at.ensures.same c.in_ok-options.ensures.options c.in_ok-row.ensures.row (c.new-pattern.ensures ∙ c.in_ok-text_at.ensures.text) c.items.ensures c.in_ok-found.ensures
