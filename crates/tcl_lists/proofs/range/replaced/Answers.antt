use Rattle.std.proofs.Common.{refl, sym, ap, ◌∙◌, subst, length, pos, FitsSigned, rules, List, arith}
use Rattle.std.specs.Prelude.{◌+ℤ◌}
use Rattle.std.specs.Int.{w128}
use Rattle.std.proofs.lemmas.Int.{to_z-of_z}
use Rattle.std.proofs.lemmas.Result.{err_from_is_err_and}
use Rattle.tcl_chars.specs.Answers.{Answers}
use Rattle.tcl_chars.specs.Index.{clamp}
use Rattle.tcl_lists.proofs.WordsLemmas.{lreplace_first, lreplace_usage, lreplace_is, count_is}
use Rattle.tcl_list.specs.Written.{written}
use Rattle.tcl_pages.specs.Lists.{replaced}
use Rattle.tcl_pages.specs.Texts.{Text}
use Rattle.tcl_lists.proofs.range.replaced.Goals as goal

pub returns-then-words-lt3-clause-answer : goal.returns-then-words-lt3-clause-answer
returns-then-words-lt3-clause-answer c = subst (Answers (λ v. v) c.usage.result) (sym (lreplace_usage c.args.dialect c.args.words.now c.if-words-lt3.true)) c.usage.ensures

pub returns-clause-answer : goal.returns-clause-answer
returns-clause-answer c =
    let f : FitsSigned w128 c.in_ok-first.first = search rules in
    let g : FitsSigned w128 c.in_ok-last.last = search rules in
    lreplace_is c.args.dialect c.args.words.now c.row_at.new.words c.index_at.new.words c.index_at-2.new.words c.in_ok-row.row _ c.in_ok-first.first c.in_ok-last.last _ _ _ _
    c.if-words-lt3.false c.row_at.ensures.same c.index_at.ensures.same c.index_at-2.ensures.same c.in_ok-row.ensures.row (count_is _ _ c.items-count.ensures)
    c.in_ok-first.ensures.index c.in_ok-last.ensures.index (c.clamp-begin.ensures ∙ ap (λ z. clamp z (length c.items-count.result.now)) (to_z-of_z w128 c.in_ok-first.first f)) (c.behind-end.ensures ∙ ap (λ z. clamp (z +ℤ pos 1) (length c.items-count.result.now)) (to_z-of_z w128 c.in_ok-last.last g)) refl
    (c.in_ok-spliced.ensures ∙ ap (λ (new : List Text). written (replaced c.in_ok-row.row c.clamp-begin.result c.behind-end.result new)) (c.let_go.ensures.behind 3 (omega arith)))

pub returns-in_err-first-clause-answer : goal.returns-in_err-first-clause-answer
returns-in_err-first-clause-answer c =
    let p = err_from_is_err_and c.from_residual-in_err-first.result c.from_residual-in_err-first.ensures.1 in
    rw (p.1, p.2) (lreplace_first c.args.dialect c.args.words.now c.row_at.new.words c.in_ok-row.row _ c.in_err-first.field-0.0 c.if-words-lt3.false c.row_at.ensures.same c.in_ok-row.ensures.row (count_is _ _ c.items-count.ensures) c.in_err-first.ensures.index)
