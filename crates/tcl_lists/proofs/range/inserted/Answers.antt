use Rattle.std.proofs.Common.{refl, sym, ap, ◌∙◌, subst, length, FitsSigned, rules, List, arith}
use Rattle.std.specs.Int.{w128}
use Rattle.std.proofs.lemmas.Int.{to_z-of_z}
use Rattle.tcl_chars.specs.Answers.{Answers}
use Rattle.tcl_chars.specs.Index.{clamp}
use Rattle.tcl_lists.proofs.WordsLemmas.{linsert_usage, linsert_is, count_is}
use Rattle.tcl_list.specs.Written.{written}
use Rattle.tcl_pages.specs.Lists.{replaced}
use Rattle.tcl_pages.specs.Texts.{Text}
use Rattle.tcl_lists.proofs.range.inserted.Goals as goal

pub returns-then-words-lt2-clause-answer : goal.returns-then-words-lt2-clause-answer
returns-then-words-lt2-clause-answer c = subst (Answers (λ v. v) c.usage.result) (sym (linsert_usage c.args.dialect c.args.words.now c.if-words-lt2.true)) c.usage.ensures

pub returns-clause-answer : goal.returns-clause-answer
returns-clause-answer c =
    let f : FitsSigned w128 c.in_ok-place.place = search rules in
    linsert_is c.args.dialect c.args.words.now c.row_at.new.words c.index_at.new.words c.in_ok-row.row _ c.in_ok-place.place _ _ _
    c.if-words-lt2.false c.row_at.ensures.same c.index_at.ensures.same c.in_ok-row.ensures.row (count_is _ _ c.items-count.ensures) c.in_ok-place.ensures.index
    (c.clamp-place.ensures ∙ ap (λ z. clamp z (length c.items-count.result.now)) (to_z-of_z w128 c.in_ok-place.place f)) refl
    (c.in_ok-spliced.ensures ∙ ap (λ (new : List Text). written (replaced c.in_ok-row.row c.clamp-place.result c.clamp-place.result new)) (c.let_go.ensures.behind 2 (omega arith)))
