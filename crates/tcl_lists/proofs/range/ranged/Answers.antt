use Rattle.std.proofs.Common.{refl, sym, ap, ◌∙◌, subst, length, pos, FitsSigned, rules}
use Rattle.std.specs.Prelude.{◌+ℤ◌}
use Rattle.std.specs.Int.{w128}
use Rattle.std.proofs.lemmas.Int.{to_z-of_z}
use Rattle.tcl_chars.specs.Answers.{Answers}
use Rattle.tcl_chars.specs.Index.{clamp}
use Rattle.tcl_lists.proofs.WordsLemmas.{lrange_usage, lrange_is, count_is}
use Rattle.tcl_lists.proofs.range.ranged.Goals as goal

pub returns-then-words-ne3-clause-answer : goal.returns-then-words-ne3-clause-answer
returns-then-words-ne3-clause-answer c = subst (Answers (λ v. v) c.usage.result) (sym (lrange_usage c.args.dialect c.args.words.now c.if-words-ne3.true)) c.usage.ensures

pub returns-clause-answer : goal.returns-clause-answer
returns-clause-answer c =
    let f : FitsSigned w128 c.in_ok-first.first = search rules in
    let g : FitsSigned w128 c.in_ok-last.last = search rules in
    lrange_is c.args.dialect c.args.words.now c.row_at.new.words c.index_at.new.words c.in_ok-row.row _ c.in_ok-first.first c.in_ok-last.last _ _ _ _
    c.if-words-ne3.false c.row_at.ensures.same c.index_at.ensures.same c.in_ok-row.ensures.row (count_is _ _ c.items-count.ensures) c.in_ok-first.ensures.index c.in_ok-last.ensures.index
    (c.clamp.ensures ∙ ap (λ z. clamp z (length c.items-count.result.now)) (to_z-of_z w128 c.in_ok-first.first f)) (c.behind.ensures ∙ ap (λ z. clamp (z +ℤ pos 1) (length c.items-count.result.now)) (to_z-of_z w128 c.in_ok-last.last g)) refl c.in_ok-part.ensures
