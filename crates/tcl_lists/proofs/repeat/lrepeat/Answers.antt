use Rattle.std.proofs.Common.{pos, ap, sym, subst, ◌∙◌, rules, w64, FitsSigned}
use Rattle.std.proofs.lemmas.Int.{to_z-of_z}
use Rattle.std.specs.Prelude.{int_lt}
use Rattle.std.specs.Str.{chars}
use Rattle.tcl_chars.specs.Answers.{Answers}
use Rattle.tcl_chars.specs.Messages.{about}
use Rattle.tcl_chars.specs.Texts.{literal}
use Rattle.tcl_lists.proofs.WordsLemmas.{lrepeat_usage, lrepeat_negative}
use Rattle.tcl_lists.proofs.repeat.lrepeat.Goals as goal

pub returns-then-words-eq0-clause-answer : goal.returns-then-words-eq0-clause-answer
returns-then-words-eq0-clause-answer c = subst (Answers (λ v. v) c.usage.result) (sym (lrepeat_usage c.args.dialect c.args.words.now c.if-words-eq0.true)) c.usage.ensures

pub returns-then-count-lt0-clause-answer : goal.returns-then-count-lt0-clause-answer
returns-then-count-lt0-clause-answer c =
    let f : FitsSigned w64 c.in_ok-count.count = search rules in
    lrepeat_negative c.args.dialect c.args.words.now (chars c.as_str.result.now) _ c.in_ok-count.count c.if-words-eq0.false (ap chars c.as_str.ensures.value ∙ c.in_ok-text.ensures.text)
    c.in_ok-count.ensures (ap (λ z. int_lt z (pos 0)) (sym (to_z-of_z w64 c.in_ok-count.count f)) ∙ c.if-count-lt0.true)
    (c.in_ok-about.ensures ∙ ap (λ bs. about (literal "bad count") (chars bs) (literal ": must be integer >= 0")) (c.as_str-then-count-lt0.ensures.value ∙ sym c.as_str.ensures.value))
