use Rattle.std.proofs.Common.{◌≡◌, ◌/◌, length, subst, sym, ◌∙◌}
use Rattle.std.specs.Prelude.{IfOk}
use Rattle.std.proofs.lemmas.Str.{chars-nil}
use Rattle.tcl_control.proofs.ReturnWords.{no_result, has_result}
use Rattle.tcl_control.proofs.returning.result_given.Goals as goal

pub returns-then-words-options : goal.returns-then-words-options
returns-then-words-options c =
    subst (λ t. IfOk c.of_str.result (λ value. value ≡ t)) (chars-nil ∙ sym (no_result c.args.words.now (length c.args.words.now / 2) c.if-words-options.true)) c.of_str.ensures

pub returns : goal.returns
returns c = subst (λ t. IfOk c.word_at.result (λ value. value ≡ t)) (sym (has_result c.args.words.now c.if-words-options.false)) c.word_at.ensures
