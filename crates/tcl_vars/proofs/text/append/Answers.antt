use Rattle.std.proofs.Common.{ap, ◌∙◌, ◌++◌}
use Rattle.std.proofs.lemmas.Result.{on_ok_weaker}
use Rattle.std.specs.Str.{chars}
use Rattle.tcl_vars.proofs.JoinLemmas.{appended_one}
use Rattle.tcl_vars.proofs.text.append.Goals as goal

pub returns-then-words-eq1-clause-done : goal.returns-then-words-eq1-clause-done
returns-then-words-eq1-clause-done c =
    on_ok_weaker c.append.result
    (λ h. h ∙ ap (λ t. c.args.value.now ++ t) (c.as_str.ensures ∙ c.in_ok-text.ensures) ∙ appended_one _ c.args.value.now c.args.words.now c.if-words-eq1.true) c.append.ensures.done

pub returns-clause-done : goal.returns-clause-done
returns-clause-done c =
    on_ok_weaker c.append-2.result
    (λ h. h ∙ ap (λ t. c.args.value.now ++ t) (ap chars c.as_str-2.ensures.value ∙ c.in_ok-more.ensures)) c.append-2.ensures.done
