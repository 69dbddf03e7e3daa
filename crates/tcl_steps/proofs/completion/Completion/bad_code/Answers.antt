use Rattle.std.proofs.Common.{ap, ◌∙◌}
use Rattle.std.proofs.lemmas.Str.{chars-nil}
use Rattle.std.specs.Str.{chars}
use Rattle.tcl_meaning.specs.Completions.{code_number}
use Rattle.tcl_steps.proofs.TopLemmas.{bad_code_said}
use Rattle.tcl_steps.proofs.completion.Completion.bad_code.Goals as goal

pub returns : goal.returns
returns c =
    c.failure.ensures
    ∙ bad_code_said (code_number c.args.code) _ _ _ _ _ (ap chars c.new-text.ensures.bytes ∙ chars-nil) c.in_ok-push_text.ensures.ok c.in_ok-push_text-2.ensures.ok (ap chars c.as_str.ensures.value ∙ c.in_ok-number.ensures.text ∙ c.code_value-number.ensures) (c.in_ok-message.ensures ∙ ap chars c.as_str-2.ensures.value)
