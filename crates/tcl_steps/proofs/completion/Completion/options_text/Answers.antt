use Rattle.std.proofs.Common.{◌≡◌, IfOk, ap, subst, ◌∙◌}
use Rattle.tcl_meaning.specs.Completions.{code_number, options_text}
use Rattle.tcl_meaning.specs.declared.code.Code.{Code}
use Rattle.tcl_pages.specs.Texts.{Text, count_text, number_text}
use Rattle.tcl_steps.specs.CompletionShape.{completion_of}
use Rattle.tcl_steps.proofs.OptionLemmas.{options_are}
use Rattle.tcl_steps.proofs.completion.Completion.options_text.Goals as goal

pub returns : goal.returns
returns c =
    let is =
    options_are (completion_of c.self.inside) _ _ _ _ _ _ _ _ _ _ c.new-items.ensures.items c.in_ok-push.ensures.items c.in_ok-push-2.ensures.items c.in_ok-push-3.ensures.items c.in_ok-push-4.ensures.items
    c.in_ok-add_options.ensures (c.of_text.ensures ∙ c.in_ok-message.ensures) (c.code_value.ensures ∙ ap (λ (k : Code). number_text (code_number k)) c.code.ensures) (c.of_text-2.ensures ∙ c.in_ok-message-2.ensures)
    (c.in_ok-of_count.ensures ∙ ap count_text c.level.ensures) in
    subst (λ (t : Text). IfOk c.of_list.result (λ v. v ≡ t)) (is ∙ ap options_text c.self.view_is) c.of_list.ensures
