use Rattle.std.proofs.Common.{◌∙◌, ◌++◌, ◌∷◌, [], ap}
use Rattle.std.specs.Str.{chars}
use Rattle.std.proofs.lemmas.Str.{chars-nil}
use Rattle.tcl_chars.specs.Characters.{open_paren}
use Rattle.tcl_activation.proofs.Spelling.{spelled}
use Rattle.tcl_activation.proofs.texts.spelled_element.Goals as goal

pub returns : goal.returns
returns c =
    let named = c.in_ok-write_to.ensures.done ∙ ap (λ t. t ++ c.args.name.now) (ap chars c.new-whole.ensures.bytes ∙ chars-nil) in
    spelled _ _ _ _ _ (c.in_ok-push_text.ensures.ok ∙ ap (λ t. t ++ chars (open_paren ∷ [])) named) c.in_ok-write_to-2.ensures.done c.in_ok-push_text-2.ensures.ok
