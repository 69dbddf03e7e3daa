use Rattle.std.proofs.Common.{[], ◌∷◌, ◌++◌, ◌∙◌, ap, sym}
use Rattle.std.specs.Str.{chars}
use Rattle.std.proofs.lemmas.List.{append-nil}
use Rattle.tcl_code.proofs.texts.Texts.foresee.Goals as goal

pub returns-clause-done : goal.returns-clause-done
returns-clause-done c = (([], ap (λ x. x.kept) c.self.view_is ∙ sym (append-nil c.args.self.now.kept)), (chars c.args.text.now ∷ [], c.open.ensures ∙ c.in_ok-number.ensures.done ∙ ap (λ x. x.rare ++ chars c.args.text.now ∷ []) c.self.view_is))
