use Rattle.std.proofs.Common.{◌++◌, [], ◌∷◌, ap, ◌∙◌}
use Rattle.std.specs.Str.{chars}
use Rattle.std.proofs.lemmas.Str.{chars-nil}
use Rattle.std.proofs.lemmas.Result.{on_ok_weaker}
use Rattle.tcl_code.specs.Instructions.{Push}
use Rattle.tcl_compile.proofs.script.emit_char.Goals as goal

pub returns : goal.returns
returns c =
    let text = ap chars c.as_str.ensures.value ∙ c.in_ok-push.ensures.ok ∙ ap (λ b. chars b ++ c.args.c ∷ []) c.new-text.ensures.bytes ∙ ap (λ t. t ++ c.args.c ∷ []) chars-nil in
    on_ok_weaker c.push-2.result (λ h. h ∙ ap (λ t. c.args.code.now ++ Push t ∷ []) text) c.push-2.ensures.done
