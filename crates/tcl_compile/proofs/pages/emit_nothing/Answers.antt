use Rattle.std.proofs.Common.{◌++◌, [], ◌∷◌, ap, ◌∙◌, append_assoc}
use Rattle.std.proofs.lemmas.Str.{chars-nil}
use Rattle.std.proofs.lemmas.Result.{on_ok_weaker}
use Rattle.tcl_code.specs.Instructions.{Push, Answer}
use Rattle.tcl_compile.proofs.pages.emit_nothing.Goals as goal

pub returns : goal.returns
returns c =
    on_ok_weaker c.emit.result
    (λ h. h ∙ ap (λ l. l ++ Answer ∷ []) c.in_ok-push.ensures.done ∙ append_assoc c.args.code.now (Push _ ∷ []) (Answer ∷ []) ∙ ap (λ t. c.args.code.now ++ Push t ∷ Answer ∷ []) chars-nil) c.emit.ensures.done
