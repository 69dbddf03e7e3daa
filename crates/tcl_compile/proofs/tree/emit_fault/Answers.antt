use Rattle.std.proofs.Common.{◌++◌, [], ◌∷◌, ap, ◌∙◌}
use Rattle.std.specs.Str.{chars}
use Rattle.std.proofs.lemmas.Result.{on_ok_weaker}
use Rattle.tcl_code.specs.Instructions.{Raise}
use Rattle.tcl_compile.proofs.tree.emit_fault.Goals as goal

pub returns : goal.returns
returns c = on_ok_weaker c.raise.result (λ h. h ∙ ap (λ t. c.args.code.now ++ Raise t ∷ []) (ap chars c.as_str.ensures.value ∙ c.in_ok-message.ensures)) c.raise.ensures.done
