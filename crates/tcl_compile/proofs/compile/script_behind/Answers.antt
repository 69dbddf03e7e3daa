use Rattle.std.proofs.Common.{sym, subst}
use Rattle.std.specs.Str.{chars}
use Rattle.tcl_code.specs.Means.{Means}
use Rattle.std.proofs.lemmas.Result.{IfOk-weaker}
use Rattle.tcl_compile.specs.Whiles.{HasTurns}
use Rattle.tcl_compile.proofs.Scripts.{made_code}
use Rattle.tcl_compile.proofs.Whole.{emitted_valid, emitted_means, emitted_turns}
use Rattle.tcl_compile.proofs.compile.script_behind.Goals as goal

pub finished-requires : goal.finished-requires
finished-requires c = emitted_valid c.args.dialect _ _ (chars c.args.text.now) c.requires (rw c.new.ensures.dialect at (made_code _ _ _ _ _ c.in_ok-emit_script.ensures))

pub returns-clause-means : goal.returns-clause-means
returns-clause-means c =
    let emitted = rw c.new.ensures.dialect at (made_code _ _ _ _ _ c.in_ok-emit_script.ensures) in
    IfOk-weaker c.finished.result _ _ (λ done e. subst (λ code. Means c.args.dialect code (chars c.args.text.now)) (sym e) (emitted_means c.args.dialect _ _ (chars c.args.text.now) c.requires emitted)) c.finished.ensures

pub returns-clause-turns : goal.returns-clause-turns
returns-clause-turns c = IfOk-weaker c.finished.result _ _ (λ done e. subst (HasTurns (chars c.args.text.now)) (sym e) (emitted_turns _ _ _ _ (chars c.args.text.now) c.new.ensures.outermost c.requires c.in_ok-emit_script.ensures)) c.finished.ensures
