use Rattle.std.proofs.Common.{sym, subst}
use Rattle.std.specs.Str.{chars}
use Rattle.std.proofs.lemmas.Result.{IfOk-weaker}
use Rattle.tcl_code.specs.Means.{MeansExpr}
use Rattle.tcl_compile.proofs.Expressions.{emitted_expression}
use Rattle.tcl_compile.proofs.compile.compile_expr.Goals as goal

pub finished-requires : goal.finished-requires
finished-requires c = (emitted_expression c.args.dialect _ _ _ (chars c.args.text.now) c.new-code.ensures (rw c.new.ensures.dialect at c.in_ok-emit_expression.ensures) c.in_ok-emit.ensures.done).valid

pub returns : goal.returns
returns c =
    let emitted = emitted_expression c.args.dialect _ _ _ (chars c.args.text.now) c.new-code.ensures (rw c.new.ensures.dialect at c.in_ok-emit_expression.ensures) c.in_ok-emit.ensures.done in
    IfOk-weaker c.finished.result _ _ (λ done e. subst (λ code. MeansExpr c.args.dialect code (chars c.args.text.now)) (sym e) emitted) c.finished.ensures
