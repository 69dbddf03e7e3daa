use Rattle.std.proofs.Common.{length, take, drop, refl}
use Rattle.std.proofs.lemmas.Result.{err_from_is_err_and}
use Rattle.tcl_arguments.specs.WordAt.{word}
use Rattle.tcl_steps.proofs.SetAll.{set_one, set_stops}
use Rattle.tcl_each.proofs.TurnLemmas.{its_text}
use Rattle.tcl_each.proofs.setting.set_names.Goals as goal

pub loop-place-preserved : goal.loop-place-preserved
loop-place-preserved c =
    set_one c.args.names.now (take (length c.args.names.now) (drop c.args.gone c.args.elements.now)) c.loop-place.place (word c.args.names.now c.loop-place.place) c.in_ok-value.value _ _ _ c.loop-place-test.true refl
    (its_text c.args.elements.now (length c.args.names.now) c.args.gone c.loop-place.place c.in_ok-value.value c.loop-place-test.true c.in_ok-value.ensures) c.loop-place.invariant c.in_ok-set_name.ensures

pub returns-in_err-set_name : goal.returns-in_err-set_name
returns-in_err-set_name c =
    let p = err_from_is_err_and c.from_residual-in_err-set_name.result c.from_residual-in_err-set_name.ensures.1 in
    rw (p.1, p.2)
    (set_stops c.args.names.now (take (length c.args.names.now) (drop c.args.gone c.args.elements.now)) c.loop-place.place (word c.args.names.now c.loop-place.place) c.in_ok-value.value _ _ _ c.loop-place-test.true refl
    (its_text c.args.elements.now (length c.args.names.now) c.args.gone c.loop-place.place c.in_ok-value.value c.loop-place-test.true c.in_ok-value.ensures) _ c.loop-place.invariant c.in_err-set_name.ensures)
