use Rattle.std.proofs.Common.{◌≤◌, ◌+◌, Err, length, ap, sym, ◌∙◌, arith}
use Rattle.std.specs.Str.{chars}
use Rattle.tcl_pages.specs.DictPages.{pairs_or}
use Rattle.tcl_dicts.proofs.DictWords.{pairs_odd}
use Rattle.tcl_dicts.proofs.words.pairs_behind.Goals as goal

pub returns-then-place-words : goal.returns-then-place-words
returns-then-place-words c =
    let m : length c.args.words.now ≤ c.loop-place.place + 1 = omega (arith, c.loop-place-test.false) in
    ap (pairs_or (chars c.args.form.now)) (sym c.loop-place.invariant.rest ∙ pairs_odd _ c.args.words.now c.loop-place.place c.if-place-words.true m) ∙ ap Err (sym c.in_ok-usage.ensures)
