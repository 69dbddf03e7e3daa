use Rattle.std.proofs.Common.{get_or, ap, ◌∙◌}
use Rattle.std.specs.Str.{chars}
use Rattle.tcl_arrays.proofs.ChangeEndings.{set_words, set_usage_does}
use Rattle.tcl_arrays.proofs.changes.array_set.Goals as goal

pub returns-then-words-ne2-clause-does : goal.returns-then-words-ne2-clause-does
returns-then-words-ne2-clause-does c = set_usage_does c.args.words.now c.args.frames.now c.wrong_words.result c.if-words-ne2.true c.wrong_words.ensures

pub returns-clause-does : goal.returns-clause-does
returns-clause-does c =
    set_words c.args.words.now (chars c.as_str.result.now) c.in_ok-list.list _ c.args.frames.now c.put_list-done.new.frames c.put_list-done.result c.finished.result c.if-words-ne2.false (ap chars c.as_str.ensures.value ∙ c.in_ok-name.ensures.text)
    (c.in_ok-list.ensures ∙ ap (λ ws. get_or ws 1 c.index-words-1.result) c.text_at.ensures.same) c.put_list-done.ensures c.finished.ensures
