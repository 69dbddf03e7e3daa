use Rattle.std.proofs.Common.{[], get_or, ap, ◌∙◌}
use Rattle.std.specs.Str.{chars}
use Rattle.tcl_chars.specs.Texts.{text_of}
use Rattle.tcl_arrays.proofs.ChangeEndings.{unset_whole_does, unset_some_does, unset_usage_does}
use Rattle.tcl_arrays.proofs.changes.array_unset.Goals as goal

pub returns-then-words-eq1-clause-does : goal.returns-then-words-eq1-clause-does
returns-then-words-eq1-clause-does c =
    unset_whole_does c.args.words.now (chars c.as_str.result.now) c.args.frames.now c.drop_array.new.frames c.nothing.result c.if-words-eq1.true (ap chars c.as_str.ensures.value ∙ c.in_ok-name.ensures.text) c.drop_array.ensures c.nothing.ensures

pub returns-then-words-ne2-clause-does : goal.returns-then-words-ne2-clause-does
returns-then-words-ne2-clause-does c = unset_usage_does c.args.words.now c.args.frames.now c.wrong_words.result c.if-words-eq1.false c.if-words-ne2.true c.wrong_words.ensures

pub returns-clause-does : goal.returns-clause-does
returns-clause-does c =
    unset_some_does c.args.words.now (chars c.as_str-2.result.now) (text_of c.in_ok-pattern.pattern) c.args.frames.now c.drop_elements.new.frames c.nothing-2.result c.if-words-ne2.false (ap chars c.as_str-2.ensures.value ∙ c.in_ok-name-2.ensures.text)
    (c.in_ok-pattern.ensures.text ∙ ap (λ ws. get_or ws 1 []) c.text_at-2.ensures.same) c.in_ok-drop_elements.ensures c.nothing-2.ensures
