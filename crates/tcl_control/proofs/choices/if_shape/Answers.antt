use Rattle.std.proofs.Common.{sym, ap, ◌∙◌}
use Rattle.tcl_control.specs.Choices.{with_last, with_clauses, last_of}
use Rattle.tcl_meaning.specs.Shapes.{at_condition}
use Rattle.std.specs.Prelude.{drop}
use Rattle.tcl_control.proofs.ChoiceLemmas.{shape_goes_on, shape_ends, shape_fails, shape_is_empty}
use Rattle.tcl_control.proofs.choices.if_shape.Goals as goal

pub returns-then-offset-rest : goal.returns-then-offset-rest
returns-then-offset-rest c =
    shape_fails _ c.words.clauses.items c.words.rest.now c.in_ok-offset.offset c.words.invariant c.in_ok-offset.ensures c.if-offset-rest.true

pub returns : goal.returns
returns c =
    shape_is_empty _ c.words.clauses.items c.words.rest.now c.words.invariant c.words-test.false

pub returns-then-not-on : goal.returns-then-not-on
returns-then-not-on c =
    c.with_last.ensures ∙ ap (with_last c.push.new.self.items) c.in_ok-last.ensures ∙ ap (λ z. with_last z (last_of c.words_behind-left.result.now)) c.in_ok-push.ensures.items
    ∙ sym (shape_ends _ c.words.clauses.items c.words.rest.now c.words_behind-left.result.now c.in_ok-offset.offset c.in_ok-test.test c.in_ok-body.body c.words.invariant c.in_ok-offset.ensures c.if-offset-rest.false c.in_ok-test.ensures c.in_ok-body.ensures c.words_behind-left.ensures (sym c.in_ok-on.ensures ∙ c.if-not-on.true))

pub words-preserved : goal.words-preserved
words-preserved c =
    shape_goes_on _ c.words.clauses.items c.words.rest.now c.words_behind-left.result.now c.in_ok-offset.offset c.in_ok-test.test c.in_ok-body.body c.words.invariant c.in_ok-offset.ensures c.if-offset-rest.false c.in_ok-test.ensures c.in_ok-body.ensures c.words_behind-left.ensures (sym c.in_ok-on.ensures ∙ c.if-not-on.false)
    ∙ sym (ap (λ z. with_clauses z (at_condition (drop 1 c.words_behind-left.result.now))) c.in_ok-push.ensures.items)
    ∙ sym (ap (λ z. with_clauses c.push.new.self.items (at_condition z)) c.words_behind-next.ensures)
