use Rattle.std.proofs.Common.{◌≡◌, IfSome, refl, subst}
use Rattle.tcl_values.specs.declared.element.Pairs.{Pairs}
use Rattle.tcl_values.proofs.ReadInside.{value_read}
use Rattle.tcl_values.proofs.inner.read_value.Goals as goal

pub returns-in-Some-clause-text : goal.returns-in-Some-clause-text
returns-in-Some-clause-text c =
    let new : Pairs = record { text = c.args.own.now.text; depth = c.max-own.result; keys = c.args.own.now.keys; values = c.put.new.elements; has_lists = c.args.own.now.has_lists } in
    (value_read c.args.own.now new c.args.place c.in-Some.element c.index.result.now c.put.result c.requires.kept c.index.ensures c.put.ensures.before c.put.ensures.put
    (subst (λ o. IfSome o (λ e. e.text ≡ c.index.result.now.text)) c.in-Some.is c.in_ok-element.ensures.text) (subst (λ o. IfSome o (λ e. e.depth ≡ 1)) c.in-Some.is c.in_ok-element.ensures.depth)
    c.max-own.ensures refl refl).0

pub returns-in-Some-clause-kept : goal.returns-in-Some-clause-kept
returns-in-Some-clause-kept c =
    let new : Pairs = record { text = c.args.own.now.text; depth = c.max-own.result; keys = c.args.own.now.keys; values = c.put.new.elements; has_lists = c.args.own.now.has_lists } in
    (value_read c.args.own.now new c.args.place c.in-Some.element c.index.result.now c.put.result c.requires.kept c.index.ensures c.put.ensures.before c.put.ensures.put
    (subst (λ o. IfSome o (λ e. e.text ≡ c.index.result.now.text)) c.in-Some.is c.in_ok-element.ensures.text) (subst (λ o. IfSome o (λ e. e.depth ≡ 1)) c.in-Some.is c.in_ok-element.ensures.depth)
    c.max-own.ensures refl refl).1
