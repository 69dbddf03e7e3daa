use Rattle.std.proofs.Common.{ap₂, ◌∙◌, arith}
use Rattle.tcl_chars.specs.Place.{before}
use Rattle.tcl_values.proofs.Beginnings.{ascii_part, ends_both, rest_of, part_is, nothing_between}
use Rattle.tcl_values.proofs.Growth.{when_true}
use Rattle.tcl_values.proofs.places.Places.part.Goals as goal

pub returns-then-behind-first : goal.returns-then-behind-first
returns-then-behind-first c = nothing_between c.args.self.now c.args.first c.args.behind c.if-behind-first.true

pub returns-then-behind-self : goal.returns-then-behind-self
returns-then-behind-self c =
    ascii_part c.self.inside.text.now c.args.self.now c.range.result.now c.args.first c.args.behind (when_true _ _ c.if-self.true c.self.invariant.ascii) c.self.view_is c.range.ensures.value
    (omega (arith, c.if-behind-first.false))

pub before-requires : goal.before-requires
before-requires c = ends_both _ _ _ _ c.rest.ensures c.rest-2.ensures (rest_of c.args.self.now c.args.first c.args.behind (omega (arith, c.if-behind-first.false)))

pub returns : goal.returns
returns c = c.before-2.ensures ∙ ap₂ before c.rest.ensures c.rest-2.ensures ∙ part_is c.args.self.now c.args.first c.args.behind (omega (arith, c.if-behind-first.false))
