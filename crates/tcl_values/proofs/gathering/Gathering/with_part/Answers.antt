use Rattle.std.proofs.Common.{◌≡◌, ◌∙◌, ap, take, drop, arith}
use Rattle.tcl_values.proofs.Gathered.{part_deeper, part_texts}
use Rattle.tcl_values.specs.Shape.{elements}
use Rattle.tcl_values.specs.declared.element.Items.{Items}
use Rattle.tcl_values.proofs.gathering.Gathering.with_part.Goals as goal

pub invariant_of-result : goal.invariant_of-result
invariant_of-result c =
    let deep : c.deref-2.result.now.depth ≡ c.row.inside.items.value.depth = ap (λ (r : Items). r.depth) c.deref-2.ensures in
    record {
      limit = omega (arith, c.max.ensures, c.self.invariant.limit, c.row.invariant.limit, deep);
      deeper = part_deeper c.self.inside.items.items c.between.result.now c.add_copies.new.items.items c.row.inside.items.value.items.items c.args.first c.args.last c.self.inside.depth _ _ c.in_ok-add_copies.ensures
          (c.between.ensures ∙ ap (λ (r : Items). drop c.args.first (take c.args.last (elements r))) c.deref.ensures) c.self.invariant.deeper (deep ∙ c.row.invariant.exact) c.max.ensures;
    }

pub returns : goal.returns
returns c =
    part_texts c.self.inside.items.items c.between.result.now c.add_copies.new.items.items c.row.inside.items.value.items.items c.args.first c.args.last _ _ c.in_ok-add_copies.ensures
    (c.between.ensures ∙ ap (λ (r : Items). drop c.args.first (take c.args.last (elements r))) c.deref.ensures) c.self.view_is c.row.view_is
