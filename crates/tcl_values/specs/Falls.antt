-- An element is deeper than the elements of its list.
use Rattle.std.specs.Prelude.{ℕ, ◌≤◌, ◌+◌, List, [], ◌∷◌, Option, Some, None, IfSome}
use Rattle.std.proofs.Common.{arith}
use Rattle.std.specs.declared.alloc.Global.{Global}
use Rattle.std.specs.declared.rc.Rc.{Rc}
use Rattle.tcl_values.specs.Kept.{Kept, depth_over}
use Rattle.tcl_values.specs.Shape.{entry_depth, elements, items_text, ArePairsRead, IsEntry, IsElement}
use Rattle.tcl_values.specs.declared.element.Entry.{Entry}
use Rattle.tcl_values.specs.declared.element.Entry.TheVariants.{Text, Short, Number, Row, Dict, Grown}
use Rattle.tcl_values.specs.declared.element.Element.TheInside.{Inside}
use Rattle.tcl_values.specs.declared.element.Element.TheDeep.{deep-Entry, deep-Element, deep-Pairs}
use Rattle.tcl_values.specs.declared.element.Element.TheShapes.{weighed-Items-pairs}
use Rattle.tcl_values.specs.declared.element.Pairs.{Pairs}
use denote.Param.Weighed.{most}

pub most_le : (ks : List Kept) → most (λ (k : Kept). k.depth + 1) ks ≤ depth_over ks
most_le [] = omega arith
most_le (k ∷ ks) = omega (arith, most_le ks)

pub beside_le : (o : Option (Rc Pairs Global)) (t : List ℕ) (depth : ℕ) → IfSome o (λ p. ArePairsRead p.value t) → IfSome o (λ p. p.value.depth ≤ depth) → weighed-Items-pairs.weight Pairs deep-Pairs o ≤ depth
beside_le None t depth read lower = omega arith
beside_le (Some p) t depth read lower = omega (arith, most_le p.value.values.items, read.kept.deeper, lower)

pub deep_le : (e : Entry) → IsEntry e → deep-Entry e ≤ entry_depth e
deep_le (Text s) h = omega arith
deep_le (Short s) h = omega arith
deep_le (Number n) h = omega arith
deep_le (Row r) h = omega (arith, most_le (elements r.value), h.exact, beside_le r.value.pairs (items_text r.value) r.value.depth h.beside h.lower)
deep_le (Dict r) h = omega (arith, most_le r.value.values.items, h.deeper)
deep_le (Grown s) h = omega arith

pub child_le : (a : Inside) → IsElement a → deep-Element a ≤ entry_depth a.entry
child_le a h = omega (arith, deep_le a.entry h)
