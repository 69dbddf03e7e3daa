use Rattle.std.proofs.Common.{◌≡◌, take, map as each}
use Rattle.std.specs.Str.{chars}
use Rattle.tcl_interp.proofs.arguments.list_of.Given as goal

abbrev pub invariant-loop-text : goal.invariant-loop-text
invariant-loop-text l = l.items.items ≡ each (λ text. chars text.now) (take l.text-index l.texts)
