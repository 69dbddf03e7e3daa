use Rattle.std.proofs.Common.{◌≡◌, map, take}
use Rattle.std.specs.Str.{chars}
use Rattle.tcl_compile.specs.Literals.{text_of}
use Rattle.tcl_compile.proofs.literals.views.Given as goal

abbrev pub invariant-literals : goal.invariant-literals
invariant-literals l = map (λ t. chars t.now) l.texts.items ≡ map text_of (take l.literal-index l.literals)
