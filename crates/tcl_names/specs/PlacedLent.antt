-- What a map with numbered places ends as, once the loan of a value is over.
use Rattle.std.specs.Prelude.{ℕ, List, Option, None, Some}
use Rattle.std.specs.FinMap as map
use Rattle.std.specs.Borrow.{LendsIf, MutBor, Fml, RattleType}
use Rattle.tcl_names.specs.Named.{Named}
use Rattle.tcl_names.specs.contracts.placed.PlacedNames as placed_names
use Rattle.std.specs.contracts.option.Option as option

abbrev pub LendsValue : (V : RattleType) → MutBor (Option V.Denot) → Option (MutBor V.Denot) → Fml
LendsValue V s r = LendsIf (option.the_row V) V s r (λ w. Some w) None

-- the name has the last value written through r, and at `None` the map stays as it is
abbrev pub LendsAtPlaced : (V : RattleType) → MutBor (Named V.Denot) → List ℕ → Option (MutBor V.Denot) → Fml
LendsAtPlaced V s name r = LendsIf (placed_names.the_row V) V s r (λ w. map.insert s.now name w) s.now
