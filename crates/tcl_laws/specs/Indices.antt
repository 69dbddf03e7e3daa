-- Indices whose numbers have any size: lindex(n); string(n), STRING INDICES. Numbers are written as in expr(n), OPERANDS.
use Rattle.std.specs.Prelude.{◌≡◌, ℕ, Bool, true, false, ◌&&◌, List, [], ◌∷◌, ◌++◌, Some, ℤ, pos, neg_ℤ, ◌↔◌}
use Rattle.tcl_chars.specs.Arith.{fits}
use Rattle.tcl_chars.specs.Classes.{is_list_space}
use Rattle.tcl_chars.specs.Index.{has_space, index_of}
use Rattle.tcl_chars.specs.Laws.{Spells}
use Rattle.tcl_chars.specs.Texts.{literal}
use Rattle.tcl_chars.specs.Whole.{magnitude}
use Rattle.tcl_chars.specs.declared.indices.Index.TheVariants as index
use Rattle.tcl_chars.specs.declared.indices.Position.{Position}
use Rattle.tcl_chars.specs.declared.numbers.Dialect.{Dialect}

-- every character is list space
abbrev pub AllSpace : List ℕ → Type 0
AllSpace [] = Unit {0}
AllSpace (c ∷ cs) = (is_list_space c ≡ true) × AllSpace cs

-- The whole number that a text writes, of any size: list space or none, a sign or none, and a number without a sign.
pub data Writes (dialect : Dialect) : List ℕ → ℤ → Type 0 where
  plain : (spaces digits : List ℕ) (n : ℕ) → AllSpace spaces → magnitude dialect digits ≡ Some n → Writes dialect (spaces ++ digits) (pos n)
  plus : (spaces digits : List ℕ) (n : ℕ) → AllSpace spaces → magnitude dialect digits ≡ Some n → Writes dialect (spaces ++ 43 ∷ digits) (pos n)
  minus : (spaces digits : List ℕ) (n : ℕ) → AllSpace spaces → magnitude dialect digits ≡ Some n → Writes dialect (spaces ++ 45 ∷ digits) (neg_ℤ (pos n))

-- `end`, or a number without white space, and which numbers stand in it
pub data SpellsBase (dialect : Dialect) : List ℕ → List ℤ → Type 0 where
  last : SpellsBase dialect (literal "end") []
  number : (cs : List ℕ) (z : ℤ) → has_space cs ≡ false → Writes dialect cs z → SpellsBase dialect cs (z ∷ [])

-- a number without a sign and without white space
pub record WritesPlain (dialect : Dialect) (cs : List ℕ) (n : ℕ) : Type 0 where
  pub solid : has_space cs ≡ false
  pub says : magnitude dialect cs ≡ Some n

-- The text spells an index, in which these numbers stand: a number, with list space round it; a base; a base, a plus and a number; a
-- base, a minus and a number.
pub data SpellsIndex (dialect : Dialect) : List ℕ → List ℤ → Type 0 where
  alone : (cs : List ℕ) (z : ℤ) → Writes dialect cs z → SpellsIndex dialect cs (z ∷ [])
  base : (cs : List ℕ) (numbers : List ℤ) → SpellsBase dialect cs numbers → SpellsIndex dialect cs numbers
  more : (b digits : List ℕ) (numbers : List ℤ) (n : ℕ) → SpellsBase dialect b numbers → WritesPlain dialect digits n → SpellsIndex dialect (b ++ 43 ∷ digits) (pos n ∷ numbers)
  less : (b digits : List ℕ) (numbers : List ℤ) (n : ℕ) → SpellsBase dialect b numbers → WritesPlain dialect digits n → SpellsIndex dialect (b ++ 45 ∷ digits) (pos n ∷ numbers)

-- 64 bits hold each number
abbrev pub all_fit : List ℤ → Bool
all_fit [] = true
all_fit (z ∷ zs) = fits z && all_fit zs

-- an index of which a number doesn't fit 64 bits
abbrev pub SpellsTooLarge : Dialect → List ℕ → Type 0
SpellsTooLarge dialect cs = (numbers : List ℤ) × SpellsIndex dialect cs numbers × (all_fit numbers ≡ false)

-- A text is read as too large an index exactly where it spells one.
abbrev pub LargeIsSpelled : Type 0
LargeIsSpelled = (dialect : Dialect) (cs : List ℕ) → (index_of dialect cs ≡ index.TooLarge) ↔ SpellsTooLarge dialect cs

-- It is read as no index exactly where it spells neither a position nor an index that is too large.
abbrev pub OtherIsNoIndex : Type 0
OtherIsNoIndex = (dialect : Dialect) (cs : List ℕ) → (index_of dialect cs ≡ index.Not) ↔ (((p : Position) → Spells dialect cs p → ⊥) × (SpellsTooLarge dialect cs → ⊥))

-- A text spells a position exactly where it spells an index whose numbers all fit.
abbrev pub PositionsFit : Type 0
PositionsFit = (dialect : Dialect) (cs : List ℕ) → ((p : Position) × Spells dialect cs p) ↔ ((numbers : List ℤ) × SpellsIndex dialect cs numbers × (all_fit numbers ≡ true))
