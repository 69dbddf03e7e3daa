-- Instructions at the front of a code that are valid by themselves.
use Rattle.std.specs.Prelude.{ℕ, ◌≤◌, List, length, take}
use Rattle.tcl_code.specs.Instructions.{Instruction}
use Rattle.tcl_code.specs.Valid.{Covers, Shape, Valid}

-- so many at the front are a code of their own, and no way through it goes beyond this shape
pub record IsFront (code : List Instruction) (count : ℕ) (top : Shape) : Type 0 where
  pub long : count ≤ length code
  pub valid : Valid (take count code)
  pub covers : Covers (take count code) top
