-- How many turns back a code has: one for each loop that is inlined.
use Rattle.std.specs.Prelude.{ℕ, Bool, true, false, List, count_by}
use Rattle.tcl_code.specs.Instructions.{Instruction, Turn}

abbrev pub is_turn : Instruction → Bool
is_turn (Turn n) = true
is_turn _ = false

abbrev pub turns_of : List Instruction → ℕ
turns_of = count_by is_turn
