-- Turns back that are counted.
use Rattle.std.proofs.Common.{◌≡◌, ◌+◌, ◌<◌, ◌≤◌, ℕ, List, [], ◌∷◌, ◌++◌, cond, arith}
use Rattle.std.proofs.lemmas.List.Sums.{sum_by-append}
use Rattle.tcl_code.specs.Instructions.{Instruction, Turn}
use Rattle.tcl_code.specs.Turns.{is_turn, turns_of}

pub turns_append : (a b : List Instruction) → turns_of (a ++ b) ≡ turns_of a + turns_of b
turns_append = sum_by-append (λ i. cond (is_turn i) 1 0)

pub behind_one : (i : Instruction) (c : List Instruction) → turns_of c ≤ turns_of (i ∷ c)
behind_one i c = omega (arith, turns_append (i ∷ []) c)

pub in_back : (a b : List Instruction) → turns_of b ≤ turns_of (a ++ b)
in_back a b = omega (arith, turns_append a b)

pub in_front : (a b : List Instruction) → turns_of a ≤ turns_of (a ++ b)
in_front a b = omega (arith, turns_append a b)

pub turn_counts : (n : ℕ) (c : List Instruction) → 0 < turns_of (Turn n ∷ c)
turn_counts n c = omega (arith, turns_append (Turn n ∷ []) c)
