-- How much is left of codes whose loops are open.
use Rattle.std.proofs.Common.{ℕ, zero, suc, ◌+◌, ◌-◌, ◌≤◌, ◌<◌, List, arith}
use Rattle.tcl_code.specs.Machine.{Loop}
use Rattle.tcl_vm.specs.Turns.{weight, loops_left}

weight_some : (n : ℕ) → 1 ≤ weight n
unfolding weight
weight_some zero = omega arith
weight_some (suc n) = omega arith

weight_grows : (m n : ℕ) → m ≤ n → weight m ≤ weight n
unfolding weight
weight_grows zero n h = weight_some n
weight_grows (suc m) zero h = absurd (omega arith)
weight_grows (suc m) (suc n) h = let x = weight_grows m n (omega arith) in omega arith

-- two places further on are less together
weights_less : (m n k : ℕ) → m < k → n < k → weight m + weight n < weight k
unfolding weight
weights_less m n zero h i = absurd (omega arith)
weights_less m n (suc k) h i = let x = weight_grows m k (omega arith) in let y = weight_grows n k (omega arith) in omega arith

weight_less : (m k : ℕ) → m < k → weight m < weight k
weight_less m k h = let x = weights_less m m k h h in omega arith

-- ---- in a code of so many instructions

-- further on in the same loops
pub left_ahead : (count at at' : ℕ) (os : List Loop) → at < count → at < at' → weight (count - at') + loops_left count os < weight (count - at) + loops_left count os
left_ahead count at at' os h i = let x = weight_less (count - at') (count - at) (omega arith) in omega arith

-- at the start of a body, whose loop goes on ahead
pub left_inside : (count at at' next : ℕ) (os : List Loop) → at < count → at < at' → at < next → weight (count - at') + (weight (count - next) + loops_left count os) < weight (count - at) + loops_left count os
left_inside count at at' next os h i j = let x = weights_less (count - at') (count - next) (count - at) (omega arith) (omega arith) in omega arith

-- where a loop goes on, from anywhere in its body
pub left_behind : (count at next n : ℕ) (os : List Loop) → weight (count - (next + n)) + loops_left count os < weight (count - at) + (weight (count - next) + loops_left count os)
left_behind count at next n os =
    let x = weight_some (count - at) in
    let y = weight_grows (count - (next + n)) (count - next) (omega arith) in
    omega arith
