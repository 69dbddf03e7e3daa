-- Places in a text.
use Rattle.std.proofs.Common.{◌≡◌, ◌≤◌, ◌+◌, ℕ, List, take, drop, arith}
use Rattle.std.proofs.lemmas.List.{drop-take}
use Rattle.std.specs.Prelude.{ℤ, pos, negsuc}
use Rattle.tcl_chars.specs.Index.{clamp}

pub one_between : (t : List ℕ) (k : ℕ) → drop k (take (k + 1) t) ≡ take 1 (drop k t)
one_between t k = drop-take k 1 t

pub clamped_le : (z : ℤ) (n : ℕ) → clamp z n ≤ n
clamped_le (pos k) n = omega arith
clamped_le (negsuc k) n = omega arith
