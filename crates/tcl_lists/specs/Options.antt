-- The options in front of a command's other words: lsearch(n), lsort(n).
use Rattle.std.specs.Prelude.{ℕ, List, [], ◌∷◌, Ok}
use Rattle.tcl_pages.specs.Answers.{Answer, ◌>>=◌}

-- options, with these words behind them
abbrev pub with_options : {O : Type 0} → (O → List ℕ → Answer O) → O → List (List ℕ) → Answer O
with_options more o [] = Ok o
with_options more o (t ∷ ts) = do
  next ← more o t
  with_options more next ts
