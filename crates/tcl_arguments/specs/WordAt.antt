-- The words behind a command's name.
use Rattle.std.specs.Prelude.{ℕ, List, [], get_or}

-- the word at a place
abbrev pub word : List (List ℕ) → ℕ → List ℕ
word ws i = get_or ws i []
