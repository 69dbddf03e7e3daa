-- The empty text, and what is behind the end of a text.
use Rattle.std.proofs.Common.{◌≡◌, ◌≤◌, ℕ, List, [], length, take, drop, ap, sym, ◌∙◌}
use Rattle.std.proofs.Math.ListN.{drop_of_length-le}
use Rattle.std.proofs.lemmas.Str.{chars-nil}
pub use Rattle.std.proofs.lemmas.Str.{chars-nil as no_chars}
use Rattle.std.specs.Str.{chars}

pub nothing_behind : (k : ℕ) (t : List ℕ) → length t ≤ k → chars [] ≡ take 1 (drop k t)
nothing_behind k t h = chars-nil ∙ sym (ap (take 1) (drop_of_length-le t h))
