-- The empty text beyond the elements that are left.
use Rattle.std.proofs.Common.{◌≡◌, ℕ, ◌+◌, ◌-◌, ◌<◌, ◌≤◌, List, [], length, get_or, arith}
use Rattle.tcl_values.proofs.ElementPlaces.{text_beyond}
use Rattle.tcl_values.specs.Kept.{Kept, texts}

pub all_gone : (ks : List Kept) (gone n : ℕ) → length ks ≤ gone → get_or (texts ks) (gone + n) [] ≡ []
all_gone ks gone n h = text_beyond ks (gone + n) (omega arith)

pub past_rest : (ks : List Kept) (gone n : ℕ) → gone < length ks → length ks - gone ≤ n → get_or (texts ks) (gone + n) [] ≡ []
past_rest ks gone n g h = text_beyond ks (gone + n) (omega arith)
