-- How many characters of a text begin in front of a place among its bytes.
use Rattle.std.specs.Prelude.{ℕ, suc, ◌+◌, ◌*◌, ◌≤◌, ◌<◌, ◌≡◌, Bool, List, [], ◌∷◌, length, take, cond, ◌||◌, nat_lt, slice_index}
use Rattle.std.specs.Bool.{OnTrue}
use Rattle.std.specs.Str.{chars, IsAscii, IsCharBoundary}
use Rattle.tcl_values.specs.declared.places.Places.TheInside as places

-- does a character begin with the byte
abbrev pub begins : ℕ → Bool
begins b = nat_lt b 128 || nat_lt 191 b

-- how many characters begin among the bytes
abbrev pub starts : List ℕ → ℕ
starts [] = 0
starts (b ∷ bs) = cond (begins b) (suc (starts bs)) (starts bs)

-- of the first blocks of 64 bytes, how many characters of the text begin up to the end of each
pub record AreMarks (ms bs : List ℕ) : Type 0 where
  pub within : 64 * length ms ≤ length bs
  pub counts : (k : ℕ) → k < length ms → slice_index ms k ≡ starts (take (64 * (k + 1)) bs)

-- from i on no character begins in front of j, where one begins or the text ends
pub record BeginsAt (i j : ℕ) (bs : List ℕ) : Type 0 where
  pub boundary : IsCharBoundary bs j
  pub passed : starts (take j bs) ≡ starts (take i bs)

abbrev pub placed : places.Inside → List ℕ
placed p = chars p.text.now

-- what is known of the text is so
pub record ArePlaces (p : places.Inside) : Type 0 where
  pub ascii : OnTrue p.ascii (IsAscii p.text.now)
  pub marks : AreMarks p.marks.now p.text.now
