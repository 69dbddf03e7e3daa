-- A short text, kept in place.
use Rattle.std.specs.Prelude.{◌≤◌, ℕ, List, length, take}
use Rattle.std.specs.Str.{IsAscii}
use Rattle.tcl_values.specs.declared.short.Short.{Short}

abbrev pub short_text : Short → List ℕ
short_text s = take s.count s.bytes

-- characters that are ASCII, so that each of them is a byte
pub record IsShort (s : Short) : Type 0 where
  pub within : s.count ≤ length s.bytes
  pub ascii : IsAscii (short_text s)
