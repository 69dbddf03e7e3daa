-- What is known of an input whose bytes are read ahead of its characters.
use Rattle.std.specs.Prelude.{◌≡◌, ◌≢◌, ◌<◌, ◌≤◌, ◌⊎◌, ℕ, Bool, true, false, nat_lt, List, [], ◌∷◌, ◌++◌, length, take, drop, Option, Some, None, option_to_list, slice_index}
use Rattle.std.specs.Str.{encode_utf8_all}
use Rattle.bstr.specs.Utf8.{bad, decoded, lead_len, lossy_chars}
use Rattle.tcl_chan.specs.Characters.{input_chars}
use Rattle.tcl_chan.specs.Newlines.{joined_newlines}

-- more bytes stand behind the old ones, or the input has ended
pub record Grew (old new : List ℕ) (ended : Bool) : Type 0 where
  pub more : List ℕ
  pub front : new ≡ old ++ more
  pub some : ended ≡ false → 0 < length more

-- The front of an input is so many bytes: a character, or the CR of a CR LF, which gives none. It is so whatever follows.
pub record IsFront (bs : List ℕ) (whole : Bool) (char : Option ℕ) (size : ℕ) : Type 0 where
  pub some : 0 < size
  pub within : size ≤ length bs
  pub reads : (more : List ℕ) → (whole ≡ true → more ≡ []) → input_chars (bs ++ more) ≡ option_to_list char ++ input_chars (drop size bs ++ more)

-- The first character of some bytes, or that more bytes are needed to tell it. Where they are the whole input it is told.
abbrev pub Decides : List ℕ → Bool → Option (Option ℕ × ℕ) → Type 0
Decides bs whole None = whole ≡ false
Decides bs whole (Some p) = IsFront bs whole p.0 p.1

-- What follows some bytes may change their first character: they are a CR, or all of them could begin a character of several bytes.
abbrev pub MayGoOn : List ℕ → Type 0
MayGoOn bs = (bs ≡ 13 ∷ []) ⊎ ((decoded bs ≡ bad (length bs)) × (1 < lead_len (slice_index bs 0)))

-- A text of so many characters of the input, or of all where there are fewer, and how many bytes it is.
pub record TakesCount (count : ℕ) (bytes text : List ℕ) (size : ℕ) (short : Bool) : Type 0 where
  pub spells : text ≡ encode_utf8_all (take count (input_chars bytes))
  pub rest : input_chars (drop size bytes) ≡ drop count (input_chars bytes)
  pub fewer : short ≡ nat_lt (length (input_chars bytes)) count

-- no line feed stands among these
pub record OneLine (cs : List ℕ) : Type 0 where
  pub each : (k : ℕ) → k < length cs → slice_index cs k ≢ 10

-- the text of a line whose bytes these are, before its line feed
pub record IsLineOf (bytes text : List ℕ) : Type 0 where
  pub chars : List ℕ
  pub spells : text ≡ encode_utf8_all chars
  pub joined : OneLine bytes → (more : List ℕ) → joined_newlines (lossy_chars bytes ++ 10 ∷ more) ≡ chars ++ 10 ∷ joined_newlines more
  pub one : OneLine bytes → OneLine chars
