-- Places in a text, which code counts in bytes and definitions in characters.
use Rattle.std.specs.Prelude.{◌≡◌, ℕ, ◌≤◌, ◌-◌, Bool, false, ◌==◌, List, [], ◌∷◌, ◌++◌, length, take, drop}
use Rattle.std.specs.Char.{encode_utf8, IsScalar}
use Rattle.std.specs.Str.{chars, IsCharBoundary, encode_utf8_all}

-- the first k bytes of the text bs are its first n characters
pub record IsPlace (bs : List ℕ) (k n : ℕ) : Type 0 where
  pub boundary : IsCharBoundary bs k
  pub in_text : n ≤ length (chars bs)
  pub rest : chars (drop k bs) ≡ drop n (chars bs)

-- the text bs is the character c and then the text rest
pub record IsFirst (bs : List ℕ) (c : ℕ) (rest : List ℕ) : Type 0 where
  pub in_chars : chars bs ≡ c ∷ chars rest
  pub in_bytes : bs ≡ encode_utf8 c ++ rest
  pub scalar : IsScalar c

-- the first character is c
abbrev pub begins : ℕ → List ℕ → Bool
begins c [] = false
begins c (d ∷ cs) = d == c

-- the text bs is the text front and then the character c
pub record IsLast (bs front : List ℕ) (c : ℕ) : Type 0 where
  pub in_chars : chars bs ≡ chars front ++ c ∷ []
  pub in_bytes : bs ≡ front ++ encode_utf8 c
  pub scalar : IsScalar c

-- what follows the first character
abbrev pub tail : List ℕ → List ℕ
tail [] = []
tail (c ∷ cs) = cs

-- the characters end with the rest
pub record EndsWith (cs rest : List ℕ) : Type 0 where
  pub front : List ℕ
  pub joined : cs ≡ front ++ rest

-- the characters before a rest with which they end
abbrev pub before : List ℕ → List ℕ → List ℕ
before cs rest = take (length cs - length rest) cs

-- the bytes that the characters take
abbrev pub bytes : List ℕ → ℕ
bytes cs = length (encode_utf8_all cs)

-- where a rest begins in a text of `size` bytes
unfoldable pub place : ℕ → List ℕ → ℕ
place size rest = size - bytes rest
