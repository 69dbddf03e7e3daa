-- Keys of short names.
use Rattle.std.specs.Prelude.{ℕ, Bool, false, not, cond, List, [], ◌∷◌, ◌++◌, ◌+◌, ◌*◌, ◌-◌, ◌&&◌, ◌≡◌, ◌≢◌, ◌==◌, nat_lt, length, slice_index}
use Rattle.tcl_chars.specs.Characters.{colon, close_paren}
use Rattle.tcl_chars.specs.Place.{begins}
use Rattle.tcl_names.specs.declared.key.NameKey.{NameKey}

-- has a name of these bytes a key: it has one to seven bytes, no colon leads it, and no `)` ends it
abbrev pub has_key : List ℕ → Bool
has_key bs = nat_lt 0 (length bs) && nat_lt (length bs) 8 && not (slice_index bs 0 == colon) && not (slice_index bs (length bs - 1) == close_paren)

-- the number whose digits to the base 256 are those of a number and these bytes
unfoldable pub packed : ℕ → List ℕ → ℕ
packed n [] = n
packed n (b ∷ bs) = packed (n * 256 + b) bs

-- the bytes and how many they are, in one number; 0 where there is no key
unfoldable pub key_of : List ℕ → ℕ
key_of bs = cond (has_key bs) (packed 0 bs * 8 + length bs) 0

-- the key is that of a name of these bytes
abbrev pub IsKeyOf : NameKey → List ℕ → Type 0
IsKeyOf key bs = key.number ≡ key_of bs

-- the key is none, or the name's
abbrev pub Tells : NameKey → List ℕ → Type 0
Tells key bs = key.number ≢ 0 → IsKeyOf key bs

-- no colon leads the name, and no `)` ends it
pub record IsPlain (name : List ℕ) : Type 0 where
  pub first : begins colon name ≡ false
  pub last : (front : List ℕ) → name ≡ front ++ close_paren ∷ [] → ⊥
