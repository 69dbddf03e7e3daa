-- The characters of a text literal. A definition that writes `literal "set"` (specs/Texts) where the code has "set" needs
-- none of this. Where a proof computes with the characters: `literal_chars (codes "set") refl`, or
-- `#[tactic(auto, using(tcl_chars::proofs::Literals::literal_chars))]` on the function.
use Rattle.std.proofs.Common.{◌≡◌, ℕ, List, [], ◌∷◌, Bool, true, ◌&&◌, nat_lt}
use Rattle.std.specs.Str.{chars, IsUtf8, IsAscii}
use Rattle.std.proofs.lemmas.Bool.{and_parts, ltb-true}
use Rattle.std.proofs.lemmas.Str.{chars-IsAscii, IsUtf8-from_ascii}
use Rattle.std.proofs.lemmas.Str.Ascii.{IsAscii-nil, IsAscii-cons}

abbrev pub is_ascii_text : List ℕ → Bool
is_ascii_text [] = true
is_ascii_text (c ∷ cs) = nat_lt c 128 && is_ascii_text cs

is_ascii : (cs : List ℕ) → is_ascii_text cs ≡ true → IsAscii cs
is_ascii [] h = IsAscii-nil
is_ascii (c ∷ cs) h = let p = and_parts _ _ h in IsAscii-cons c cs (ltb-true c 128 p.0) (is_ascii cs p.1)

pub literal_chars : (cs : List ℕ) → is_ascii_text cs ≡ true → chars cs ≡ cs
literal_chars cs h = chars-IsAscii cs (is_ascii cs h)

pub literal_is_utf8 : (cs : List ℕ) → is_ascii_text cs ≡ true → IsUtf8 cs
literal_is_utf8 cs h = IsUtf8-from_ascii cs (is_ascii cs h)
