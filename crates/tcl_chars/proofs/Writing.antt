-- What writing at the end of a text does to its characters.
use Rattle.std.proofs.Common.{◌≡◌, ℕ, List, [], ◌∷◌, ◌++◌, sym, ◌∙◌, ap, append-nil}
use Rattle.std.specs.Str.{chars, IsUtf8}
use Rattle.std.specs.Char.{encode_utf8, IsScalar}
use Rattle.std.proofs.lemmas.Str.{chars_past_char, chars-append, chars-nil, IsUtf8-encode}

pub chars-encode : (c : ℕ) → IsScalar c → chars (encode_utf8 c) ≡ c ∷ []
chars-encode c s = chars_past_char (encode_utf8 c) [] c (IsUtf8-encode c s) (sym (append-nil (encode_utf8 c))) ∙ ap (λ t. c ∷ t) chars-nil

pub chars_push : (old new : List ℕ) (c : ℕ) → IsUtf8 old → IsScalar c → new ≡ old ++ encode_utf8 c → chars new ≡ chars old ++ c ∷ []
chars_push old new c u s e = ap chars e ∙ chars-append old (encode_utf8 c) u ∙ ap (λ t. chars old ++ t) (chars-encode c s)

pub chars_push_str : (old new more : List ℕ) → IsUtf8 old → new ≡ old ++ more → chars new ≡ chars old ++ chars more
chars_push_str old new more u e = ap chars e ∙ chars-append old more u
