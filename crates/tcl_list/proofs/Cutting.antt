-- A text that more was written to, cut back.
use Rattle.std.proofs.Common.{◌≡◌, ℕ, true, List, [], ◌∷◌, ◌++◌, length, take, sym, ap, ◌∙◌, refl}
use Rattle.std.specs.Str.{chars, IsUtf8, all_scalars, IsCharBoundary, encode_utf8_all}
use Rattle.std.proofs.lemmas.Bool.{and_parts}
use Rattle.std.proofs.lemmas.List.{take_at}
use Rattle.std.proofs.lemmas.Str.{encodes-chars, encodes-append, scalars-chars, IsCharBoundary-at_seam}
use Rattle.tcl_list.specs.Texts.{Extends}

scalars_behind : (xs ys : List ℕ) → all_scalars (xs ++ ys) ≡ true → all_scalars ys ≡ true
scalars_behind [] ys h = h
scalars_behind (x ∷ xs) ys h = scalars_behind xs ys (and_parts _ _ h).1

bytes_behind : (old new : List ℕ) (x : Extends (chars old) (chars new)) → IsUtf8 old → IsUtf8 new → new ≡ old ++ encode_utf8_all x.more
bytes_behind old new x u v =
    sym (encodes-chars new v) ∙ ap encode_utf8_all x.joined ∙ encodes-append (chars old) x.more ∙ ap (λ t. t ++ encode_utf8_all x.more) (encodes-chars old u)

pub old_end : (old new : List ℕ) → Extends (chars old) (chars new) → IsUtf8 old → IsUtf8 new → IsCharBoundary new (length old)
old_end old new x u v =
    let s : all_scalars x.more ≡ true = scalars_behind (chars old) x.more (sym (ap all_scalars x.joined) ∙ scalars-chars new v) in
    IsCharBoundary-at_seam new old (encode_utf8_all x.more) (bytes_behind old new x u v) (x.more, (s, refl))

pub cut_back : (old new : List ℕ) → Extends (chars old) (chars new) → IsUtf8 old → IsUtf8 new → take (length old) new ≡ old
cut_back old new x u v = ap (λ t. take (length old) t) (bytes_behind old new x u v) ∙ take_at old (encode_utf8_all x.more) (length old) refl
