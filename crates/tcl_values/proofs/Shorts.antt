-- Short texts.
use Rattle.std.proofs.Common.{◌≡◌, ◌++◌, ◌∙◌, ℕ, List, [], length, append-nil, ap, refl, sym, subst}
use Rattle.std.proofs.lemmas.List.{drop_at}
use Rattle.std.proofs.lemmas.Str.{chars-IsAscii, IsAscii-drop}
use Rattle.std.specs.Str.{chars, IsAscii}

-- ASCII characters that were put behind others, one by one
pub put_behind : (front more whole rest : List ℕ) → rest ≡ [] → whole ++ rest ≡ front ++ more → IsAscii whole → whole ≡ front ++ chars more
put_behind front more whole rest none e h =
    let same : whole ≡ front ++ more = sym (append-nil whole) ∙ ap (λ t. whole ++ t) (sym none) ∙ e in
    let known : IsAscii more = subst IsAscii (drop_at front more (length front) refl) (IsAscii-drop (front ++ more) (length front) (subst IsAscii same h)) in
    same ∙ ap (λ t. front ++ t) (sym (chars-IsAscii more known))
