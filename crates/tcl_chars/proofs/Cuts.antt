-- Where a text is cut before a rest with which it ends.
use Rattle.std.proofs.Common.{◌≡◌, ℕ, ◌+◌, ◌-◌, ◌≤◌, List, ◌++◌, length, take, sym, ◌∙◌, ap, subst, arith, length-append}
use Rattle.std.specs.Str.{chars, IsUtf8, IsCharBoundary, encode_utf8_all}
use Rattle.std.proofs.lemmas.List.{take_at}
use Rattle.std.proofs.lemmas.Str.{encodes-chars, encodes-append, chars-append, IsCharBoundary-at_seam, IsUtf8-take}
use Rattle.tcl_chars.specs.Place.{EndsWith, before}

front_bytes : (bs rs : List ℕ) (e : EndsWith (chars bs) (chars rs)) → IsUtf8 bs → IsUtf8 rs → bs ≡ encode_utf8_all e.front ++ rs
front_bytes bs rs e u v = sym (encodes-chars bs u) ∙ ap encode_utf8_all e.joined ∙ encodes-append e.front (chars rs) ∙ ap (λ t. encode_utf8_all e.front ++ t) (encodes-chars rs v)

-- the bytes before the rest
front_size : (bs rs : List ℕ) (e : EndsWith (chars bs) (chars rs)) → IsUtf8 bs → IsUtf8 rs → length bs ≡ length (encode_utf8_all e.front) + length rs
front_size bs rs e u v = ap length (front_bytes bs rs e u v) ∙ length-append (encode_utf8_all e.front) rs

pub rest_le : (bs rs : List ℕ) → EndsWith (chars bs) (chars rs) → IsUtf8 bs → IsUtf8 rs → length rs ≤ length bs
rest_le bs rs e u v = omega (arith, front_size bs rs e u v)

pub rest_boundary : (bs rs : List ℕ) → EndsWith (chars bs) (chars rs) → IsUtf8 bs → IsUtf8 rs → IsCharBoundary bs (length bs - length rs)
rest_boundary bs rs e u v =
    let k : length (encode_utf8_all e.front) ≡ length bs - length rs = omega (arith, front_size bs rs e u v) in
    subst (IsCharBoundary bs) k (IsCharBoundary-at_seam bs (encode_utf8_all e.front) rs (front_bytes bs rs e u v) v)

pub chars-before : (bs rs : List ℕ) → EndsWith (chars bs) (chars rs) → IsUtf8 bs → IsUtf8 rs → chars (take (length bs - length rs) bs) ≡ before (chars bs) (chars rs)
chars-before bs rs e u v =
    let fs = encode_utf8_all e.front in
    let w = front_bytes bs rs e u v in
    let k : length fs ≡ length bs - length rs = omega (arith, front_size bs rs e u v) in
    let t : take (length bs - length rs) bs ≡ fs = ap (λ x. take (length bs - length rs) x) w ∙ take_at fs rs (length bs - length rs) k in
    let f : IsUtf8 fs = subst IsUtf8 t (IsUtf8-take bs (length bs - length rs) u (rest_boundary bs rs e u v)) in
    let c : chars bs ≡ chars fs ++ chars rs = ap chars w ∙ chars-append fs rs f in
    let l : length (chars fs) ≡ length (chars bs) - length (chars rs) = omega (arith, ap length c, length-append (chars fs) (chars rs)) in
    ap chars t ∙ sym (ap (λ x. take (length (chars bs) - length (chars rs)) x) c ∙ take_at (chars fs) (chars rs) (length (chars bs) - length (chars rs)) l)
