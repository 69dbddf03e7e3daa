-- Texts that are known to be ASCII.
use Rattle.std.proofs.Common.{◌≡◌, Bool, true, false, ℕ, List, ◌++◌, refl, sym, subst, ap₂, ◌∙◌}
use Rattle.std.specs.Bool.{OnTrue}
use Rattle.std.specs.Str.{chars, IsAscii, IsUtf8}
use Rattle.std.proofs.lemmas.Str.{chars-IsAscii, IsAscii-append, IsUtf8-append, IsUtf8-from_ascii, chars-append}
use Rattle.tcl_chars.proofs.Same.{same_chars}

pub when_true : (b : Bool) (bs : List ℕ) → b ≡ true → OnTrue b (IsAscii bs) → IsAscii bs
when_true b bs e h = subst (λ a. OnTrue a (IsAscii bs)) e h

-- the bytes of such a text are its characters
pub bytes_of_known : (bs t : List ℕ) → IsAscii bs → chars bs ≡ t → bs ≡ t
bytes_of_known bs t h e = sym (chars-IsAscii bs h) ∙ e

-- what has the characters of two such texts is such a text
both_known : (old more new : List ℕ) → IsUtf8 new → chars new ≡ chars old ++ chars more → IsAscii old → IsAscii more → IsAscii new
both_known old more new u e h k =
    let both = IsAscii-append old more h k in
    let apart = ap₂ (λ a b. a ++ b) (chars-IsAscii old h) (chars-IsAscii more k) in
    let same = same_chars new (old ++ more) u (IsUtf8-from_ascii (old ++ more) both) (e ∙ apart ∙ sym (chars-IsAscii (old ++ more) both)) in
    subst IsAscii (sym same) both

-- of a text that stays known to be ASCII
pub known_behind : (b r : Bool) (old more new : List ℕ) → IsUtf8 new → chars new ≡ chars old ++ chars more → (r ≡ true → b ≡ true) → OnTrue r (IsAscii more) → OnTrue b (IsAscii old) → OnTrue r (IsAscii new)
known_behind b true old more new u e was k h = both_known old more new u e (when_true b old (was refl) h) k
known_behind b false old more new u e was k h = tt

-- the bytes of what is written behind a text
pub bytes_behind : (old more new : List ℕ) → IsUtf8 old → IsUtf8 more → IsUtf8 new → chars new ≡ chars old ++ chars more → new ≡ old ++ more
bytes_behind old more new u v w e = same_chars new (old ++ more) w (IsUtf8-append old more u v) (e ∙ sym (chars-append old more u))
