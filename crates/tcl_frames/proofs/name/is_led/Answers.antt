use Rattle.std.proofs.Common.{◌≡◌, ℕ, List, [], ◌∷◌, length, get_or, false, subst, arith}
use Rattle.std.proofs.lemmas.Bool.{eqb-false}
use Rattle.std.specs.Str.{chars}
use Rattle.tcl_chars.specs.Characters.{colon}
use Rattle.tcl_chars.specs.Place.{begins}
use Rattle.tcl_frames.proofs.NamesLemmas.{no_colon}
use Rattle.tcl_frames.proofs.name.is_led.Goals as goal

nothing_first : (bs : List ℕ) → length bs ≡ 0 → get_or bs 0 0 ≡ colon → ⊥
nothing_first [] none e = absurd (omega (arith, e))
nothing_first (b ∷ bs) none e = absurd (omega (arith, none))

pub returns-then-bytes-gt0 : goal.returns-then-bytes-gt0
returns-then-bytes-gt0 c other =
    let bs = c.as_bytes-bytes.result.now in
    subst (λ t. begins colon (chars t) ≡ false) c.as_bytes-bytes.ensures.value (no_colon bs c.as_bytes-bytes.ensures.utf8 (eqb-false _ _ other))

pub returns-else-bytes-gt0 : goal.returns-else-bytes-gt0
returns-else-bytes-gt0 c other =
    let bs = c.as_bytes-bytes.result.now in
    subst (λ t. begins colon (chars t) ≡ false) c.as_bytes-bytes.ensures.value (no_colon bs c.as_bytes-bytes.ensures.utf8 (nothing_first bs (let none = c.if-bytes-gt0.false in omega (arith, none))))
