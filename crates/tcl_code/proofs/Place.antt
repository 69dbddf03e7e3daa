-- Where instructions stand.
use Rattle.std.proofs.Common.{◌≡◌, ℕ, ◌+◌, ◌<◌, List, [], ◌∷◌, ◌++◌, length, Some, ap, ◌∙◌, subst, arith, append_assoc, length-append}
use Rattle.std.proofs.Math.Seq.{get_or-append_seam}
use Rattle.std.proofs.lemmas.Option.{slice_get-get_or}
use Rattle.tcl_code.specs.Instructions.{Instruction}
use Rattle.tcl_code.specs.Parts.{HasAt}

pub has_front : (code : List Instruction) (at : ℕ) (a b : List Instruction) → HasAt code at (a ++ b) → HasAt code at a
has_front code at [] b h = tt
has_front code at (i ∷ a) b h = (h.0, has_front code (at + 1) a b h.1)

pub has_back : (code : List Instruction) (at : ℕ) (a b : List Instruction) → HasAt code at (a ++ b) → HasAt code (at + length a) b
has_back code at [] b h = let e : at ≡ at + 0 = omega arith in subst (λ n. HasAt code n b) e h
has_back code at (i ∷ a) b h =
    let e : at + 1 + length a ≡ at + length (i ∷ a) = omega arith in
    subst (λ n. HasAt code n b) e (has_back code (at + 1) a b h.1)

pub has_all : (is pre : List Instruction) → HasAt (pre ++ is) (length pre) is
has_all [] pre = tt
has_all (i ∷ is) pre =
    let within : length pre < length (pre ++ i ∷ is) = omega (arith, length-append pre (i ∷ is)) in
    let here = slice_get-get_or (pre ++ i ∷ is) (length pre) i within ∙ ap Some (get_or-append_seam pre i is i) in
    let n : length (pre ++ i ∷ []) ≡ length pre + 1 = omega (arith, length-append pre (i ∷ [])) in
    let rest = has_all is (pre ++ i ∷ []) in
    let rest' = subst (λ l. HasAt l (length (pre ++ i ∷ [])) is) (append_assoc pre (i ∷ []) is) rest in
    (here, subst (λ m. HasAt (pre ++ i ∷ is) m is) n rest')
