-- Skips whose ends come later, and two ways that come together.
use Rattle.std.proofs.Common.{◌≡◌, ℕ, ◌+◌, ◌<◌, [], ◌∷◌, ◌++◌, length, Some, refl, sym, ap, ◌∙◌, subst, arith, append_assoc, length-append}
use Rattle.std.specs.Prelude.{◌-◌, MatchOption, slice_get, slice_set}
use Rattle.std.proofs.lemmas.Option.{slice_get-get_or}
use Rattle.std.proofs.Math.Seq.{get_or-append_seam, set-append_seam}
use Rattle.tcl_code.specs.Instructions.{Instruction, Skip}
use Rattle.tcl_code.specs.Build.{with_count}
use Rattle.tcl_compile.proofs.Emits.{Code}
use Rattle.tcl_compile.proofs.Guarded.{fork}

-- an instruction, a part behind it, and more of that
pub record Behind (i : Instruction) (old back new : Code) : Type 0 where
  pub is : new ≡ old ++ i ∷ back

pub behind : (c : Code) {i : Instruction} {m0 m1 m2 : Code} → m1 ≡ m0 ++ i ∷ [] → m2 ≡ m1 ++ c → Behind i m0 c m2
behind c {i} {m0} {m1} {m2} e f = record { is = f ∙ ap (λ l. l ++ c) e ∙ append_assoc m0 (i ∷ []) c }

pub more_behind : (c : Code) {i : Instruction} {m0 b m1 m2 : Code} → Behind i m0 b m1 → m2 ≡ m1 ++ c → Behind i m0 (b ++ c) m2
more_behind c {i} {m0} {b} {m1} {m2} a f = record { is = f ∙ ap (λ l. l ++ c) a.is ∙ append_assoc m0 (i ∷ b) c }

-- what setting a skip's end does, wherever the skip stands
abbrev pub LedHere : ℕ → Code → Code → Type 0
LedHere place old new = (front back : Code) (i : Instruction) → old ≡ front ++ i ∷ back → place ≡ length front → new ≡ front ++ with_count (length back) i ∷ back

-- a skip that is led here
pub led : (old new : Code) (place count : ℕ) → MatchOption (slice_get old place) (new ≡ old) (λ i. new ≡ slice_set old place (with_count count i)) → count ≡ length old - place - 1 → LedHere place old new
led old new place count h e front back i f p =
    let within : length front < length (front ++ i ∷ back) = omega (arith, length-append front (i ∷ back)) in
    let here : slice_get old place ≡ Some i = ap (slice_get old) p ∙ ap (λ (l : Code). slice_get l (length front)) f ∙ slice_get-get_or (front ++ i ∷ back) (length front) i within ∙ ap Some (get_or-append_seam front i back i) in
    let done : new ≡ slice_set old place (with_count count i) = subst (λ o. MatchOption o (new ≡ old) (λ j. new ≡ slice_set old place (with_count count j))) here h in
    let size : count ≡ length back = omega (arith, e, p, ap length f, length-append front (i ∷ back)) in
    done ∙ ap (λ (l : Code). slice_set l place (with_count count i)) f ∙ ap (λ k. slice_set (front ++ i ∷ back) k (with_count count i)) p ∙ set-append_seam front i back (with_count count i) ∙ ap (λ k. front ++ with_count k i ∷ back) size

-- an instruction past a part and a skip, which leads past another part
pub forked : (i : Instruction) (c g m0 m1 m2 m3 m4 m5 m6 : Code) → m1 ≡ m0 ++ i ∷ [] → m2 ≡ m1 ++ c → m3 ≡ m2 ++ Skip 0 ∷ [] → LedHere (length m0) m3 m4 → m5 ≡ m4 ++ g → LedHere (length m2) m5 m6 → m6 ≡ m0 ++ fork (with_count (length c + 1) i) c g
forked i c g m0 m1 m2 m3 m4 m5 m6 h x k l y n =
    let first : Behind i m0 (c ++ Skip 0 ∷ []) m3 = more_behind (Skip 0 ∷ []) (behind c {i = i} {m0 = m0} h x) k in
    let count : length (c ++ Skip 0 ∷ []) ≡ length c + 1 = omega (arith, length-append c (Skip 0 ∷ [])) in
    let j = with_count (length c + 1) i in
    let m4_is : m4 ≡ m0 ++ j ∷ (c ++ Skip 0 ∷ []) = l m0 (c ++ Skip 0 ∷ []) i first.is refl ∙ ap (λ n. m0 ++ with_count n i ∷ (c ++ Skip 0 ∷ [])) count in
    let front = m0 ++ j ∷ c in
    let m4_front : m4 ≡ front ++ Skip 0 ∷ [] = m4_is ∙ sym (append_assoc m0 (j ∷ c) (Skip 0 ∷ [])) in
    let second : Behind (Skip 0) front g m5 = behind g {i = Skip 0} {m0 = front} m4_front y in
    let m2_is : m2 ≡ m0 ++ i ∷ c = (behind c {i = i} {m0 = m0} h x).is in
    let size : length m2 ≡ length front = ap length m2_is ∙ length-append m0 (i ∷ c) ∙ sym (length-append m0 (j ∷ c)) in
    n front g (Skip 0) second.is size ∙ append_assoc m0 (j ∷ c) (Skip (length g) ∷ g)
