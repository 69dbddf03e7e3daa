-- List space is taken off from the back, a character at a time.
use Rattle.std.proofs.Common.{◌≡◌, ℕ, List, [], ◌∷◌, ◌++◌, true, false, cond, ◌==◌, length, sym, ap, ◌∙◌, refl, arith}
use Rattle.std.proofs.lemmas.Bool.{ne_eqb}
use Rattle.tcl_chars.specs.Classes.{is_list_space}
use Rattle.tcl_chars.specs.Whole.{skip_space, is_only_space, trim_end}

something : (c : ℕ) (cs : List ℕ) → (length (c ∷ cs) == 0) ≡ false
something c cs = ne_eqb (length (c ∷ cs)) 0 (λ e. omega (arith, e))

space_last : (cs : List ℕ) (c : ℕ) → is_list_space c ≡ true → is_only_space (cs ++ c ∷ []) ≡ is_only_space cs
space_last [] c h = rw h refl
space_last (d ∷ cs) c h =
    elim (is_list_space d) as (λ b. (length (cond b (skip_space (cs ++ c ∷ [])) (d ∷ (cs ++ c ∷ []))) == 0) ≡ (length (cond b (skip_space cs) (d ∷ cs)) == 0)) [
      | true ↦ space_last cs c h
      | false ↦ something d (cs ++ c ∷ []) ∙ (rw (something d cs) refl)
    ]

other_last : (cs : List ℕ) (c : ℕ) → is_list_space c ≡ false → is_only_space (cs ++ c ∷ []) ≡ false
other_last [] c h = rw h (something c [])
other_last (d ∷ cs) c h =
    elim (is_list_space d) as (λ b. (length (cond b (skip_space (cs ++ c ∷ [])) (d ∷ (cs ++ c ∷ []))) == 0) ≡ false) [
      | true ↦ other_last cs c h
      | false ↦ something d (cs ++ c ∷ [])
    ]

pub trims : (cs : List ℕ) (c : ℕ) → is_list_space c ≡ true → trim_end (cs ++ c ∷ []) ≡ trim_end cs
trims [] c h = rw h refl
trims (d ∷ cs) c h = rw (space_last (d ∷ cs) c h, trims cs c h) refl

pub keeps : (cs : List ℕ) (c : ℕ) → is_list_space c ≡ false → trim_end (cs ++ c ∷ []) ≡ cs ++ c ∷ []
keeps [] c h = rw (other_last [] c h) refl
keeps (d ∷ cs) c h = rw (other_last (d ∷ cs) c h, keeps cs c h) refl

-- the same of a text that is known by its characters
pub trims_at : (text rest : List ℕ) (c : ℕ) → text ≡ rest ++ c ∷ [] → true ≡ is_list_space c → trim_end rest ≡ trim_end text
trims_at text rest c e h = sym (ap trim_end e ∙ trims rest c (sym h))

pub keeps_at : (text rest : List ℕ) (c : ℕ) → text ≡ rest ++ c ∷ [] → false ≡ is_list_space c → trim_end text ≡ text
keeps_at text rest c e h = ap trim_end e ∙ keeps rest c (sym h) ∙ sym e
