-- Turns that are each read alone as before a `]` are so one after another.
use Rattle.std.proofs.Common.{◌≡◌, ℕ, zero, suc, ◌<◌, ◌≤◌, List, [], ◌∷◌, length, Option, Some, None, Result, Ok, Err, refl, sym, ap, subst, ◌∙◌, arith, inl, inr, ◌⊎◌}
use Rattle.std.specs.Prelude.{IfOk}
use Rattle.tcl_chars.specs.Reading.{◌>>=◌, Reading, with_front, after_turn, turns, all_turns}
use Rattle.tcl_chars.proofs.Turns.{Shrinks, turns_le_n, shorter}
use Rattle.tcl_words.specs.declared.fault.Syntax.{Syntax}
use Rattle.tcl_words.proofs.Bracketed.{closed_by, behind}

abbrev pub Rest : {A : Type 0} → List ℕ → A × List ℕ → Result (A × List ℕ) Syntax → Type 0
Rest y p alone = (s : List ℕ) × (p.1 ≡ closed_by s y) × (alone ≡ Ok (p.0, s))

abbrev pub Cut : {A : Type 0} → List ℕ → (List ℕ → Type 0) → Result (A × List ℕ) Syntax → Result (A × List ℕ) Syntax → Type 0
Cut y F (Ok p) alone = behind y ≤ length p.1 → F p.1 → Rest y p alone
Cut y F (Err m) alone = Unit {0}

pub cut_of : {A : Type 0} (y : List ℕ) (F : List ℕ → Type 0) (r alone : Result (A × List ℕ) Syntax) → ((p : A × List ℕ) → r ≡ Ok p → behind y ≤ length p.1 → F p.1 → Rest y p alone) → Cut y F r alone
cut_of y F (Ok p) alone h = h p refl
cut_of y F (Err m) alone h = tt

pub of_cut : {A : Type 0} (y : List ℕ) (F : List ℕ → Type 0) (r alone : Result (A × List ℕ) Syntax) (p : A × List ℕ) → Cut y F r alone → r ≡ Ok p → behind y ≤ length p.1 → F p.1 → Rest y p alone
of_cut y F r alone p h e k f = let P : Result _ Syntax → Type 0 = λ x. Cut y F x alone in (subst P e h) k f

-- a step whose answer, where the bracket's end stands behind, is the same alone
pub record Local {A : Type 0} (y : List ℕ) (F : List ℕ → Type 0) (step alone : Reading Syntax (Option A)) : Type 0 where
  pub same : (t : List ℕ) → Cut y F (step (closed_by t y)) (alone t)
  -- where a turn may not stop, none follows
  pub halts : (rest : List ℕ) → F rest ⊎ (step rest ≡ Ok (None, rest))

abbrev rest_or : {A : Type 0} → List ℕ → Result (List A × List ℕ) Syntax → List ℕ
rest_or d (Ok p) = p.1
rest_or d (Err m) = d

stopped : {A : Type 0} (step : Reading Syntax (Option A)) (n : ℕ) (rest : List ℕ) → step rest ≡ Ok (None, rest) → turns step n rest ≡ Ok ([], rest)
unfolding turns
stopped step zero rest e = refl
stopped step (suc n) rest e = rw e refl

module _ {A : Type 0} (y : List ℕ) (F : List ℕ → Type 0) (step alone : Reading Syntax (Option A)) (l : Local y F step alone) (h : Shrinks step) (k : Shrinks alone) where
  -- where a turn ended, if the rest may be the last
  was_fine : (n : ℕ) (rest : List ℕ) (p : List A × List ℕ) → turns step n rest ≡ Ok p → F p.1 → F rest
  was_fine n rest p e f = elim (l.halts rest) [
    | inl fine ↦ fine
    | inr stop ↦ let same : p.1 ≡ rest = ap (λ (q : Result (List A × List ℕ) Syntax). rest_or rest q) (sym e ∙ stopped step n rest stop) in subst F same f
  ]

  more_alone : (n m : ℕ) (t : List ℕ) → length (closed_by t y) < suc n → length t < suc m
      → ((s : List ℕ) → length (closed_by s y) < n → length s < m → Cut y F (turns step n (closed_by s y)) (turns alone m s))
      → (x : A) (rest : List ℕ) → step (closed_by t y) ≡ Ok (Some x, rest) → (q : Result (List A × List ℕ) Syntax) → turns step n rest ≡ q
      → Cut y F (with_front (x ∷ []) q) (alone t >>= λ u. after_turn (turns alone m) u.0 u.1)
  more_alone n m t a b ih x rest e (Err f) eq = tt
  more_alone n m t a b ih x rest e (Ok p) eq = λ big fine.
      let P : Result (List A × List ℕ) Syntax → Type 0 = λ r. IfOk r (λ z. length z.1 ≤ length rest) in
      let le : length p.1 ≤ length rest = subst P eq (turns_le_n step n rest h) in
      let (s, e1, e2) = of_cut y F (step (closed_by t y)) (alone t) (Some x, rest) (l.same t) e (omega arith) (was_fine n rest p eq fine) in
      let less = shorter step (closed_by t y) x rest h e in
      let less_alone = shorter alone t x s k e2 in
      let there : turns step n (closed_by s y) ≡ Ok p = ap (turns step n) (sym e1) ∙ eq in
      let (z, e3, e4) = of_cut y F (turns step n (closed_by s y)) (turns alone m s) p (ih s (omega (arith, ap length e1)) (omega arith)) there big fine in
      (z, e3, ap (λ (r : Result (Option A × List ℕ) Syntax). r >>= λ u. after_turn (turns alone m) u.0 u.1) e2 ∙ ap (with_front (x ∷ [])) e4)

  one_alone : (n m : ℕ) (t : List ℕ) → length (closed_by t y) < suc n → length t < suc m
      → ((s : List ℕ) → length (closed_by s y) < n → length s < m → Cut y F (turns step n (closed_by s y)) (turns alone m s))
      → (r : Result (Option A × List ℕ) Syntax) → step (closed_by t y) ≡ r
      → Cut y F (r >>= λ u. after_turn (turns step n) u.0 u.1) (alone t >>= λ u. after_turn (turns alone m) u.0 u.1)
  one_alone n m t a b ih (Err f) e = tt
  one_alone n m t a b ih (Ok (None, rest)) e = λ big fine.
      let (s, e1, e2) = of_cut y F (step (closed_by t y)) (alone t) (None, rest) (l.same t) e big fine in
      (s, e1, ap (λ (r : Result (Option A × List ℕ) Syntax). r >>= λ u. after_turn (turns alone m) u.0 u.1) e2)
  one_alone n m t a b ih (Ok (Some x, rest)) e = more_alone n m t a b ih x rest e (turns step n rest) refl

  turn_alone : (n m : ℕ) (t : List ℕ) → length (closed_by t y) < n → length t < m → Cut y F (turns step n (closed_by t y)) (turns alone m t)
  unfolding turns
  turn_alone zero m t a b = absurd (omega arith)
  turn_alone (suc n) zero t a b = absurd (omega arith)
  turn_alone (suc n) (suc m) t a b = one_alone n m t a b (turn_alone n m) (step (closed_by t y)) refl

  pub turns_alone : (t : List ℕ) → Cut y F (all_turns step (closed_by t y)) (all_turns alone t)
  unfolding all_turns
  turns_alone t = turn_alone (suc (length (closed_by t y))) (suc (length t)) t (omega arith) (omega arith)
