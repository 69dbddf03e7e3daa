-- Where a byte stands, found in pieces.
use Rattle.std.proofs.Common.{◌≡◌, ℕ, ◌+◌, ◌-◌, ◌<◌, ◌≤◌, Bool, List, take, drop, length, length-append, length-drop, slice_index, sym, ap, subst, ◌∙◌, arith, get_or-drop, ⊎_elim}
use Rattle.std.proofs.lemmas.Bool.{cases_lt}
use Rattle.std.proofs.lemmas.List.{take_all, get_or_append_left}
use Rattle.memchr.specs.Find.{Nowhere, NoneBefore, Passes}
use Rattle.tcl_chan.specs.Ahead.{Grew}

module _ (test : ℕ → Bool) (held : List ℕ) (searched : ℕ) where
  -- nowhere in the front, nor in a part of the rest
  nowhere_both : (n : ℕ) → Nowhere (Passes test held) 0 searched → Nowhere (Passes test (drop searched held)) 0 n → Nowhere (Passes test held) 0 (searched + n)
  nowhere_both n front rest = λ k low below is. ⊎_elim
      (λ (l : k < searched). front k low l is)
      (λ (r : searched ≤ k).
      let at : slice_index (drop searched held) (k - searched) ≡ slice_index held k =
      get_or-drop searched held (k - searched) 0 ∙ ap (λ i. slice_index held i) (omega arith) in
      rest (k - searched) (omega arith) (omega arith) (ap test at ∙ is))
      (cases_lt k searched)

  rest_is : take (length held - searched) (drop searched held) ≡ drop searched held
  rest_is = take_all (length held - searched) (drop searched held) (omega (arith, length-drop searched held))

  -- found in the rest
  pub found_at : (bytes rest : List ℕ) (place : ℕ) → bytes ≡ held → rest ≡ take (length bytes - searched) (drop searched bytes) → searched ≤ length held → Nowhere (Passes test held) 0 searched
      → NoneBefore (Passes test rest) 0 (length rest) place × Passes test rest place
      → NoneBefore (Passes test held) 0 (length held) (searched + place) × Passes test held (searched + place)
  found_at bytes rest place same is within front found =
      let rest_held : rest ≡ drop searched held = is ∙ ap (λ l. take (length l - searched) (drop searched l)) same ∙ rest_is in
      let later = subst (λ l. NoneBefore (Passes test l) 0 (length l) place × Passes test l place) rest_held found in
      let high = later.0.high in (
        record {
          low = omega arith;
          high = omega (arith, length-drop searched held);
          before = nowhere_both place front later.0.before;
        },
        ap test (sym (get_or-drop searched held place 0)) ∙ later.1,
      )

  -- nowhere in the rest either
  pub found_none : (bytes rest : List ℕ) → bytes ≡ held → rest ≡ take (length bytes - searched) (drop searched bytes) → searched ≤ length held → Nowhere (Passes test held) 0 searched
      → Nowhere (Passes test rest) 0 (length rest) → Nowhere (Passes test held) 0 (length held)
  found_none bytes rest same is within front none =
      let rest_held : rest ≡ drop searched held = is ∙ ap (λ l. take (length l - searched) (drop searched l)) same ∙ rest_is in
      let later = subst (λ l. Nowhere (Passes test l) 0 (length l)) rest_held none in
      λ k low below is. nowhere_both (length (drop searched held)) front later k low (omega (arith, length-drop searched held)) is

-- and nowhere in the same bytes once more stand behind them
pub nowhere_grown : (test : ℕ → Bool) (held now : List ℕ) (ended : Bool) → Grew held now ended → Nowhere (Passes test held) 0 (length held) → Nowhere (Passes test now) 0 (length held)
nowhere_grown test held now ended grew none = λ k low below is.
    none k low below (ap test (sym (get_or_append_left held grew.more 0 k below) ∙ ap (λ l. slice_index l k) (sym grew.front)) ∙ is)

pub grown_length : (held now : List ℕ) (ended : Bool) → Grew held now ended → length held ≤ length now
grown_length held now ended grew = omega (arith, length-append held grew.more, ap length grew.front)
