-- Keys and values in turn, a pair at a time.
use Rattle.std.proofs.Common.{◌≡◌, ℕ, suc, ◌==◌, Bool, true, false, cond, List, [], ◌∷◌, length, Ok, Err, ap, ◌∙◌, refl, arith}
use Rattle.std.specs.Prelude.{◌%◌}
use Rattle.tcl_pages.specs.Answers.{Answer, ◌>>=◌}
use Rattle.tcl_pages.specs.Dictionaries.{Pairs, pairs, pairs_else}
use Rattle.tcl_pages.specs.Texts.{Text}

abbrev pub with_pair : Text → Text → Answer Pairs → Answer Pairs
with_pair key value ps = ps >>= λ more. Ok ((key, value) ∷ more)

two_more : (n : ℕ) → suc (suc n) % 2 ≡ n % 2
two_more n = omega arith

pub pair_ahead : (unpaired key value : Text) (ts : List Text) → pairs_else unpaired (key ∷ value ∷ ts) ≡ with_pair key value (pairs_else unpaired ts)
pair_ahead unpaired key value ts = ap (λ n. cond (n == 0) (Ok ((key, value) ∷ pairs ts)) (Err unpaired)) (two_more (length ts)) ∙ by_parity (length ts % 2 == 0)
  where
    by_parity : (b : Bool) → ◌≡◌ {A = Answer Pairs} (cond b (Ok ((key, value) ∷ pairs ts)) (Err unpaired)) (with_pair key value (cond b (Ok (pairs ts)) (Err unpaired)))
    by_parity true = refl
    by_parity false = refl
