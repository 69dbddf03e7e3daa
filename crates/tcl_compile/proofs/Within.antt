-- The scripts in brackets are shorter than the text that they stand in.
use Rattle.std.proofs.Common.{◌≡◌, ℕ, suc, ◌-◌, ◌<◌, ◌≤◌, false, List, length, get_or, Option, Some, None, Result, Ok, Err, subst, arith}
use Rattle.std.specs.Prelude.{IfOk}
use Rattle.tcl_chars.specs.Place.{bytes}
use Rattle.tcl_words.specs.declared.fault.Syntax.{Syntax}
use Rattle.tcl_words.specs.Parts.{Part, parts_of, Shape}
use Rattle.tcl_words.specs.Words.{first_at, inner_at}
use Rattle.tcl_words.specs.First.{command, first_of, first, first_command, operand}
use Rattle.tcl_chars.proofs.Ends.{Moves}
use Rattle.tcl_words.proofs.Forward.{first_forward, inner_inside}
use Rattle.tcl_words.proofs.EachPiece.{Gathers, Fits, one_of, command_each, operand_each}
use Rattle.tcl_compile.specs.Within.{PartWithin, PartsWithin, WordsWithin}

abbrev PiecesWithin : ℕ → List Part → Type 0
PiecesWithin n ps = PartsWithin n (parts_of ps)

abbrev WordWithin : ℕ → Shape → Type 0
WordWithin n w = PiecesWithin n w.pieces

pieces_gather : (n : ℕ) → Gathers (PartWithin n) (PiecesWithin n)
pieces_gather n = record { empty = tt; more = λ p ps h k. (h, k); split = λ p ps h. h }

words_gather : (n : ℕ) → Gathers (WordWithin n) (WordsWithin n)
words_gather n = record { empty = tt; more = λ w ws h k. (h, k); split = λ w ws h. h }

-- at whatever level
within_fits : (n : ℕ) → Fits n (λ levels. PartWithin n) (λ levels. PiecesWithin n) (λ levels. WordsWithin n)
within_fits n = record {
  pieces = λ levels. pieces_gather n;
  words = λ levels. words_gather n;
  of_text = λ levels s. tt;
  of_escape = λ levels s c. tt;
  of_var = λ levels s name. tt;
  of_elem = λ levels s name ps h. h;
  of_bracket = λ levels s script le. le;
}

-- ---- the first command

-- its scripts, and what follows it, are shorter than the text
pub record IsShorter (t : List ℕ) (ws : List Shape) (rest : List ℕ) : Type 0 where
  pub within : WordsWithin (length t - 1) ws
  pub less : length rest < length t

rest_less : (t : List ℕ) (r : Result (Option (List Shape) × List ℕ) Syntax) (ws : List Shape) (rest : List ℕ) → IfOk r (λ x. Moves t x.0 x.1) → first_of r ≡ command ws rest → length rest < length t
rest_less t (Err m) ws rest k e = absurd cc
rest_less t (Ok (None, left)) ws rest k e = absurd cc
rest_less t (Ok (Some found, left)) ws rest k e =
    let same : left ≡ rest = cc in
    subst (λ l. length l < length t) same k.less

pub first_shorter : (levels : ℕ) (t : List ℕ) (ws : List Shape) (rest : List ℕ) → first_command levels t ≡ command ws rest → IsShorter t ws rest
unfolding first
first_shorter levels t ws rest e =
    let n = length t - 1 in
    let size = bytes t in
    let inner = inner_at size levels in
    record {
      within = command_each n (λ levels. PartWithin n) (λ levels. PiecesWithin n) (λ levels. WordsWithin n) (within_fits n) size levels false t ws rest (omega arith) e;
      less = rest_less t (first_at size inner false t) ws rest ((first_forward size inner (inner_inside size levels) false).each t) e;
    }

-- ---- an operand of an expression

pub operand_within : (size levels n : ℕ) (cs : List ℕ) → length cs ≤ suc n → IfOk (operand size levels cs) (λ x. PartsWithin n (parts_of x.0.pieces))
operand_within size levels n cs le = operand_each n (λ levels. PartWithin n) (λ levels. PiecesWithin n) (λ levels. WordsWithin n) (within_fits n) size levels cs le

-- ---- one of the pieces, one of the words

pub parts_within_at : (n : ℕ) (ps : List Part) (i : ℕ) (x : Part) → PartsWithin n (parts_of ps) → i < length ps → x ≡ get_or ps i x → PartWithin n x
parts_within_at n = one_of (PartWithin n) (PiecesWithin n) (pieces_gather n)

pub words_within_at : (n : ℕ) (ws : List Shape) (i : ℕ) (w : Shape) → WordsWithin n ws → i < length ws → w ≡ get_or ws i w → PartsWithin n (parts_of w.pieces)
words_within_at n = one_of (WordWithin n) (WordsWithin n) (words_gather n)
