-- Places in a whole text, and what the first command is.
use Rattle.std.proofs.Common.{◌≡◌, ℕ, ◌-◌, Bool, List, ◌++◌, length, take, drop, Option, Some, None, Result, Ok, sym, ap, ◌∙◌, subst, arith, length-append}
use Rattle.std.specs.Str.{chars, IsUtf8, IsCharBoundary, encode_utf8_all}
use Rattle.std.proofs.Math.Seq.{drop-append_seam}
use Rattle.std.proofs.lemmas.List.{take-append-drop}
use Rattle.std.proofs.lemmas.Str.{encodes-chars, encodes-append, chars-append, IsUtf8-take}
use Rattle.tcl_chars.specs.Place.{EndsWith, place}
use Rattle.tcl_chars.proofs.Cuts.{rest_boundary}
use Rattle.tcl_words.specs.declared.fault.Syntax.{Syntax}
use Rattle.tcl_words.specs.First.{first_of, first, operand, IsRestAt}
use Rattle.tcl_words.specs.Parts.{Shape}
use Rattle.tcl_words.specs.Words.{first_at, operand_at, inner_at}
use Rattle.tcl_chars.proofs.Ends.{Forward, Moves, ends_trans, if_ok, if_weak}
use Rattle.tcl_words.proofs.Forward.{first_forward, operand_end, inner_inside}

-- what follows a place ends the text
pub rest_ends : (bs : List ℕ) (i : ℕ) → IsUtf8 bs → IsCharBoundary bs i → EndsWith (chars bs) (chars (drop i bs))
rest_ends bs i u b = record {
  front = chars (take i bs);
  joined = ap chars (sym (take-append-drop i bs)) ∙ chars-append (take i bs) (drop i bs) (IsUtf8-take bs i u b);
}

pub rest_at : (bs rs : List ℕ) (n : ℕ) → EndsWith (chars bs) (chars rs) → IsUtf8 bs → IsUtf8 rs → n ≡ place (length bs) (chars rs) → IsRestAt bs n (chars rs)
unfolding place
rest_at bs rs n e u v p =
    let w : bs ≡ encode_utf8_all e.front ++ rs = sym (encodes-chars bs u) ∙ ap encode_utf8_all e.joined ∙ encodes-append e.front (chars rs) ∙ ap (λ t. encode_utf8_all e.front ++ t) (encodes-chars rs v) in
    let k : n ≡ length bs - length rs = p ∙ ap (λ t. length bs - length t) (encodes-chars rs v) in
    let f : length (encode_utf8_all e.front) ≡ n = omega (arith, ap length w, length-append (encode_utf8_all e.front) rs) in
    let d : drop n bs ≡ rs = ap (drop n) w ∙ subst (λ m. drop m (encode_utf8_all e.front ++ rs) ≡ rs) f (drop-append_seam (encode_utf8_all e.front) rs) in
    record {
      boundary = subst (IsCharBoundary bs) (sym k) (rest_boundary bs rs e u v);
      left = ap chars d;
      in_bytes = p;
    }

moved_end : (cs : List ℕ) (x : Option (List Shape)) (rest : List ℕ) → Moves cs x rest → EndsWith cs rest
moved_end cs None rest h = h
moved_end cs (Some x) rest h = h.ends

-- what follows the first command ends the text
pub after_first : (size levels : ℕ) (nested : Bool) (whole cs : List ℕ) (x : Option (List Shape)) (after : List ℕ) → EndsWith whole cs → first_at size (inner_at size levels) nested cs ≡ Ok (x, after) → EndsWith whole after
after_first size levels nested whole cs x after w e =
    let f : Forward (first_at size (inner_at size levels) nested) = first_forward size (inner_at size levels) (inner_inside size levels) nested in
    ends_trans whole cs after w (if_ok (λ t. EndsWith cs t.1) (first_at size (inner_at size levels) nested cs) (x, after) (if_weak (λ t. Moves cs t.0 t.1) (λ t. EndsWith cs t.1) _ (f.each cs) (λ t h. moved_end cs t.0 t.1 h)) e)

pub first_is : (size levels : ℕ) (nested : Bool) (cs : List ℕ) (r : Result (Option (List Shape) × List ℕ) Syntax) → first_at size (inner_at size levels) nested cs ≡ r → first size levels nested cs ≡ first_of r
unfolding first
first_is size levels nested cs r e = ap first_of e

-- what follows an operand ends the text
pub after_operand : (size levels : ℕ) (whole cs : List ℕ) (x : Shape) (after : List ℕ) → EndsWith whole cs → operand_at size (inner_at size levels) cs ≡ Ok (x, after) → EndsWith whole after
after_operand size levels whole cs x after w e =
    ends_trans whole cs after w (if_ok (λ t. EndsWith cs t.1) (operand_at size (inner_at size levels) cs) (x, after) (operand_end size (inner_at size levels) (inner_inside size levels) cs) e)

pub operand_is : (size levels : ℕ) (cs : List ℕ) (r : Result (Shape × List ℕ) Syntax) → operand_at size (inner_at size levels) cs ≡ r → operand size levels cs ≡ r
unfolding operand
operand_is size levels cs r e = e
