-- An operand is read as it is spelled, and so is its fault.
use Rattle.std.proofs.Common.{◌≡◌, ℕ, Bool, true, false, not, ◌&&◌, ◌||◌, ◌==◌, List, [], ◌∷◌, Option, Some, None, Result, Ok, Err, refl, sym, ap, subst, ◌∙◌, inl, inr, ◌⊎◌}
use Rattle.std.specs.Prelude.{IfOk, IfErr}
use Rattle.std.proofs.lemmas.Bool.{cases_Bool, and_parts, or_left, or_right, true≢false}
use Rattle.tcl_chars.specs.Characters.{backslash, dollar, quote, open_bracket, open_brace, close_paren}
use Rattle.tcl_chars.specs.Place.{begins, tail}
use Rattle.tcl_chars.specs.Reading.{◌>>=◌}
use Rattle.tcl_words.specs.declared.fault.Syntax.{Syntax}
use Rattle.tcl_words.specs.declared.fault.Syntax.TheVariants.{MissingBrace, MissingQuote}
use Rattle.tcl_words.specs.declared.front.Mode.TheVariants as mode
use Rattle.tcl_words.specs.declared.word.Form.{Form}
use Rattle.tcl_words.specs.declared.word.Form.TheVariants as form
use Rattle.tcl_words.specs.Faults.{NeverCloses, BadPiece, BadOperand}
use Rattle.tcl_words.specs.First.{begins_operand, operand}
use Rattle.tcl_words.specs.Laws.{OperandIsSpelled}
use Rattle.tcl_words.specs.Parts.{Part, Shape}
use Rattle.tcl_words.specs.Spelling.{begins_substitution, begins_variable, stands_for_itself, Piece, Pieces, Body, OperandWord}
use Rattle.tcl_words.specs.Words.{kind_of, Inner, inner_at, variable_at, bracket_at, lone_at, piece_of, piece_at, pieces_at, braced_at, quoted_at, operand_at}
use Rattle.tcl_chars.proofs.Ends.{if_bind, if_ok}
use Rattle.tcl_words.proofs.Fills.{bind_err}
use Rattle.tcl_words.proofs.FaultIsFound.{open_braced, bad_quoted, pieces_found, unended_found, piece_found, faults_found}
use Rattle.tcl_words.proofs.FoundIsFault.{err_bind, err_weak, braced_errs, PiecesBad, bracket_bad, variable_bad, pieces_bad, nest_found}
use Rattle.tcl_words.proofs.OneReading.{if_err}
use Rattle.tcl_words.proofs.ReadIsSpelled.{headed, BracedText, braced_spelled, braced_body, quoted_spelled, quoted_body, bracket_spelled, variable_spelled, nest_spelled}
use Rattle.tcl_words.proofs.ScansSpelled.{one_is}
use Rattle.tcl_words.proofs.SpelledIsRead.{run_front, kind_bracket, kind_variable, braced_read, quoted_read, piece_read, nest_read}

-- ---- what begins an operand

rest_of : (a b d e : Bool) → (a || b || d || e) ≡ true → a ≡ false → b ≡ false → (d || e) ≡ true
rest_of true b d e h f g = absurd (true≢false f)
rest_of false true d e h f g = absurd (true≢false g)
rest_of false false d e h f g = h

begins_other : (cs : List ℕ) → begins_operand cs ≡ true → begins open_brace cs ≡ false → begins quote cs ≡ false → begins_substitution cs ≡ true
begins_other [] h b q = absurd (true≢false (sym h))
begins_other (c ∷ cs) h b q = rest_of (c == open_brace) (c == quote) (c == open_bracket) (c == dollar && begins_variable cs) h b q

-- ---- what is read

substituted : (size levels : ℕ) (cs : List ℕ) (p : Part) (rest : List ℕ) → begins_substitution cs ≡ true → Piece size levels (begins close_paren) cs p rest → OperandWord size levels cs (record { form = form.Bare; expands = false; pieces = p ∷ [] }) rest
substituted size levels cs p rest b q = OperandWord.substitution levels (begins close_paren) cs p rest b q

lone_spelled : (size levels : ℕ) (cs : List ℕ) → begins_substitution cs ≡ true → IfOk (lone_at size (inner_at size levels) cs) (λ x. OperandWord size levels cs x.0 x.1)
lone_spelled size levels [] s = absurd (true≢false (sym s))
lone_spelled size levels (c ∷ cs) s = elim (cases_Bool (c == open_bracket)) [
  | inl b ↦ rw b (
      if_bind (λ x. Piece size levels (begins close_paren) (c ∷ cs) x.0 x.1) (λ x. OperandWord size levels (c ∷ cs) x.0 x.1) (bracket_at size (inner_at size levels) (c ∷ cs)) _
      (one_is (λ y. IfOk (bracket_at size (inner_at size levels) (y ∷ cs)) (λ x. Piece size levels (begins close_paren) (y ∷ cs) x.0 x.1)) c open_bracket b (bracket_spelled size levels (nest_spelled size levels) (begins close_paren) cs))
      (λ x q. substituted size levels (c ∷ cs) x.0 x.1 s q))
  | inr b ↦
      let both = and_parts (c == dollar) (begins_variable cs) (let e : (c == dollar && begins_variable cs) ≡ true = rw b at s in e) in
      rw b (
      if_bind (λ x. Piece size levels (begins close_paren) (c ∷ cs) x.0 x.1) (λ x. OperandWord size levels (c ∷ cs) x.0 x.1) (variable_at size (inner_at size levels) (c ∷ cs)) _
      (one_is (λ y. IfOk (variable_at size (inner_at size levels) (y ∷ cs)) (λ x. Piece size levels (begins close_paren) (y ∷ cs) x.0 x.1)) c dollar both.0 (variable_spelled size levels (nest_spelled size levels) (begins close_paren) cs both.1))
      (λ x q. substituted size levels (c ∷ cs) x.0 x.1 s q))
]

operand_spelled : (size levels : ℕ) (cs : List ℕ) → begins_operand cs ≡ true → IfOk (operand_at size (inner_at size levels) cs) (λ x. OperandWord size levels cs x.0 x.1)
unfolding operand_at
operand_spelled size levels cs s = elim (cases_Bool (begins open_brace cs)) [
  | inl b ↦ rw b (
      if_bind (BracedText size (tail cs)) (λ x. OperandWord size levels cs x.0 x.1) (braced_at size cs) _ (braced_spelled size cs)
      (λ x h. OperandWord.delimited levels cs form.Braced x.0 x.1 (or_left (begins open_brace cs) (begins quote cs) b) (braced_body size levels (nest_spelled size levels) false cs x.0 x.1 b h)))
  | inr b ↦ elim (cases_Bool (begins quote cs)) [
    | inl q ↦ rw (b, q) (
        if_bind (λ x. Pieces size levels (begins quote) (tail cs) x.0 (quote ∷ x.1)) (λ x. OperandWord size levels cs x.0 x.1) (quoted_at size (inner_at size levels) cs) _ (quoted_spelled size levels (nest_spelled size levels) cs)
        (λ x h. OperandWord.delimited levels cs form.Quoted x.0 x.1 (or_right (begins open_brace cs) (begins quote cs) q) (quoted_body size levels (nest_spelled size levels) false cs x.0 x.1 q h)))
    | inr q ↦ rw (b, q) (lone_spelled size levels cs (begins_other cs s b q))
  ]
]

-- ---- what is spelled

-- what ends a word is no matter to a bracket or a variable
any_end : (size levels : ℕ) (ends : List ℕ → Bool) (cs : List ℕ) (p : Part) (rest : List ℕ) → Piece size levels ends cs p rest → (other : List ℕ → Bool) → begins_substitution cs ≡ true → Piece size levels other cs p rest
any_end size _ _ _ _ _ (Piece.plain levels ends cs s rest r w) other b = absurd (not_plain ends cs (run_front ends cs rest r) b)
  where
    neither : (x y z v : Bool) → (not x && not y && not z && not v) ≡ true → (z || v) ≡ true → ⊥
    neither true y z v h k = true≢false (sym h)
    neither false true z v h k = true≢false (sym h)
    neither false false true v h k = true≢false (sym h)
    neither false false false true h k = true≢false (sym h)
    neither false false false false h k = true≢false (sym k)

    not_plain : (ends : List ℕ → Bool) (cs : List ℕ) → stands_for_itself ends cs ≡ true → begins_substitution cs ≡ true → ⊥
    not_plain ends [] h k = true≢false (sym k)
    not_plain ends (c ∷ cs) h k = neither (ends (c ∷ cs)) (c == backslash) (c == open_bracket) (c == dollar && begins_variable cs) h k
any_end size _ _ _ _ _ (Piece.escaped levels ends cs s rest r w) other b = absurd (true≢false (sym b))
any_end size _ _ _ _ _ (Piece.variable levels ends cs s name rest b l p n w) other k = Piece.variable levels other cs s name rest b l p n w
any_end size _ _ _ _ _ (Piece.braced_variable levels ends cs s name rest l n w) other k = Piece.braced_variable levels other cs s name rest l n w
any_end size _ _ _ _ _ (Piece.element levels n ends cs s name index ps rest v l m i w) other k = Piece.element levels n other cs s name index ps rest v l m i w
any_end size _ _ _ _ _ (Piece.script levels n ends cs s inside commands rest v m c w) other k = Piece.script levels n other cs s inside commands rest v m c w

-- a bracket or a variable, from the piece that it is of an index
abbrev some_of : {A : Type 0} → A × List ℕ → Result (Option A × List ℕ) Syntax
some_of found = Ok (Some found.0, found.1)

abbrev item_or : {A : Type 0} → A → Option A → A
item_or d None = d
item_or d (Some x) = x

abbrev found_or : {A : Type 0} → A → Result (Option A × List ℕ) Syntax → A
found_or d (Ok t) = item_or d t.0
found_or d (Err m) = d

abbrev left_of : {A : Type 0} → Result (Option A × List ℕ) Syntax → List ℕ
left_of (Ok t) = t.1
left_of (Err m) = []

err_not_some : {A : Type 0} (m : Syntax) (x : A) (rest : List ℕ) → (let r : Result (Option A × List ℕ) Syntax = Err m in r ≡ Ok (Some x, rest)) → ⊥
err_not_some m x rest e = cc

from_some : {A : Type 0} (r : Result (A × List ℕ) Syntax) (x : A) (rest : List ℕ) → (r >>= some_of) ≡ Ok (Some x, rest) → r ≡ Ok (x, rest)
from_some {A = A} (Ok p) x rest e =
    let made : A → List ℕ → Result (A × List ℕ) Syntax = λ y t. Ok (y, t) in
    ap (λ y. made y p.1) (ap (found_or p.0) e) ∙ ap (made x) (ap left_of e)
from_some (Err m) x rest e = absurd (err_not_some m x rest e)

piece_there : (size : ℕ) (inner : Inner) (c : ℕ) (cs : List ℕ) (r : Result (Option Part × List ℕ) Syntax) → begins_substitution (c ∷ cs) ≡ true → piece_at size inner mode.Index (c ∷ cs) ≡ r
    → ((c == open_bracket) ≡ true) × ((bracket_at size inner (c ∷ cs) >>= λ found. Ok (Some found.0, found.1)) ≡ r) ⊎ ((c == open_bracket) ≡ false) × ((variable_at size inner (c ∷ cs) >>= λ found. Ok (Some found.0, found.1)) ≡ r)
unfolding piece_at
piece_there size inner c cs r s e = elim (cases_Bool (c == open_bracket)) [
  | inl b ↦ inl (
    b,
    sym (one_is (λ y. piece_of size inner mode.Index (kind_of mode.Index (y ∷ cs)) (y ∷ cs) ≡ (bracket_at size inner (y ∷ cs) >>= λ found. Ok (Some found.0, found.1))) c open_bracket b
        (ap (λ k. piece_of size inner mode.Index k (open_bracket ∷ cs)) (kind_bracket mode.Index cs refl))) ∙ e,
  )
  | inr b ↦
      let both = and_parts (c == dollar) (begins_variable cs) (let g : (c == dollar && begins_variable cs) ≡ true = rw b at s in g) in
      inr (
        b,
        sym (one_is (λ y. piece_of size inner mode.Index (kind_of mode.Index (y ∷ cs)) (y ∷ cs) ≡ (variable_at size inner (y ∷ cs) >>= λ found. Ok (Some found.0, found.1))) c dollar both.0
            (ap (λ k. piece_of size inner mode.Index k (dollar ∷ cs)) (kind_variable mode.Index cs refl both.1))) ∙ e,
      )
]

no_end : (cs : List ℕ) → begins_substitution cs ≡ true → (begins close_paren cs ≡ false) × (begins open_brace cs ≡ false) × (begins quote cs ≡ false)
no_end [] s = absurd (true≢false (sym s))
no_end (c ∷ cs) s = (off close_paren (λ k. true≢false (sym k)), off open_brace (λ k. true≢false (sym k)), off quote (λ k. true≢false (sym k)))
  where
    off : (d : ℕ) → (begins_substitution (d ∷ cs) ≡ true → ⊥) → (c == d) ≡ false
    off d h = elim (cases_Bool (c == d)) [
      | inl e ↦ absurd (one_is (λ x. begins_substitution (x ∷ cs) ≡ true → ⊥) c d e h s)
      | inr e ↦ e
    ]

lone_read : (size : ℕ) (inner : Inner) (cs : List ℕ) (p : Part) (rest : List ℕ) → begins_substitution cs ≡ true → piece_at size inner mode.Index cs ≡ Ok (Some p, rest) → lone_at size inner cs ≡ Ok (record { form = form.Bare; expands = false; pieces = p ∷ [] }, rest)
lone_read size inner [] p rest s e = absurd (true≢false (sym s))
lone_read size inner (c ∷ cs) p rest s e = elim (piece_there size inner c cs (Ok (Some p, rest)) s e) [
  | inl (b, h) ↦ rw (b, from_some (bracket_at size inner (c ∷ cs)) p rest h) refl
  | inr (b, h) ↦ rw (b, from_some (variable_at size inner (c ∷ cs)) p rest h) refl
]

operand_read : (size levels : ℕ) (cs : List ℕ) (w : Shape) (rest : List ℕ) → OperandWord size levels cs w rest → operand_at size (inner_at size levels) cs ≡ Ok (w, rest)
unfolding operand_at
operand_read size _ _ _ _ (OperandWord.delimited levels cs f ps rest b k) = body_of levels false cs f ps rest k b
  where
    body_of : (levels : ℕ) (nested : Bool) (cs : List ℕ) (f : Form) (ps : List Part) (rest : List ℕ) → Body size levels nested cs f ps rest → (begins open_brace cs || begins quote cs) ≡ true
        → operand_at size (inner_at size levels) cs ≡ Ok (record { form = f; expands = false; pieces = ps }, rest)
    body_of _ _ _ _ _ _ (Body.braced levels nested cs inside ps rest j m i) b = rw (braced_read size cs inside ps rest j m i) refl
    body_of _ _ _ _ _ _ (Body.quoted levels nested cs ps rest k) b = rw (quoted_read size levels cs ps rest (nest_read size levels) k) refl
    body_of _ _ _ _ _ _ (Body.bare levels nested cs ps rest x y k) b = absurd (true≢false (sym b ∙ (rw (x, y) refl)))
operand_read size _ _ _ _ (OperandWord.substitution levels ends cs p rest s q) =
    let (a, b, c) = no_end cs s in
    rw (b, c) (lone_read size (inner_at size levels) cs p rest s (piece_read size levels (begins close_paren) cs p rest (any_end size levels ends cs p rest q (begins close_paren) s) (nest_read size levels) mode.Index refl a))

-- ---- faults

lone_bad : (size levels : ℕ) (cs : List ℕ) → begins_substitution cs ≡ true → IfErr (lone_at size (inner_at size levels) cs) (BadOperand size levels cs)
lone_bad size levels [] s = absurd (true≢false (sym s))
lone_bad size levels (c ∷ cs) s = elim (cases_Bool (c == open_bracket)) [
  | inl b ↦ rw b (
      err_bind (BadOperand size levels (c ∷ cs)) (bracket_at size (inner_at size levels) (c ∷ cs)) _
      (err_weak (BadPiece size levels (c ∷ cs)) (BadOperand size levels (c ∷ cs)) (bracket_at size (inner_at size levels) (c ∷ cs))
      (one_is (λ y. IfErr (bracket_at size (inner_at size levels) (y ∷ cs)) (BadPiece size levels (y ∷ cs))) c open_bracket b (bracket_bad size levels (nest_found size levels) cs)) (λ m k. BadOperand.in_substitution levels (c ∷ cs) m s k)) (λ x e. tt))
  | inr b ↦
      let both = and_parts (c == dollar) (begins_variable cs) (let e : (c == dollar && begins_variable cs) ≡ true = rw b at s in e) in
      rw b (
      err_bind (BadOperand size levels (c ∷ cs)) (variable_at size (inner_at size levels) (c ∷ cs)) _
      (err_weak (BadPiece size levels (c ∷ cs)) (BadOperand size levels (c ∷ cs)) (variable_at size (inner_at size levels) (c ∷ cs))
      (one_is (λ y. IfErr (variable_at size (inner_at size levels) (y ∷ cs)) (BadPiece size levels (y ∷ cs))) c dollar both.0 (variable_bad size levels (nest_found size levels) cs)) (λ m k. BadOperand.in_substitution levels (c ∷ cs) m s k)) (λ x e. tt))
]

quotes_bad : (size levels : ℕ) (cs : List ℕ) → begins quote cs ≡ true → IfErr (quoted_at size (inner_at size levels) cs) (BadOperand size levels cs)
unfolding quoted_at
quotes_bad size levels cs q =
    err_bind (BadOperand size levels cs) (pieces_at size (inner_at size levels) mode.Quoted (tail cs)) _
    (err_weak (PiecesBad size levels mode.Quoted (tail cs)) (BadOperand size levels cs) (pieces_at size (inner_at size levels) mode.Quoted (tail cs)) (pieces_bad size levels (nest_found size levels) mode.Quoted (tail cs))
    (λ m h. subst (λ t. BadOperand size levels t m) (sym (headed quote cs q)) (elim h [
      | inl b ↦ BadOperand.in_quotes levels (tail cs) m b
      | inr (u, v) ↦ subst (BadOperand size levels (quote ∷ tail cs)) (sym v) (BadOperand.open_quotes levels (tail cs) u)
    ]))) (λ x e. tt)

operand_bad : (size levels : ℕ) (cs : List ℕ) → begins_operand cs ≡ true → IfErr (operand_at size (inner_at size levels) cs) (BadOperand size levels cs)
unfolding operand_at
operand_bad size levels cs s = elim (cases_Bool (begins open_brace cs)) [
  | inl b ↦ rw b (
      err_bind (BadOperand size levels cs) (braced_at size cs) _
      (err_weak (λ m. (m ≡ MissingBrace) × NeverCloses (tail cs)) (BadOperand size levels cs) (braced_at size cs) (braced_errs size cs)
      (λ m h. subst (BadOperand size levels cs) (sym h.0) (subst (λ t. BadOperand size levels t MissingBrace) (sym (headed open_brace cs b)) (BadOperand.open_braces levels (tail cs) h.1)))) (λ x e. tt))
  | inr b ↦ elim (cases_Bool (begins quote cs)) [
    | inl q ↦ rw (b, q) (err_bind (BadOperand size levels cs) (quoted_at size (inner_at size levels) cs) _ (quotes_bad size levels cs q) (λ x e. tt))
    | inr q ↦ rw (b, q) (lone_bad size levels cs (begins_other cs s b q))
  ]
]

lone_found : (size : ℕ) (inner : Inner) (cs : List ℕ) (m : Syntax) → begins_substitution cs ≡ true → piece_at size inner mode.Index cs ≡ Err m → lone_at size inner cs ≡ Err m
lone_found size inner [] m s e = absurd (true≢false (sym s))
lone_found size inner (c ∷ cs) m s e = elim (piece_there size inner c cs (Err m) s e) [
  | inl (b, h) ↦ rw (b, bind_err (bracket_at size inner (c ∷ cs)) (λ found. (Some found.0, found.1)) m h) refl
  | inr (b, h) ↦ rw (b, bind_err (variable_at size inner (c ∷ cs)) (λ found. (Some found.0, found.1)) m h) refl
]

operand_found : (size levels : ℕ) (cs : List ℕ) (m : Syntax) → BadOperand size levels cs m → operand_at size (inner_at size levels) cs ≡ Err m
unfolding operand_at
operand_found size _ _ _ (BadOperand.open_braces levels cs n) = rw (open_braced size cs n) refl
operand_found size _ _ _ (BadOperand.open_quotes levels cs u) = rw (bad_quoted size (inner_at size levels) cs MissingQuote (unended_found size levels (begins quote) cs u mode.Quoted refl)) refl
operand_found size _ _ _ (BadOperand.in_quotes levels cs m b) = rw (bad_quoted size (inner_at size levels) cs m (pieces_found size levels (begins quote) cs m b (faults_found size levels) mode.Quoted refl)) refl
operand_found size _ _ _ (BadOperand.in_substitution levels cs m s b) =
    let (a, x, y) = no_end cs s in
    rw (x, y) (lone_found size (inner_at size levels) cs m s (piece_found size levels cs m b (faults_found size levels) mode.Index a))

pub operand_is_spelled : OperandIsSpelled
unfolding operand
operand_is_spelled size levels cs s = (
  λ w rest. (
    λ e. if_ok (λ x. OperandWord size levels cs x.0 x.1) (operand_at size (inner_at size levels) cs) (w, rest) (operand_spelled size levels cs s) e,
    λ h. operand_read size levels cs w rest h,
  ),
  λ m. (λ e. if_err (BadOperand size levels cs) (operand_at size (inner_at size levels) cs) m (operand_bad size levels cs s) e, λ h. operand_found size levels cs m h),
)
