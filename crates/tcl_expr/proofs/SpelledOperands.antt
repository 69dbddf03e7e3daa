-- Tokens where an operand is wanted: what is spelled so is read, and what is read is spelled so.
use Rattle.std.proofs.Common.{◌≡◌, ◌≢◌, ℕ, ◌≤◌, Bool, true, false, List, [], ◌∷◌, ◌++◌, length, Option, Some, None, Result, Ok, Err, refl, sym, ap, subst, ◌∙◌, inl, inr, arith}
use Rattle.std.specs.Prelude.{◌==◌, not, ◌&&◌, ◌||◌, ◌⊎◌, if◌then◌else◌, IfSome}
use Rattle.std.specs.List.{list_all}
use Rattle.std.proofs.lemmas.Bool.{and_left, and_parts, eqb-true, eqb-false, ne_eqb}
use Rattle.tcl_chars.specs.Characters.{open_paren, open_brace, open_bracket, quote, dollar}
use Rattle.tcl_chars.specs.Place.{begins, tail, before}
use Rattle.tcl_chars.specs.Truth.{truth_of}
use Rattle.tcl_chars.specs.Whole.{skip_space}
use Rattle.tcl_chars.specs.declared.numbers.Dialect.{Dialect}
use Rattle.tcl_words.specs.declared.fault.Syntax.{Syntax}
use Rattle.tcl_words.specs.First.{operand, begins_operand}
use Rattle.tcl_words.specs.Parts.{Stretch, Shape}
use Rattle.tcl_words.specs.Words.{stretch, begins_variable}
use Rattle.tcl_chars.proofs.SpelledIndices.{before_front}
use Rattle.tcl_words.proofs.OperandSpelled.{operand_is_spelled}
use Rattle.tcl_words.proofs.ReadIsSpelled.{front_is, headed}
use Rattle.tcl_expr.specs.declared.token.UnaryOp.{UnaryOp}
use Rattle.tcl_expr.specs.declared.token.UnaryOp.TheVariants as unary
use Rattle.tcl_expr.specs.declared.token.BinaryOp.{BinaryOp}
use Rattle.tcl_expr.specs.declared.token.BinaryOp.TheVariants as binary
use Rattle.tcl_expr.specs.declared.token.Function.{Function}
use Rattle.tcl_expr.specs.declared.token.Symbol.{Symbol}
use Rattle.tcl_expr.specs.declared.token.Symbol.TheVariants as symbol
use Rattle.tcl_expr.specs.Expr.{literal}
use Rattle.tcl_expr.specs.Spelling.{begins_space, IsGap, IsFront, IsRun, IsSigned, IsOperandRun, IsCalled, IsSymbol, SpellsOperand, SpellsOperator, Spells, IsNotCalled, NoLonger, NoSymbol}
use Rattle.tcl_expr.specs.Spelling as spelling
use Rattle.tcl_expr.specs.Texts.{unary_text, binary_text, function_text, symbol_text}
use Rattle.tcl_expr.specs.Token.{Token, Operand, Bareword, Unary, Open}
use Rattle.tcl_expr.specs.Tokens.{minus, equals, is_run_char, after_run, begins_run, begins_digit, begins_letter, begins_signed, function_of, says_something, called, run_token, symbol_at, symbol_token, prefix, word_token, or_bareword, or_symbol, operand_token}
use Rattle.tcl_expr.proofs.LongestFronts.{begins_before, branch, front_at, front_run, gap_skipped, no_clash, no_option, other_char, run_ends, run_front, run_over, second, space_gap, stretch_is, third}
use Rattle.tcl_expr.proofs.SpelledSymbols.{function_found, function_named, kind_of, lone, no_function, none_prefix, none_stands, none_there, prefix_of, symbol_is, symbol_spelled, unary_longest}

-- ---- parts of a token

minus_no_run : (c : ℕ) → is_run_char c ≡ true → (c == minus) ≡ false
minus_no_run c e = other_char is_run_char c minus e refl

signed_begins : (behind rest : List ℕ) → begins_digit behind ≡ true → begins_digit (behind ++ rest) ≡ true
signed_begins [] rest d = absurd (no_clash false d refl)
signed_begins (c ∷ cs) rest d = d

-- the token of a run, by its stretch alone
abbrev token_of_run : Dialect → Stretch → List ℕ → Token × List ℕ
token_of_run dialect s rest =
    if begins_letter s.text && begins open_paren (skip_space rest) then (called (function_of s.text) s, tail (skip_space rest))
    else (if says_something (truth_of dialect s.text) then Operand (literal s) else Bareword s, rest)

letter_of : (xs rest : List ℕ) → xs ≢ [] → begins_letter (xs ++ rest) ≡ begins_letter xs
letter_of [] rest n = absurd (n refl)
letter_of (c ∷ cs) rest n = refl

run_some : (run : List ℕ) → IsRun run ⊎ IsSigned run → run ≢ []
run_some [] (inl r) e = no_clash false r.some refl
run_some [] (inr g) e = let k = g.joined in absurd cc
run_some (c ∷ cs) r e = absurd cc

run_token_is : (dialect : Dialect) (size : ℕ) (here : List ℕ) (s : Stretch) (rest : List ℕ) → IsFront size here s rest → s.text ≢ [] → run_token dialect size here rest ≡ token_of_run dialect s rest
run_token_is dialect size here s rest f n =
    let l : begins_letter here ≡ begins_letter s.text = ap begins_letter f.joined ∙ letter_of s.text rest n in
    let b : before here rest ≡ s.text = front_is here s.text rest f.joined in
    let t : stretch size here rest ≡ s = stretch_is size here s rest f in
    let P : Bool → List ℕ → Stretch → Token × List ℕ =
    λ b z u. if b && begins open_paren (skip_space rest) then (called (function_of z) u, tail (skip_space rest)) else (if says_something (truth_of dialect z) then Operand (literal u) else Bareword u, rest) in
    ap (λ z. P z (before here rest) (stretch size here rest)) l ∙ ap (λ z. P (begins_letter s.text) z (stretch size here rest)) b ∙ ap (P (begins_letter s.text) s.text) t

called_behind : (name rest behind : List ℕ) → IsCalled name rest behind → skip_space rest ≡ open_paren ∷ behind
called_behind name rest behind k = gap_skipped rest (open_paren ∷ behind) k.gap

called_when : (name rest : List ℕ) → begins_letter name ≡ true → begins open_paren (skip_space rest) ≡ true → IsCalled name rest (tail (skip_space rest))
called_when name rest l b =
    let P : List ℕ → Type 0 = λ z. IsGap rest z in
    record { letter = l; gap = subst P (headed open_paren (skip_space rest) b) (space_gap rest) }

call_token : (dialect : Dialect) (s : Stretch) (rest behind : List ℕ) → IsCalled s.text rest behind → token_of_run dialect s rest ≡ (called (function_of s.text) s, behind)
call_token dialect s rest behind k =
    let e = called_behind s.text rest behind k in
    let l = k.letter in
    rw (l, e) refl

plain_token : (dialect : Dialect) (s : Stretch) (rest : List ℕ) → IsNotCalled s.text rest → token_of_run dialect s rest ≡ (if says_something (truth_of dialect s.text) then Operand (literal s) else Bareword s, rest)
plain_token dialect s rest n =
    branch (λ z. z ≡ (if says_something (truth_of dialect s.text) then Operand (literal s) else Bareword s, rest)) (begins_letter s.text && begins open_paren (skip_space rest)) _ _
    (λ e. let k = and_parts (begins_letter s.text) (begins open_paren (skip_space rest)) e in absurd (n (tail (skip_space rest)) (called_when s.text rest k.0 k.1)))
    (λ e. refl)

prefix_text : (c : ℕ) (cs : List ℕ) → IfSome (prefix c cs) (λ u. c ∷ [] ≡ unary_text u)
prefix_text c cs =
    let P : Option UnaryOp → Type 0 = λ o. IfSome o (λ u. c ∷ [] ≡ unary_text u) in
    branch P (c == 45) _ _ (lone c 45) (λ _. branch P (c == 43) _ _ (lone c 43) (λ _. branch P (c == 126) _ _ (lone c 126)
    (λ _. branch P ((c == 33) && not (begins equals cs)) _ _ (λ e. lone c 33 (and_parts (c == 33) _ e).0) (λ _. tt))))

not_equals : (rest : List ℕ) → NoLonger (33 ∷ rest) 1 → begins equals rest ≡ false
not_equals [] w = refl
not_equals (d ∷ ds) w = ne_eqb d equals (λ e. let n : 2 ≤ 1 = w (symbol.Binary binary.NotEqual) ds (ap (λ z. 33 ∷ z ∷ ds) e) in omega (arith, n))

-- what is read of an operator or a mark, or of a character that begins nothing
marks_of : ℕ → List ℕ → Token × List ℕ
marks_of size here = or_bareword (symbol_at here) (stretch size here (tail here)) (tail here)

-- a word in quotes or braces, a bracket, a variable
either : (P : Type 0) (a b : Bool) → (a || b) ≡ true → (a ≡ true → P) → (b ≡ true → P) → P
either P true b e f g = f refl
either P false b e f g = g e

NoRun : ℕ → Type 0
NoRun c = (is_run_char c ≡ false) × ((c == minus) ≡ false)

no_run_at : (c d : ℕ) → (c == d) ≡ true → NoRun d → NoRun c
no_run_at c d e n = subst NoRun (sym (eqb-true c d e)) n

operand_char : (c : ℕ) (b : Bool) → (c == open_brace || c == quote || c == open_bracket || (c == dollar && b)) ≡ true → NoRun c
unfolding NoRun
operand_char c b e =
    either (NoRun c) (c == open_brace || c == quote || c == open_bracket) (c == dollar && b) e
    (λ e. either (NoRun c) (c == open_brace || c == quote) (c == open_bracket) e
    (λ e. either (NoRun c) (c == open_brace) (c == quote) e (λ k. no_run_at c open_brace k (refl, refl)) (λ k. no_run_at c quote k (refl, refl)))
    (λ k. no_run_at c open_bracket k (refl, refl)))
    (λ e. no_run_at c dollar (and_parts (c == dollar) b e).0 (refl, refl))

-- a character that begins nothing
no_prefix : (c : ℕ) (cs : List ℕ) (o : Option UnaryOp) → prefix c cs ≡ o → ((u : UnaryOp) → c ∷ [] ≢ unary_text u) → o ≡ None
no_prefix c cs None e n = refl
no_prefix c cs (Some u) e n = let P : Option UnaryOp → Type 0 = λ o. IfSome o (λ u. c ∷ [] ≡ unary_text u) in absurd (n u (subst P e (prefix_text c cs)))

fifth : {A : Type 0} (a b c d : Bool) (x y z w v : A) → a ≡ false → b ≡ false → c ≡ false → d ≡ false → (if a then x else if b then y else if c then z else if d then w else v) ≡ v
fifth true b c d x y z w v e f g h = absurd cc
fifth false true c d x y z w v e f g h = absurd cc
fifth false false true d x y z w v e f g h = absurd cc
fifth false false false true x y z w v e f g h = absurd cc
fifth false false false false x y z w v e f g h = refl

-- of the unary operators only `!` may begin a longer operator
not_then : (b : Bool) → (if not b then Some unary.Not else None) ≡ None → b ≡ true
not_then true e = refl
not_then false e = absurd cc

NotEqualAt : List ℕ → UnaryOp → List ℕ → Type 0
NotEqualAt here v rest = (length (unary_text v) ≡ 1) × (here ≡ binary_text binary.NotEqual ++ tail rest)

bang : (v : UnaryOp) (rest : List ℕ) → prefix_of (unary_text v ++ rest) ≡ None → NotEqualAt (unary_text v ++ rest) v rest
unfolding prefix_of NotEqualAt
bang unary.Minus rest e = absurd (none_prefix _ unary.Minus e refl)
bang unary.Plus rest e = absurd (none_prefix _ unary.Plus e refl)
bang unary.Flip rest e = absurd (none_prefix _ unary.Flip e refl)
bang unary.Not rest e = (refl, ap (λ (z : List ℕ). 33 ∷ z) (headed equals rest (not_then (begins equals rest) e)))

bang_at : (here : List ℕ) (v : UnaryOp) (rest : List ℕ) → here ≡ unary_text v ++ rest → prefix_of here ≡ None → NotEqualAt here v rest
bang_at here v rest j e = subst (λ (z : List ℕ). NotEqualAt z v rest) (sym j) (bang v rest (ap prefix_of (sym j) ∙ e))

mark_no_unary : (here : List ℕ) (y : Symbol) (rest : List ℕ) → IsSymbol y here rest → prefix_of here ≡ None → (v : UnaryOp) → symbol_text y ≢ unary_text v
unfolding NotEqualAt
mark_no_unary here y rest i e v same =
    let k = bang_at here v rest (i.joined ∙ ap (λ (z : List ℕ). z ++ rest) same) e in
    let n : 2 ≤ length (symbol_text y) = i.longest (symbol.Binary binary.NotEqual) (tail rest) k.1 in
    omega (arith, n, ap length same, k.0)

lone_no_unary : (c : ℕ) (cs : List ℕ) → prefix c cs ≡ None → NoSymbol (c ∷ cs) → (v : UnaryOp) → c ∷ [] ≢ unary_text v
unfolding NotEqualAt prefix_of
lone_no_unary c cs e n v same =
    let k = bang_at (c ∷ cs) v cs (ap (λ (z : List ℕ). z ++ cs) same) e in
    n (symbol.Binary binary.NotEqual) (tail cs) k.1

-- runs
digit_run : (cs : List ℕ) → begins_digit cs ≡ true → begins_run cs ≡ true
digit_run [] d = absurd (no_clash false d refl)
digit_run (c ∷ cs) d = rw d refl

plain_run : (size : ℕ) (here : List ℕ) → begins_run here ≡ true → IsOperandRun size here (stretch size here (after_run here)) (after_run here)
plain_run size here e =
    let k = front_run here e in
    record { front = front_at size here (before here (after_run here)) (after_run here) k.0; run = inl k.1; whole = run_ends here }

signed_front : (cs : List ℕ) → begins_digit cs ≡ true → IsSigned (before (minus ∷ cs) (after_run cs)) × (minus ∷ cs ≡ before (minus ∷ cs) (after_run cs) ++ after_run cs)
signed_front cs d =
    let f = run_front cs in
    let j : minus ∷ cs ≡ (minus ∷ f.text) ++ after_run cs = ap (λ (z : List ℕ). minus ∷ z) f.joined in
    let b : before (minus ∷ cs) (after_run cs) ≡ minus ∷ f.text = front_is (minus ∷ cs) (minus ∷ f.text) (after_run cs) j in
    let digit : begins_digit f.text ≡ true = begins_before begins_digit f.text (after_run cs) digit_run (λ c cs ds. refl) (ap begins_digit (sym f.joined) ∙ d) (run_ends cs) in
    (record { behind = f.text; joined = b; digit = digit; all = f.all }, j ∙ ap (λ (z : List ℕ). z ++ after_run cs) (sym b))

signed_run : (size c : ℕ) (cs : List ℕ) → begins_signed (c ∷ cs) ≡ true → IsOperandRun size (c ∷ cs) (stretch size (c ∷ cs) (after_run cs)) (after_run cs)
signed_run size c cs e =
    let k = and_parts (c == minus) (begins_digit cs) e in
    let P : ℕ → Type 0 = λ z. IsOperandRun size (z ∷ cs) (stretch size (z ∷ cs) (after_run cs)) (after_run cs) in
    let s = signed_front cs k.1 in
    subst P (sym (eqb-true c minus k.0)) (record { front = front_at size (minus ∷ cs) (before (minus ∷ cs) (after_run cs)) (after_run cs) s.1; run = inr s.0; whole = run_ends cs })

none_named : (o : Option Function) (f : Function) → o ≡ None → o ≡ Some f → ⊥
none_named o f e g = absurd cc

both : (name rest : List ℕ) → begins_letter name ≡ true → begins open_paren (skip_space rest) ≡ true → (begins_letter name && begins open_paren (skip_space rest)) ≡ true
both name rest e f = rw (e, f) refl

not_called : (name rest : List ℕ) → (begins_letter name && begins open_paren (skip_space rest)) ≡ false → IsNotCalled name rest
not_called name rest e behind k =
    let b : begins open_paren (skip_space rest) ≡ true = ap (begins open_paren) (called_behind name rest behind k) in
    no_clash _ (both name rest k.letter b) e

-- ---- tokens

module _ (dialect : Dialect) (size levels : ℕ) where
  run_here : (run rest : List ℕ) → IsRun run → begins_run rest ≡ false → operand_token dialect size levels (run ++ rest) ≡ Some (run_token dialect size (run ++ rest) rest)
  unfolding operand_token
  run_here [] rest r w = absurd (no_clash false r.some refl)
  run_here (c ∷ cs) rest r w =
      let k = and_parts (is_run_char c) (list_all is_run_char cs) r.all in
      second (begins_signed (c ∷ cs ++ rest)) (begins_run (c ∷ cs ++ rest)) _ _ _ (and_left (c == minus) _ (minus_no_run c k.0)) k.0
      ∙ ap (λ (z : List ℕ). Some (run_token dialect size (c ∷ cs ++ rest) z)) (run_over (c ∷ cs) rest r.all w)

  signed_here : (behind rest : List ℕ) → begins_digit behind ≡ true → list_all is_run_char behind ≡ true → begins_run rest ≡ false
      → operand_token dialect size levels (minus ∷ behind ++ rest) ≡ Some (run_token dialect size (minus ∷ behind ++ rest) rest)
  unfolding operand_token
  signed_here behind rest d a w =
      let e : begins_signed (minus ∷ behind ++ rest) ≡ true = signed_begins behind rest d in
      rw e (ap (λ (z : List ℕ). Some (run_token dialect size (minus ∷ behind ++ rest) z)) (run_over behind rest a w))

  at_run : (here : List ℕ) (s : Stretch) (rest : List ℕ) → IsFront size here s rest → IsRun s.text ⊎ IsSigned s.text → begins_run rest ≡ false
      → operand_token dialect size levels here ≡ Some (run_token dialect size here rest)
  at_run here s rest f (inl r) w =
      let P : List ℕ → Type 0 = λ z. operand_token dialect size levels z ≡ Some (run_token dialect size z rest) in
      subst P (sym f.joined) (run_here s.text rest r w)
  at_run here s rest f (inr g) w =
      let P : List ℕ → Type 0 = λ z. operand_token dialect size levels z ≡ Some (run_token dialect size z rest) in
      subst P (sym (f.joined ∙ ap (λ (z : List ℕ). z ++ rest) g.joined)) (signed_here g.behind rest g.digit g.all w)

  unary_spelled : (c : ℕ) (cs : List ℕ) (u : UnaryOp) → begins_signed (c ∷ cs) ≡ false → begins_run (c ∷ cs) ≡ false → prefix c cs ≡ Some u → SpellsOperand dialect size levels (c ∷ cs) (Unary u) cs
  unfolding prefix_of
  unary_spelled c cs u s n e =
      let P : Option UnaryOp → Type 0 = λ o. IfSome o (λ u. c ∷ [] ≡ unary_text u) in
      let t : c ∷ [] ≡ unary_text u = subst P e (prefix_text c cs) in
      spelling.unary u cs (ap (λ (z : List ℕ). z ++ cs) t) (λ f. ap begins_signed f ∙ s)
      (λ y behind f. unary_longest (c ∷ cs) y behind u (kind_of y) f n e)

  unary_read : (u : UnaryOp) (rest : List ℕ) → (minus ∷ rest ≡ unary_text u ++ rest → begins_digit rest ≡ false) → NoLonger (unary_text u ++ rest) 1
      → operand_token dialect size levels (unary_text u ++ rest) ≡ Some (Unary u, rest)
  unfolding operand_token
  unary_read unary.Minus rest d w = let e = d refl in rw e refl
  unary_read unary.Plus rest d w = refl
  unary_read unary.Flip rest d w = refl
  unary_read unary.Not rest d w = let e = not_equals rest w in rw e refl

  binary_here : (op : BinaryOp) (rest : List ℕ) → begins_run (binary_text op ++ rest) ≡ false → ((u : UnaryOp) → binary_text op ≢ unary_text u)
      → operand_token dialect size levels (binary_text op ++ rest) ≡ Some (marks_of size (binary_text op ++ rest))
  unfolding operand_token marks_of
  binary_here binary.Add rest n u = absurd (u unary.Plus refl)
  binary_here binary.Subtract rest n u = absurd (u unary.Minus refl)
  binary_here binary.TextEqual rest n u = absurd (no_clash true refl n)
  binary_here binary.TextNotEqual rest n u = absurd (no_clash true refl n)
  binary_here binary.In rest n u = absurd (no_clash true refl n)
  binary_here binary.NotIn rest n u = absurd (no_clash true refl n)
  binary_here _ rest n u = refl

  symbol_here : (y : Symbol) (rest : List ℕ) → begins_run (symbol_text y ++ rest) ≡ false → ((u : UnaryOp) → symbol_text y ≢ unary_text u)
      → operand_token dialect size levels (symbol_text y ++ rest) ≡ Some (marks_of size (symbol_text y ++ rest))
  unfolding operand_token marks_of
  symbol_here (symbol.Binary op) rest n u = binary_here op rest n u
  symbol_here _ rest n u = refl

  symbol_operand : (here : List ℕ) (y : Symbol) (rest : List ℕ) → IsSymbol y here rest → ((u : UnaryOp) → symbol_text y ≢ unary_text u) → operand_token dialect size levels here ≡ Some (symbol_token y, rest)
  unfolding marks_of
  symbol_operand here y rest i u =
      let P : List ℕ → Type 0 = λ z. operand_token dialect size levels z ≡ Some (marks_of size z) in
      let m : operand_token dialect size levels here ≡ Some (marks_of size here) = subst P (sym i.joined) (symbol_here y rest (ap begins_run (sym i.joined) ∙ i.no_run) u) in
      m ∙ ap (λ o. Some (or_bareword o (stretch size here (tail here)) (tail here))) (symbol_is here y rest i)

  operand_here : (here : List ℕ) → begins_operand here ≡ true → operand_token dialect size levels here ≡ Some (word_token (operand size levels here))
  unfolding operand_token NoRun
  operand_here [] b = absurd (no_clash false b refl)
  operand_here (c ∷ cs) b =
      let n = operand_char c (begins_variable cs) b in
      third (begins_signed (c ∷ cs)) (begins_run (c ∷ cs)) (begins_operand (c ∷ cs)) _ _ _ _ (and_left (c == minus) _ n.1) n.0 b

  operand_spelled_word : (here : List ℕ) (r : Result (Shape × List ℕ) Syntax) → begins_operand here ≡ true → operand size levels here ≡ r → SpellsOperand dialect size levels here (word_token r).0 (word_token r).1
  operand_spelled_word here (Ok x) b e = spelling.quoted x.0 x.1 b (((operand_is_spelled size levels here b).0 x.0 x.1).0 e)
  operand_spelled_word here (Err m) b e = spelling.malformed m b (((operand_is_spelled size levels here b).1 m).0 e)

  character_read : (c : ℕ) (rest : List ℕ) → begins_run (c ∷ rest) ≡ false → begins_operand (c ∷ rest) ≡ false → c ≢ open_paren → ((u : UnaryOp) → c ∷ [] ≢ unary_text u) → symbol_at (c ∷ rest) ≡ None
      → operand_token dialect size levels (c ∷ rest) ≡ Some (Bareword (stretch size (c ∷ rest) rest), rest)
  unfolding operand_token
  character_read c rest n b p u s =
      let m : (c == minus) ≡ false = ne_eqb c minus (λ e. u unary.Minus (ap (λ z. z ∷ []) e)) in
      fifth (begins_signed (c ∷ rest)) (begins_run (c ∷ rest)) (begins_operand (c ∷ rest)) (c == open_paren) _ _ _ _ _ (and_left (c == minus) _ m) n b (ne_eqb c open_paren p)
      ∙ ap (λ o. Some (or_symbol o size c rest)) (no_prefix c rest (prefix c rest) refl u)
      ∙ ap (λ o. Some (or_bareword o (stretch size (c ∷ rest) rest) rest)) s

  marks_spelled : (c : ℕ) (cs : List ℕ) (o : Option (Symbol × List ℕ)) → begins_run (c ∷ cs) ≡ false → begins_operand (c ∷ cs) ≡ false → c ≢ open_paren → prefix c cs ≡ None → symbol_at (c ∷ cs) ≡ o
      → SpellsOperand dialect size levels (c ∷ cs) (or_bareword o (stretch size (c ∷ cs) cs) cs).0 (or_bareword o (stretch size (c ∷ cs) cs) cs).1
  unfolding prefix_of
  marks_spelled c cs (Some x) n b p u e =
      let i = symbol_spelled (c ∷ cs) x.0 x.1 n e in
      spelling.symbol x.0 x.1 i (mark_no_unary (c ∷ cs) x.0 x.1 i u)
  marks_spelled c cs None n b p u e =
      let t : before (c ∷ cs) cs ≡ c ∷ [] = before_front (c ∷ []) cs in
      let m = none_there (c ∷ cs) n e in
      spelling.other_character c (stretch size (c ∷ cs) cs) cs (front_at size (c ∷ cs) (c ∷ []) cs refl) t n b p (λ v same. lone_no_unary c cs u m v (sym t ∙ same)) m

  unary_or_mark : (c : ℕ) (cs : List ℕ) (o : Option UnaryOp) → begins_signed (c ∷ cs) ≡ false → begins_run (c ∷ cs) ≡ false → begins_operand (c ∷ cs) ≡ false → c ≢ open_paren → prefix c cs ≡ o
      → SpellsOperand dialect size levels (c ∷ cs) (or_symbol o size c cs).0 (or_symbol o size c cs).1
  unary_or_mark c cs (Some u) s n b p e = unary_spelled c cs u s n e
  unary_or_mark c cs None s n b p e = marks_spelled c cs (symbol_at (c ∷ cs)) n b p e refl

  call_spelled : (here : List ℕ) (s : Stretch) (rest behind : List ℕ) (o : Option Function) → IsOperandRun size here s rest → IsCalled s.text rest behind → function_of s.text ≡ o
      → SpellsOperand dialect size levels here (called o s) behind
  call_spelled here s rest behind (Some f) r k e =
      let P : Option Function → Type 0 = λ o. IfSome o (λ f. s.text ≡ function_text f) in
      spelling.call f s rest behind r k (subst P e (function_named s.text))
  call_spelled here s rest behind None r k e =
      spelling.unknown_call s rest behind r k (λ f same. none_named _ f e (ap function_of same ∙ function_found f))

  run_spelled : (here : List ℕ) (s : Stretch) (rest : List ℕ) → IsOperandRun size here s rest → SpellsOperand dialect size levels here (token_of_run dialect s rest).0 (token_of_run dialect s rest).1
  run_spelled here s rest r =
      branch (λ (x : Token × List ℕ). SpellsOperand dialect size levels here x.0 x.1) (begins_letter s.text && begins open_paren (skip_space rest)) _ _
      (λ e. let k = and_parts (begins_letter s.text) (begins open_paren (skip_space rest)) e in
      call_spelled here s rest (tail (skip_space rest)) (function_of s.text) r (called_when s.text rest k.0 k.1) refl)
      (λ e. branch (λ t. SpellsOperand dialect size levels here t rest) (says_something (truth_of dialect s.text)) _ _
      (λ f. spelling.number s rest r (not_called s.text rest e) f)
      (λ f. spelling.other_run s rest r (not_called s.text rest e) f))

  run_token_spelled : (here rest : List ℕ) → IsOperandRun size here (stretch size here rest) rest → SpellsOperand dialect size levels here (run_token dialect size here rest).0 (run_token dialect size here rest).1
  run_token_spelled here rest r =
      let P : Token × List ℕ → Type 0 = λ x. SpellsOperand dialect size levels here x.0 x.1 in
      let s = stretch size here rest in
      subst P (sym (run_token_is dialect size here s rest r.front (run_some s.text r.run))) (run_spelled here s rest r)

  pub operand_spelled : (here : List ℕ) → IfSome (operand_token dialect size levels here) (λ x. SpellsOperand dialect size levels here x.0 x.1)
  unfolding operand_token
  operand_spelled [] = tt
  operand_spelled (c ∷ cs) =
      let here = c ∷ cs in
      let P : Option (Token × List ℕ) → Type 0 = λ o. IfSome o (λ x. SpellsOperand dialect size levels here x.0 x.1) in
      branch P (begins_signed here) _ _ (λ e. run_token_spelled here (after_run cs) (signed_run size c cs e))
      (λ s. branch P (begins_run here) _ _ (λ e. run_token_spelled here (after_run here) (plain_run size here e))
      (λ n. branch P (begins_operand here) _ _ (λ e. operand_spelled_word here (operand size levels here) e refl)
      (λ b. branch P (c == open_paren) _ _ (λ e. spelling.parenthesis cs (ap (λ z. z ∷ cs) (eqb-true c open_paren e)))
      (λ p. unary_or_mark c cs (prefix c cs) s n b (λ same. eqb-false c open_paren p same) refl))))

  run_read : (here : List ℕ) (s : Stretch) (rest : List ℕ) → IsOperandRun size here s rest → operand_token dialect size levels here ≡ Some (token_of_run dialect s rest)
  run_read here s rest r = at_run here s rest r.front r.run r.whole ∙ ap Some (run_token_is dialect size here s rest r.front (run_some s.text r.run))

  parenthesis_read : (rest : List ℕ) → operand_token dialect size levels (open_paren ∷ rest) ≡ Some (Open, rest)
  unfolding operand_token
  parenthesis_read rest = refl

  unary_at : (here : List ℕ) (u : UnaryOp) (rest : List ℕ) → here ≡ unary_text u ++ rest → (minus ∷ rest ≡ here → begins_digit rest ≡ false) → NoLonger here 1
      → operand_token dialect size levels here ≡ Some (Unary u, rest)
  unary_at here u rest e d w = ap (operand_token dialect size levels) e ∙ unary_read u rest (λ f. d (f ∙ sym e)) (λ z behind f. w z behind (e ∙ f))

  character_at : (here : List ℕ) (c : ℕ) (s : Stretch) (rest : List ℕ) → IsFront size here s rest → s.text ≡ c ∷ [] → begins_run here ≡ false → begins_operand here ≡ false → c ≢ open_paren
      → ((u : UnaryOp) → s.text ≢ unary_text u) → NoSymbol here → operand_token dialect size levels here ≡ Some (Bareword s, rest)
  character_at here c s rest f e n b p u m =
      let j : here ≡ c ∷ rest = f.joined ∙ ap (λ (z : List ℕ). z ++ rest) e in
      let none : symbol_at (c ∷ rest) ≡ None = ap symbol_at (sym j) ∙ none_stands here (symbol_at here) refl m in
      let t : stretch size (c ∷ rest) rest ≡ s = ap (λ (z : List ℕ). stretch size z rest) (sym j) ∙ stretch_is size here s rest f in
      ap (operand_token dialect size levels) j
      ∙ character_read c rest (ap begins_run (sym j) ∙ n) (ap begins_operand (sym j) ∙ b) p (λ v same. u v (e ∙ same)) none
      ∙ ap (λ z. Some (Bareword z, rest)) t

  pub operand_read : (here : List ℕ) (t : Token) (rest : List ℕ) → SpellsOperand dialect size levels here t rest → operand_token dialect size levels here ≡ Some (t, rest)
  operand_read here _ _ (spelling.call f s rest behind r k n) =
      run_read here s rest r ∙ ap Some (call_token dialect s rest behind k ∙ ap (λ o. (called o s, behind)) (ap function_of n ∙ function_found f))
  operand_read here _ _ (spelling.unknown_call s rest behind r k n) =
      run_read here s rest r ∙ ap Some (call_token dialect s rest behind k ∙ ap (λ o. (called o s, behind)) (no_function s.text (function_of s.text) refl n))
  operand_read here _ _ (spelling.number s rest r n e) =
      run_read here s rest r ∙ ap Some (plain_token dialect s rest n ∙ ap (λ (b : Bool). (if b then Operand (literal s) else Bareword s, rest)) e)
  operand_read here _ _ (spelling.other_run s rest r n e) =
      run_read here s rest r ∙ ap Some (plain_token dialect s rest n ∙ ap (λ (b : Bool). (if b then Operand (literal s) else Bareword s, rest)) e)
  operand_read here _ _ (spelling.quoted w rest b e) = operand_here here b ∙ ap (λ r. Some (word_token r)) (((operand_is_spelled size levels here b).0 w rest).1 e)
  operand_read here _ _ (spelling.malformed m b e) = operand_here here b ∙ ap (λ r. Some (word_token r)) (((operand_is_spelled size levels here b).1 m).1 e)
  operand_read here _ _ (spelling.parenthesis rest e) = ap (operand_token dialect size levels) e ∙ parenthesis_read rest
  operand_read here _ _ (spelling.unary u rest e d w) = unary_at here u rest e d w
  operand_read here _ _ (spelling.symbol y rest i u) = symbol_operand here y rest i u
  operand_read here _ _ (spelling.other_character c s rest f e n b p u m) = character_at here c s rest f e n b p u m

  pub some_operand : (c : ℕ) (cs : List ℕ) → operand_token dialect size levels (c ∷ cs) ≡ None → ⊥
  unfolding operand_token
  some_operand c cs e =
      let P : Option (Token × List ℕ) → Type 0 = λ o. o ≡ None → ⊥ in
      branch P (begins_signed (c ∷ cs)) _ _ (λ _ f. no_option _ _ f refl) (λ _. branch P (begins_run (c ∷ cs)) _ _ (λ _ f. no_option _ _ f refl)
      (λ _. branch P (begins_operand (c ∷ cs)) _ _ (λ _ f. no_option _ _ f refl) (λ _. branch P (c == open_paren) _ _ (λ _ f. no_option _ _ f refl) (λ _ f. no_option _ _ f refl)))) e
