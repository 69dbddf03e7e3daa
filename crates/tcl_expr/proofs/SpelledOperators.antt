-- Tokens where an operator is wanted: what is spelled so is read, and what is read is spelled so.
use Rattle.std.proofs.Common.{◌≡◌, ℕ, true, false, List, [], ◌∷◌, ◌++◌, Option, Some, None, refl, sym, ap, subst, ◌∙◌}
use Rattle.std.specs.Prelude.{IfSome}
use Rattle.tcl_chars.specs.Place.{before}
use Rattle.tcl_expr.specs.declared.token.BinaryOp.{BinaryOp}
use Rattle.tcl_expr.specs.declared.token.Symbol.{Symbol}
use Rattle.tcl_expr.specs.Spelling.{begins_space, IsGap, IsFront, IsRun, IsSigned, IsOperandRun, IsCalled, IsSymbol, SpellsOperand, SpellsOperator, Spells, IsNotCalled, NoLonger, NoSymbol}
use Rattle.tcl_expr.specs.Spelling as spelling
use Rattle.tcl_expr.specs.Texts.{binary_text}
use Rattle.tcl_expr.specs.Token.{Token}
use Rattle.tcl_expr.specs.Tokens.{is_run_char, after_run, begins_run, word_operator, symbol_at, symbol_token, or_stray, operator_or_stray, operator_token}
use Rattle.tcl_chars.proofs.SpelledIndices.{before_front}
use Rattle.tcl_expr.proofs.LongestFronts.{branch, front_run, no_clash, no_option, run_ends, run_over}
use Rattle.tcl_expr.proofs.SpelledSymbols.{no_word, none_stands, none_there, symbol_is, symbol_spelled, word_found, word_named}

-- ---- where an operator is wanted

operator_run : (run rest : List ℕ) → IsRun run → begins_run rest ≡ false → operator_token (run ++ rest) ≡ Some (operator_or_stray (word_operator run), rest)
unfolding operator_token
operator_run [] rest r w = absurd (no_clash false r.some refl)
operator_run (c ∷ cs) rest r w =
    let here = c ∷ cs ++ rest in
    let a : after_run here ≡ rest = run_over (c ∷ cs) rest r.all w in
    let b : before here rest ≡ c ∷ cs = before_front (c ∷ cs) rest in
    let k : is_run_char c ≡ true = r.some in
    let P : List ℕ → Option (Token × List ℕ) = λ z. Some (operator_or_stray (word_operator (before here z)), z) in
    branch (λ z. z ≡ Some (operator_or_stray (word_operator (c ∷ cs)), rest)) (begins_run here) _ _
    (λ e. ap P a ∙ ap (λ z. Some (operator_or_stray (word_operator z), rest)) b)
    (λ e. absurd (no_clash (begins_run here) k e))

operator_no_run : (c : ℕ) (cs : List ℕ) → begins_run (c ∷ cs) ≡ false → operator_token (c ∷ cs) ≡ Some (or_stray (symbol_at (c ∷ cs)) cs)
unfolding operator_token
operator_no_run c cs n =
    branch (λ z. z ≡ Some (or_stray (symbol_at (c ∷ cs)) cs)) (begins_run (c ∷ cs)) _ _
    (λ e. absurd (no_clash (begins_run (c ∷ cs)) e n)) (λ e. refl)

operator_symbol : (here : List ℕ) (y : Symbol) (rest : List ℕ) → begins_run here ≡ false → symbol_at here ≡ Some (y, rest) → operator_token here ≡ Some (symbol_token y, rest)
operator_symbol [] y rest n e = absurd cc
operator_symbol (c ∷ cs) y rest n e = operator_no_run c cs n ∙ ap (λ o. Some (or_stray o cs)) e

pub operator_read : (here : List ℕ) (t : Token) (rest : List ℕ) → SpellsOperator here t rest → operator_token here ≡ Some (t, rest)
operator_read here _ _ (spelling.word_operator op rest e r w) =
    ap operator_token e ∙ operator_run (binary_text op) rest r w ∙ ap (λ o. Some (operator_or_stray o, rest)) (word_found op r.some)
operator_read here _ _ (spelling.symbol y rest i) = operator_symbol here y rest i.no_run (symbol_is here y rest i)
operator_read here _ _ (spelling.other_run run rest e r w n) =
    ap operator_token e ∙ operator_run run rest r w ∙ ap (λ o. Some (operator_or_stray o, rest)) (no_word run (word_operator run) refl n)
operator_read here _ _ (spelling.other_character c rest e n s) =
    let m : symbol_at (c ∷ rest) ≡ None = ap symbol_at (sym e) ∙ none_stands here (symbol_at here) refl s in
    ap operator_token e ∙ operator_no_run c rest (ap begins_run (sym e) ∙ n) ∙ ap (λ o. Some (or_stray o rest)) m

word_spelled : (here rest : List ℕ) (run : List ℕ) (o : Option BinaryOp) → word_operator run ≡ o → here ≡ run ++ rest → IsRun run → begins_run rest ≡ false → SpellsOperator here (operator_or_stray o) rest
word_spelled here rest run (Some op) e j r w =
    let P : Option BinaryOp → Type 0 = λ o. IfSome o (λ op. run ≡ binary_text op) in
    let same : run ≡ binary_text op = subst P e (word_named run) in
    spelling.word_operator op rest (j ∙ ap (λ (z : List ℕ). z ++ rest) same) (subst IsRun same r) w
word_spelled here rest run None e j r w = spelling.other_run run rest j r w (λ op same. let k = sym e ∙ ap word_operator same ∙ word_found op (ap begins_run (sym same) ∙ r.some) in absurd cc)

stray_spelled : (c : ℕ) (cs : List ℕ) (o : Option (Symbol × List ℕ)) → begins_run (c ∷ cs) ≡ false → symbol_at (c ∷ cs) ≡ o → SpellsOperator (c ∷ cs) (or_stray o cs).0 (or_stray o cs).1
stray_spelled c cs (Some x) n e = spelling.symbol x.0 x.1 (symbol_spelled (c ∷ cs) x.0 x.1 n e)
stray_spelled c cs None n e = spelling.other_character c cs refl n (none_there (c ∷ cs) n e)

pub operator_spelled : (here : List ℕ) → IfSome (operator_token here) (λ x. SpellsOperator here x.0 x.1)
unfolding operator_token
operator_spelled [] = tt
operator_spelled (c ∷ cs) =
    let here = c ∷ cs in
    let P : Option (Token × List ℕ) → Type 0 = λ o. IfSome o (λ x. SpellsOperator here x.0 x.1) in
    branch P (begins_run here) _ _
    (λ e. let k = front_run here e in word_spelled here (after_run here) (before here (after_run here)) (word_operator (before here (after_run here))) refl k.0 k.1 (run_ends here))
    (λ e. stray_spelled c cs (symbol_at here) e refl)

pub some_operator : (c : ℕ) (cs : List ℕ) → operator_token (c ∷ cs) ≡ None → ⊥
unfolding operator_token
some_operator c cs e = branch (λ o. o ≡ None → ⊥) (begins_run (c ∷ cs)) _ _ (λ _ f. no_option _ _ f refl) (λ _ f. no_option _ _ f refl) e
