-- The words of an expression's operands nest no deeper than may be, and the scripts in them are shorter than the text.
use Rattle.std.proofs.Common.{◌≡◌, ℕ, zero, suc, ◌-◌, ◌≤◌, Bool, ◌==◌, ◌&&◌, List, [], ◌∷◌, length, Option, Some, None, Result, Ok, Err, refl, sym, subst, arith}
use Rattle.std.specs.Prelude.{IfOk, IfSome}
use Rattle.tcl_chars.specs.Characters.{open_paren}
use Rattle.tcl_chars.specs.Place.{begins, before}
use Rattle.tcl_chars.specs.Truth.{truth_of}
use Rattle.tcl_chars.specs.Whole.{skip_space}
use Rattle.tcl_chars.specs.declared.numbers.Dialect.{Dialect}
use Rattle.tcl_words.specs.First.{operand, begins_operand, most_levels}
use Rattle.tcl_words.specs.Parts.{Stretch, Shape, parts_of}
use Rattle.tcl_words.specs.Words.{stretch}
use Rattle.tcl_words.specs.declared.fault.Syntax.{Syntax}
use Rattle.tcl_chars.proofs.Ends.{if_cond, ends_le}
use Rattle.tcl_expr.specs.declared.token.BinaryOp.{BinaryOp}
use Rattle.tcl_expr.specs.declared.token.Function.{Function}
use Rattle.tcl_expr.specs.declared.token.UnaryOp.{UnaryOp}
use Rattle.tcl_expr.specs.Expr as tree
use Rattle.tcl_expr.specs.Expr.{Expr, Rest, Args}
use Rattle.tcl_expr.specs.ExprFault.{ExprFault}
use Rattle.tcl_expr.specs.Faults.{Opened, wants_operand, open_at, after, wanted_after, lowest}
use Rattle.tcl_expr.specs.Grammar.{spelled, spelled_rest, spelled_args, spelled_more, IsTree}
use Rattle.tcl_expr.specs.Token.{Token, Operand, Power, Question, Colon, Close}
use Rattle.tcl_expr.specs.Tokens.{after_run, begins_run, begins_letter, begins_signed, function_of, word_operator, says_something, called, run_token, symbol_at, symbol_token, prefix, word_token, or_bareword, or_symbol, operand_token, or_stray, operator_or_stray, operator_token, next_token, unless_faulty, with_token, tokens_from, tokens_at, tokens}
use Rattle.tcl_expr.proofs.Marks.{symbol_cases}
use Rattle.tcl_expr.proofs.Suffix.{ends_space, shorter_next}
use Rattle.tcl_meaning.specs.Nesting.{PartsNest}
use Rattle.tcl_meaning.proofs.Nests.{operand_nests, parts_nest_more}
use Rattle.tcl_compile.specs.Trees.{LeafIsRead, TreeIsRead, RestIsRead, ArgsAreRead}
use Rattle.tcl_compile.specs.Within.{PartsWithin}
use Rattle.tcl_compile.proofs.Within.{operand_within}

-- an operand's token has a leaf that is read so
abbrev TokenIsRead : ℕ → Token → Type 0
TokenIsRead n (Operand x) = LeafIsRead n x
TokenIsRead n _ = Unit {0}

abbrev TokensAreRead : ℕ → List Token → Type 0
TokensAreRead n [] = Unit {0}
TokensAreRead n (t ∷ ts) = TokenIsRead n t × TokensAreRead n ts

-- ---- one token

abbrev Gives : ℕ → Option (Token × List ℕ) → Type 0
Gives n o = IfSome o (λ x. TokenIsRead n x.0)

word_is_read : (size levels n : ℕ) (cs : List ℕ) → levels ≤ most_levels → length cs ≤ suc n → TokenIsRead n (word_token (operand size levels cs)).0
word_is_read size levels n cs le short = go (operand size levels cs) (operand_nests size levels cs) (operand_within size levels n cs short)
  where
    go : (r : Result (Shape × List ℕ) Syntax) → IfOk r (λ x. PartsNest levels (parts_of x.0.pieces)) → IfOk r (λ x. PartsWithin n (parts_of x.0.pieces)) → TokenIsRead n (word_token r).0
    go (Ok x) h k = (parts_nest_more levels most_levels (parts_of x.0.pieces) le h, k)
    go (Err m) h k = tt

called_is_read : (n : ℕ) (f : Option Function) (s : Stretch) → TokenIsRead n (called f s)
called_is_read n (Some f) s = tt
called_is_read n None s = tt

run_is_read : (n : ℕ) (dialect : Dialect) (size : ℕ) (cs rest : List ℕ) → TokenIsRead n (run_token dialect size cs rest).0
run_is_read n dialect size cs rest =
    if_cond (λ (x : Token × List ℕ). TokenIsRead n x.0) (begins_letter cs && begins open_paren (skip_space rest)) _ _ (called_is_read n (function_of (before cs rest)) (stretch size cs rest))
    (if_cond (TokenIsRead n) (says_something (truth_of dialect (before cs rest))) _ _ tt tt)

symbol_is_read : (n : ℕ) (s : _) → TokenIsRead n (symbol_token s)
symbol_is_read n s = symbol_cases (TokenIsRead n) (λ o. tt) tt tt tt tt tt s

bareword_is_read : (n : ℕ) (o : _) (s : Stretch) (rest : List ℕ) → TokenIsRead n (or_bareword o s rest).0
bareword_is_read n (Some x) s rest = symbol_is_read n x.0
bareword_is_read n None s rest = tt

prefix_is_read : (n : ℕ) (o : Option UnaryOp) (size c : ℕ) (cs : List ℕ) → TokenIsRead n (or_symbol o size c cs).0
prefix_is_read n (Some u) size c cs = tt
prefix_is_read n None size c cs = bareword_is_read n (symbol_at (c ∷ cs)) (stretch size (c ∷ cs) cs) cs

stray_is_read : (n : ℕ) (o : _) (rest : List ℕ) → TokenIsRead n (or_stray o rest).0
stray_is_read n (Some x) rest = symbol_is_read n x.0
stray_is_read n None rest = tt

word_operator_is_read : (n : ℕ) (o : Option BinaryOp) → TokenIsRead n (operator_or_stray o)
word_operator_is_read n (Some op) = tt
word_operator_is_read n None = tt

operand_is_read : (n : ℕ) (dialect : Dialect) (size levels : ℕ) (cs : List ℕ) → levels ≤ most_levels → length cs ≤ suc n → Gives n (operand_token dialect size levels cs)
unfolding operand_token
operand_is_read n dialect size levels [] le short = tt
operand_is_read n dialect size levels (c ∷ cs) le short =
    if_cond (Gives n) (begins_signed (c ∷ cs)) _ _ (run_is_read n dialect size (c ∷ cs) (after_run cs))
    (if_cond (Gives n) (begins_run (c ∷ cs)) _ _ (run_is_read n dialect size (c ∷ cs) (after_run (c ∷ cs)))
    (if_cond (Gives n) (begins_operand (c ∷ cs)) _ _ (word_is_read size levels n (c ∷ cs) le short)
    (if_cond (Gives n) (c == open_paren) _ _ tt (prefix_is_read n (prefix c cs) size c cs))))

operator_is_read : (n : ℕ) (cs : List ℕ) → Gives n (operator_token cs)
unfolding operator_token
operator_is_read n [] = tt
operator_is_read n (c ∷ cs) = if_cond (Gives n) (begins_run (c ∷ cs)) _ _ (word_operator_is_read n (word_operator (before (c ∷ cs) (after_run (c ∷ cs))))) (stray_is_read n (symbol_at (c ∷ cs)) cs)

next_is_read : (n : ℕ) (dialect : Dialect) (size : ℕ) (wants : Bool) (levels : ℕ) (cs : List ℕ) → levels ≤ most_levels → length cs ≤ suc n → Gives n (next_token dialect size wants levels cs)
unfolding next_token
next_is_read n dialect size wants levels cs le short =
    if_cond (Gives n) wants _ _ (operand_is_read n dialect size levels (skip_space cs) le (omega (arith, ends_le cs (skip_space cs) (ends_space cs)))) (operator_is_read n (skip_space cs))

-- ---- all tokens

unless_read : (n : ℕ) (m : Option ExprFault) (ts : List Token) → TokensAreRead n ts → TokensAreRead n (unless_faulty m ts)
unless_read n (Some m) ts h = tt
unless_read n None ts h = h

tokens_read_from : (n k : ℕ) (dialect : Dialect) (size : ℕ) (p : _) (os : List Opened) (cs : List ℕ) → length cs ≤ suc n → TokensAreRead n (tokens_from k dialect size p os cs)
unfolding tokens_from
tokens_read_from n zero dialect size p os cs short = tt
tokens_read_from n (suc k) dialect size p os cs short = go (next_token dialect size (wants_operand p) (most_levels - length os) cs) refl (next_is_read n dialect size (wants_operand p) (most_levels - length os) cs (omega arith) short) (λ q qs rest. tokens_read_from n k dialect size q qs rest)
  where
    go : (o : Option (Token × List ℕ)) → next_token dialect size (wants_operand p) (most_levels - length os) cs ≡ o → Gives n o → ((q : _) (qs : List Opened) (rest : List ℕ) → length rest ≤ suc n → TokensAreRead n (tokens_from k dialect size q qs rest))
        → TokensAreRead n (with_token o (λ t rest. t ∷ unless_faulty (lowest p os (Some t)) (tokens_from k dialect size (wanted_after t) (after t (open_at p t os)) rest)))
    go None e h more = tt
    go (Some (t, rest)) e h more =
        let less = shorter_next dialect size (wants_operand p) (most_levels - length os) cs t rest e in
        (h, unless_read n (lowest p os (Some t)) _ (more (wanted_after t) (after t (open_at p t os)) rest (omega (arith, less, short))))

tokens_read : (dialect : Dialect) (t : List ℕ) → TokensAreRead (length t - 1) (tokens dialect t)
unfolding tokens tokens_at
tokens_read dialect t = tokens_read_from (length t - 1) _ dialect _ _ _ t (omega arith)

-- ---- the tree that they spell

mutual
  unfolding spelled spelled_rest spelled_args spelled_more

  tree_read : (n : ℕ) (e : Expr) (k : List Token) → TokensAreRead n (spelled e k) → TreeIsRead n e × TokensAreRead n k
  tree_read n (tree.operand x) k h = h
  tree_read n (tree.group e) k h = let a = tree_read n e (Close ∷ k) h.1 in (a.0, a.1.1)
  tree_read n (tree.call f s es) k h = let a = args_read n es (Close ∷ k) h.1 in (a.0, a.1.1)
  tree_read n (tree.unary u e) k h = tree_read n e k h.1
  tree_read n (tree.power e f) k h =
      let a = tree_read n e (Power ∷ spelled f k) h in
      let b = tree_read n f k a.1.1 in
      ((a.0, b.0), b.1)
  tree_read n (tree.chain q e r) k h =
      let a = tree_read n e (spelled_rest r k) h in
      let b = rest_read n r k a.1 in
      ((a.0, b.0), b.1)
  tree_read n (tree.choice c e f) k h =
      let a = tree_read n c (Question ∷ spelled e (Colon ∷ spelled f k)) h in
      let b = tree_read n e (Colon ∷ spelled f k) a.1.1 in
      let d = tree_read n f k b.1.1 in
      ((a.0, b.0, d.0), d.1)

  rest_read : (n : ℕ) (r : Rest) (k : List Token) → TokensAreRead n (spelled_rest r k) → RestIsRead n r × TokensAreRead n k
  rest_read n tree.last k h = (tt, h)
  rest_read n (tree.next o e r) k h =
      let a = tree_read n e (spelled_rest r k) h.1 in
      let b = rest_read n r k a.1 in
      ((a.0, b.0), b.1)

  args_read : (n : ℕ) (es : Args) (k : List Token) → TokensAreRead n (spelled_args es k) → ArgsAreRead n es × TokensAreRead n k
  args_read n tree.no_args k h = (tt, h)
  args_read n (tree.arg e es) k h =
      let a = tree_read n e (spelled_more es k) h in
      let b = more_read n es k a.1 in
      ((a.0, b.0), b.1)

  more_read : (n : ℕ) (es : Args) (k : List Token) → TokensAreRead n (spelled_more es k) → ArgsAreRead n es × TokensAreRead n k
  more_read n tree.no_args k h = (tt, h)
  more_read n (tree.arg e es) k h =
      let a = tree_read n e (spelled_more es k) h.1 in
      let b = more_read n es k a.1 in
      ((a.0, b.0), b.1)

pub tree_is_read : (dialect : Dialect) (t : List ℕ) (e : Expr) → IsTree (tokens dialect t) e → TreeIsRead (length t - 1) e
tree_is_read dialect t e h = (tree_read (length t - 1) e [] (subst (TokensAreRead (length t - 1)) (sym h.written) (tokens_read dialect t))).0
