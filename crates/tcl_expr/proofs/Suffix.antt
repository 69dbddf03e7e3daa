-- What a reader leaves ends the text that it was given, and is shorter where a token was read.
use Rattle.std.proofs.Common.{◌≡◌, ℕ, ◌<◌, Bool, true, false, List, [], ◌∷◌, length, Option, Some, None, Result, Ok, Err, sym, subst}
use Rattle.std.proofs.lemmas.List.{append-nil}
use Rattle.std.specs.Prelude.{cond, IfSome, IfOk, ◌&&◌, ◌==◌}
use Rattle.tcl_chars.specs.Characters.{open_paren, open_brace, open_bracket, quote}
use Rattle.tcl_chars.specs.declared.numbers.Dialect.{Dialect}
use Rattle.tcl_chars.specs.Place.{EndsWith, begins, tail}
use Rattle.tcl_chars.specs.Whole.{skip_space}
use Rattle.tcl_words.specs.declared.fault.Syntax.{Syntax}
use Rattle.tcl_words.specs.First.{operand, begins_operand}
use Rattle.tcl_words.specs.Parts.{Shape, Stretch}
use Rattle.tcl_words.specs.Words.{stretch, Inner, inner_at, at_variable_brace, after_name, named, variable_at, bracket_at, braced_at, quoted_at, operand_at}
use Rattle.tcl_chars.proofs.Ends.{IsPast, ends_self, ends_more, ends_trans, ends_tail, past_more, past_then, then_past, if_cond, if_bind, if_weak, Ends, Past}
use Rattle.tcl_words.proofs.Forward.{Inside, inner_inside, variable_brace_end, name_end, named_end, braced_end, quoted_end}
use Rattle.tcl_expr.proofs.LongestFronts.{branch, space_gap, run_front}
use Rattle.tcl_expr.specs.declared.token.Symbol.{Symbol}
use Rattle.tcl_expr.specs.declared.token.UnaryOp.{UnaryOp}
use Rattle.tcl_expr.specs.Token.{Token}
use Rattle.tcl_expr.specs.Tokens.{is_run_char, begins_run, begins_signed, begins_letter, after_run, run_token, one, two, with_rest, or_one, symbol_at, prefix, word_token, or_bareword, or_symbol, operand_token, or_stray, operator_token, next_token}

-- ---- runs and white space

pub ends_space : (cs : List ℕ) → EndsWith cs (skip_space cs)
ends_space cs = let g = space_gap cs in record { front = g.space; joined = g.joined }

pub ends_run : (cs : List ℕ) → EndsWith cs (after_run cs)
ends_run cs = let f = run_front cs in record { front = f.text; joined = f.joined }

-- the same, of texts that are named
pub ends_behind_space : (text cs rest : List ℕ) → EndsWith text cs → rest ≡ skip_space cs → EndsWith text rest
ends_behind_space text cs rest h e = subst (EndsWith text) (sym e) (ends_trans text cs (skip_space cs) h (ends_space cs))

pub ends_behind_run : (cs rest : List ℕ) → rest ≡ after_run cs → EndsWith cs rest
ends_behind_run cs rest e = subst (EndsWith cs) (sym e) (ends_run cs)

pub ends_behind_signed : (cs ds rest : List ℕ) (c : ℕ) → cs ≡ c ∷ ds → rest ≡ after_run ds → EndsWith cs rest
ends_behind_signed cs ds rest c f e = subst (λ (z : List ℕ). EndsWith z rest) (sym f) (ends_more c ds rest (ends_behind_run ds rest e))

pub ends_behind_first : (cs ds : List ℕ) (c : ℕ) → cs ≡ c ∷ ds → EndsWith cs ds
ends_behind_first cs ds c f = subst (λ (z : List ℕ). EndsWith z ds) (sym f) (ends_more c ds ds (ends_self ds))

-- ---- tokens

run_past : (c : ℕ) (cs : List ℕ) → is_run_char c ≡ true → IsPast (c ∷ cs) (after_run (c ∷ cs))
unfolding after_run
run_past c cs e = rw e (past_more c cs (after_run cs) (ends_run cs))

run_token_past : (dialect : Dialect) (size : ℕ) (cs rest : List ℕ) → IsPast cs rest → IsPast cs (run_token dialect size cs rest).1
run_token_past dialect size cs rest p =
    branch (λ (x : Token × List ℕ). IsPast cs x.1) (begins_letter cs && begins open_paren (skip_space rest)) _ _
    (λ e. past_then cs rest (tail (skip_space rest)) p (ends_trans rest (skip_space rest) (tail (skip_space rest)) (ends_space rest) (ends_tail (skip_space rest))))
    (λ e. p)

with_rest_ends : (P : List ℕ → Type 0) (o : Option Symbol) (rest : List ℕ) → P rest → IfSome (with_rest o rest) (λ x. P x.1)
with_rest_ends P (Some s) rest h = h
with_rest_ends P None rest h = tt

or_one_ends : (P : List ℕ → Type 0) (o : Option Symbol) (c d : ℕ) (cs : List ℕ) → P cs → P (d ∷ cs) → IfSome (or_one o c d cs) (λ x. P x.1)
or_one_ends P (Some s) c d cs h k = h
or_one_ends P None c d cs h k = with_rest_ends P (one c) (d ∷ cs) k

symbol_past : (c : ℕ) (cs : List ℕ) → IfSome (symbol_at (c ∷ cs)) (λ x. IsPast (c ∷ cs) x.1)
symbol_past c [] = with_rest_ends (IsPast (c ∷ [])) (one c) [] (past_more c [] [] (ends_self []))
symbol_past c (d ∷ cs) = or_one_ends (IsPast (c ∷ d ∷ cs)) (two c d) c d cs (past_more c (d ∷ cs) cs (ends_tail (d ∷ cs))) (past_more c (d ∷ cs) (d ∷ cs) (ends_self (d ∷ cs)))

or_bareword_past : (P : List ℕ → Type 0) (o : Option (Symbol × List ℕ)) (s : Stretch) (rest : List ℕ) → IfSome o (λ x. P x.1) → P rest → P (or_bareword o s rest).1
or_bareword_past P (Some x) s rest h k = h
or_bareword_past P None s rest h k = k

or_symbol_past : (o : Option UnaryOp) (size c : ℕ) (cs : List ℕ) → IsPast (c ∷ cs) (or_symbol o size c cs).1
or_symbol_past (Some u) size c cs = past_more c cs cs (ends_self cs)
or_symbol_past None size c cs = or_bareword_past (IsPast (c ∷ cs)) (symbol_at (c ∷ cs)) (stretch size (c ∷ cs) cs) cs (symbol_past c cs) (past_more c cs cs (ends_self cs))

or_stray_past : (P : List ℕ → Type 0) (o : Option (Symbol × List ℕ)) (rest : List ℕ) → IfSome o (λ x. P x.1) → P rest → P (or_stray o rest).1
or_stray_past P (Some x) rest h k = h
or_stray_past P None rest h k = k

past_all : (c : ℕ) (cs : List ℕ) → IsPast (c ∷ cs) []
past_all c cs = past_more c cs [] (record { front = cs; joined = sym (append-nil cs) })

word_past : (c : ℕ) (cs : List ℕ) (r : Result (Shape × List ℕ) Syntax) → IfOk r (λ x. IsPast (c ∷ cs) x.1) → IsPast (c ∷ cs) (word_token r).1
word_past c cs (Ok x) h = h
word_past c cs (Err m) h = past_all c cs

-- an operand takes the character that opens it, and more
module _ (size : ℕ) (inner : Inner) (inside : Inside inner) where
  variable_end : (cs : List ℕ) → Ends (tail cs) (variable_at size inner cs)
  unfolding variable_at
  variable_end cs =
      if_cond (Ends (tail cs)) (begins open_brace (tail cs)) _ _
      (if_bind (EndsWith (tail (tail cs))) (λ x. EndsWith (tail cs) x.1) (at_variable_brace (tail (tail cs))) _ (variable_brace_end (tail (tail cs)))
      (λ close h. ends_trans (tail cs) (tail (tail cs)) (tail close) (ends_tail (tail cs)) (ends_trans (tail (tail cs)) close (tail close) h (ends_tail close))))
      (if_weak (λ x. EndsWith (after_name false (tail cs)) x.1) (λ x. EndsWith (tail cs) x.1) (named size inner cs (tail cs) (after_name false (tail cs))) (named_end size inner inside cs (tail cs) (after_name false (tail cs)))
      (λ x h. ends_trans (tail cs) (after_name false (tail cs)) x.1 (name_end false (tail cs)) h))

  bracket_end : (cs : List ℕ) → Ends (tail cs) (bracket_at size inner cs)
  bracket_end cs = if_bind (EndsWith (tail cs)) (λ x. EndsWith (tail cs) x.1) (inner.bracket (tail cs)) _ (inside.bracket_end (tail cs)) (λ close h. ends_trans (tail cs) close (tail close) h (ends_tail close))

  word_at_past : (c : ℕ) (cs : List ℕ) → Past (c ∷ cs) (operand_at size inner (c ∷ cs))
  unfolding operand_at
  word_at_past c cs =
      let here = c ∷ cs in
      let lone = cond (begins open_bracket here) (bracket_at size inner here) (variable_at size inner here) in
      if_cond (Past here) (begins open_brace here) _ _ (if_bind (λ x. EndsWith cs x.1) (λ x. IsPast here x.1) (braced_at size here) _ (braced_end size here) (λ x h. past_more c cs x.1 h))
      (if_cond (Past here) (begins quote here) _ _ (if_bind (λ x. EndsWith cs x.1) (λ x. IsPast here x.1) (quoted_at size inner here) _ (quoted_end size inner inside here) (λ x h. past_more c cs x.1 h))
      (if_bind (λ x. EndsWith cs x.1) (λ x. IsPast here x.1) lone _ (if_cond (Ends cs) (begins open_bracket here) _ _ (bracket_end here) (variable_end here)) (λ x h. past_more c cs x.1 h)))

operand_past : (size levels c : ℕ) (cs : List ℕ) → IfOk (operand size levels (c ∷ cs)) (λ x. IsPast (c ∷ cs) x.1)
unfolding operand
operand_past size levels c cs = word_at_past size (inner_at size levels) (inner_inside size levels) c cs

abbrev pub Goes : List ℕ → Option (Token × List ℕ) → Type 0
Goes cs found = IfSome found (λ x. IsPast cs x.1)

operand_goes : (dialect : Dialect) (size levels : ℕ) (cs : List ℕ) → Goes cs (operand_token dialect size levels cs)
unfolding operand_token
operand_goes dialect size levels [] = tt
operand_goes dialect size levels (c ∷ cs) =
    branch (Goes (c ∷ cs)) (begins_signed (c ∷ cs)) _ _ (λ e. run_token_past dialect size (c ∷ cs) (after_run cs) (past_more c cs (after_run cs) (ends_run cs)))
    (λ e. branch (Goes (c ∷ cs)) (begins_run (c ∷ cs)) _ _ (λ f. run_token_past dialect size (c ∷ cs) (after_run (c ∷ cs)) (run_past c cs f))
    (λ f. branch (Goes (c ∷ cs)) (begins_operand (c ∷ cs)) _ _ (λ g. word_past c cs (operand size levels (c ∷ cs)) (operand_past size levels c cs))
    (λ g. branch (Goes (c ∷ cs)) (c == open_paren) _ _ (λ h. past_more c cs cs (ends_self cs)) (λ h. or_symbol_past (prefix c cs) size c cs))))

operator_goes : (cs : List ℕ) → Goes cs (operator_token cs)
unfolding operator_token
operator_goes [] = tt
operator_goes (c ∷ cs) =
    branch (Goes (c ∷ cs)) (begins_run (c ∷ cs)) _ _ (λ e. run_past c cs e)
    (λ e. or_stray_past (IsPast (c ∷ cs)) (symbol_at (c ∷ cs)) cs (symbol_past c cs) (past_more c cs cs (ends_self cs)))

goes_behind : (cs ds : List ℕ) (found : Option (Token × List ℕ)) → EndsWith cs ds → Goes ds found → Goes cs found
goes_behind cs ds None e h = tt
goes_behind cs ds (Some x) e h = then_past cs ds x.1 e h

next_goes : (dialect : Dialect) (size : ℕ) (wants : Bool) (levels : ℕ) (cs : List ℕ) → Goes cs (next_token dialect size wants levels cs)
unfolding next_token
next_goes dialect size wants levels cs =
    branch (Goes cs) wants _ _
    (λ e. goes_behind cs (skip_space cs) _ (ends_space cs) (operand_goes dialect size levels (skip_space cs)))
    (λ e. goes_behind cs (skip_space cs) _ (ends_space cs) (operator_goes (skip_space cs)))

next_past : (dialect : Dialect) (size : ℕ) (wants : Bool) (levels : ℕ) (cs : List ℕ) (t : Token) (rest : List ℕ) → next_token dialect size wants levels cs ≡ Some (t, rest) → IsPast cs rest
next_past dialect size wants levels cs t rest e = subst (Goes cs) e (next_goes dialect size wants levels cs)

pub ends_next : (dialect : Dialect) (size : ℕ) (wants : Bool) (levels : ℕ) (cs : List ℕ) (t : Token) (rest : List ℕ) → next_token dialect size wants levels cs ≡ Some (t, rest) → EndsWith cs rest
ends_next dialect size wants levels cs t rest e = (next_past dialect size wants levels cs t rest e).ends

pub shorter_next : (dialect : Dialect) (size : ℕ) (wants : Bool) (levels : ℕ) (cs : List ℕ) (t : Token) (rest : List ℕ) → next_token dialect size wants levels cs ≡ Some (t, rest) → length rest < length cs
shorter_next dialect size wants levels cs t rest e = (next_past dialect size wants levels cs t rest e).less
