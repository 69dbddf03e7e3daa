-- The tokens of a text are those by which it is spelled.
use Rattle.std.proofs.Common.{◌≡◌, ℕ, zero, suc, ◌<◌, ◌-◌, true, List, [], ◌∷◌, length, Option, Some, None, refl, sym, ap, subst, ◌∙◌, arith}
use Rattle.std.specs.Prelude.{IfSome, ◌↔◌}
use Rattle.std.specs.List.{list_all}
use Rattle.std.proofs.lemmas.List.{append-nil}
use Rattle.tcl_chars.specs.Classes.{is_list_space}
use Rattle.tcl_chars.specs.Place.{bytes}
use Rattle.tcl_chars.specs.Whole.{skip_space}
use Rattle.tcl_chars.specs.declared.numbers.Dialect.{Dialect}
use Rattle.tcl_expr.specs.declared.state.Wanted.{Wanted}
use Rattle.tcl_expr.specs.declared.state.Wanted.TheVariants as wanted
use Rattle.tcl_expr.specs.ExprFault.{ExprFault}
use Rattle.tcl_expr.specs.Faults.{Opened, wants_operand, open_at, after, wanted_after, lowest}
use Rattle.tcl_expr.specs.Grammar.{most_levels}
use Rattle.tcl_expr.specs.Spelling.{IsGap, Spells, AreTokens, IsSpelled}
use Rattle.tcl_expr.specs.Spelling as spelling
use Rattle.tcl_expr.specs.Token.{Token}
use Rattle.tcl_expr.specs.Tokens.{next_token, unless_faulty, tokens_at, tokens}
use Rattle.tcl_expr.proofs.Lexing.{no_token, one_token}
use Rattle.tcl_expr.proofs.LongestFronts.{space_gap, gap_skipped}
use Rattle.tcl_expr.proofs.SpelledTokens.{token_here, token_read, token_spelled, no_token_here, nothing_here, next_is}
use Rattle.tcl_expr.proofs.Suffix.{shorter_next}

-- white space alone is skipped, and no other text is
blank_skipped : (cs : List ℕ) → list_all is_list_space cs ≡ true → skip_space cs ≡ []
blank_skipped cs b = gap_skipped cs [] (record { space = cs; joined = sym (append-nil cs); blank = b; ends = refl })

skipped_blank : (cs : List ℕ) → skip_space cs ≡ [] → list_all is_list_space cs ≡ true
skipped_blank cs e =
    let g = subst (IsGap cs) e (space_gap cs) in
    ap (list_all is_list_space) (g.joined ∙ append-nil g.space) ∙ g.blank

module _ (dialect : Dialect) (size : ℕ) where
  next_read : (p : Wanted) (os : List Opened) (cs here rest : List ℕ) (t : Token) → IsGap cs here → Spells (wants_operand p) dialect size (most_levels - length os) here t rest → next_token dialect size (wants_operand p) (most_levels - length os) cs ≡ Some (t, rest)
  next_read p os cs here rest t g h =
      next_is dialect size (wants_operand p) (most_levels - length os) cs
      ∙ ap (token_here (wants_operand p) dialect size (most_levels - length os)) (gap_skipped cs here g)
      ∙ token_read (wants_operand p) dialect size (most_levels - length os) here t rest h

  -- what is spelled is read
  spelled_read : (p : Wanted) (os : List Opened) (cs : List ℕ) (ts : List Token) → AreTokens dialect size p os cs ts → tokens_at dialect size p os cs ≡ ts
  spelled_read _ _ _ _ (spelling.none p os cs b) =
      no_token dialect size p os cs (next_is dialect size (wants_operand p) (most_levels - length os) cs
      ∙ ap (token_here (wants_operand p) dialect size (most_levels - length os)) (blank_skipped cs b)
      ∙ nothing_here (wants_operand p) dialect size (most_levels - length os))
  spelled_read _ _ _ _ (spelling.faulty p os cs here rest t m g h f) =
      one_token dialect size p os cs t rest (next_read p os cs here rest t g h)
      ∙ ap (λ (o : Option ExprFault). t ∷ unless_faulty o (tokens_at dialect size (wanted_after t) (after t (open_at p t os)) rest)) f
  spelled_read _ _ _ _ (spelling.next p os cs here rest t ts g h f k) =
      one_token dialect size p os cs t rest (next_read p os cs here rest t g h)
      ∙ ap (λ (o : Option ExprFault). t ∷ unless_faulty o (tokens_at dialect size (wanted_after t) (after t (open_at p t os)) rest)) f
      ∙ ap (λ (us : List Token). t ∷ us) (spelled_read (wanted_after t) (after t (open_at p t os)) rest ts k)

  -- what is read is spelled
  Found : Wanted → List Opened → List ℕ → Token → List ℕ → Type 0
  Found p os cs t rest = Spells (wants_operand p) dialect size (most_levels - length os) (skip_space cs) t rest

  found : (p : Wanted) (os : List Opened) (cs : List ℕ) (t : Token) (rest : List ℕ) → next_token dialect size (wants_operand p) (most_levels - length os) cs ≡ Some (t, rest) → Found p os cs t rest
  unfolding Found
  found p os cs t rest e =
      let P : Option (Token × List ℕ) → Type 0 = λ o. IfSome o (λ x. Spells (wants_operand p) dialect size (most_levels - length os) (skip_space cs) x.0 x.1) in
      subst P (sym (next_is dialect size (wants_operand p) (most_levels - length os) cs) ∙ e) (token_spelled (wants_operand p) dialect size (most_levels - length os) (skip_space cs))

  ended : (p : Wanted) (os : List Opened) (cs : List ℕ) → next_token dialect size (wants_operand p) (most_levels - length os) cs ≡ None → AreTokens dialect size p os cs []
  ended p os cs e =
      spelling.none p os cs (skipped_blank cs (no_token_here (wants_operand p) dialect size (most_levels - length os) (skip_space cs) (sym (next_is dialect size (wants_operand p) (most_levels - length os) cs) ∙ e)))

  one_more : (p : Wanted) (os : List Opened) (cs rest : List ℕ) (t : Token) (o : Option ExprFault) (ts : List Token) → lowest p os (Some t) ≡ o → Found p os cs t rest → AreTokens dialect size (wanted_after t) (after t (open_at p t os)) rest ts
      → AreTokens dialect size p os cs (t ∷ unless_faulty o ts)
  unfolding Found
  one_more p os cs rest t None ts e h k = spelling.next p os cs (skip_space cs) rest t ts (space_gap cs) h e k
  one_more p os cs rest t (Some m) ts e h k = spelling.faulty p os cs (skip_space cs) rest t m (space_gap cs) h e

  read_spelled : (n : ℕ) (p : Wanted) (os : List Opened) (cs : List ℕ) (o : Option (Token × List ℕ)) → length cs < n → next_token dialect size (wants_operand p) (most_levels - length os) cs ≡ o → AreTokens dialect size p os cs (tokens_at dialect size p os cs)
  read_spelled zero p os cs o lt e = absurd (omega arith)
  read_spelled (suc n) p os cs None lt e = subst (AreTokens dialect size p os cs) (sym (no_token dialect size p os cs e)) (ended p os cs e)
  read_spelled (suc n) p os cs (Some x) lt e =
      let less = shorter_next dialect size (wants_operand p) (most_levels - length os) cs x.0 x.1 e in
      let p' = wanted_after x.0 in
      let os' = after x.0 (open_at p x.0 os) in
      subst (AreTokens dialect size p os cs) (sym (one_token dialect size p os cs x.0 x.1 e))
      (one_more p os cs x.1 x.0 (lowest p os (Some x.0)) (tokens_at dialect size p' os' x.1) refl (found p os cs x.0 x.1 e)
      (read_spelled n p' os' x.1 (next_token dialect size (wants_operand p') (most_levels - length os') x.1) (omega arith) refl))

pub tokens_are_spelled : (dialect : Dialect) (text : List ℕ) (ts : List Token) → (tokens dialect text ≡ ts) ↔ IsSpelled dialect text ts
unfolding tokens
tokens_are_spelled dialect text ts = (
  λ e. subst (IsSpelled dialect text) e (read_spelled dialect (bytes text) (suc (length text)) wanted.Start [] text _ (omega arith) refl),
  λ h. spelled_read dialect (bytes text) wanted.Start [] text ts h,
)

pub one_token_list : (dialect : Dialect) (text : List ℕ) (ts us : List Token) → IsSpelled dialect text ts → IsSpelled dialect text us → ts ≡ us
one_token_list dialect text ts us h k = sym (spelled_read dialect (bytes text) wanted.Start [] text ts h) ∙ spelled_read dialect (bytes text) wanted.Start [] text us k
