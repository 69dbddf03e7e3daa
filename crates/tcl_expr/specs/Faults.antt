-- The first fault of a list of tokens: a table of nine rows. The text is read from the left, and an operand is wanted
-- first. The first token at which a row applies counts, and there the lowest row (the profile).
use Rattle.std.specs.Prelude.{ℕ, suc, Bool, true, false, not, ◌||◌, ◌&&◌, nat_lt, List, [], ◌∷◌, length, Option, Some, None, if◌then◌else◌}
use Rattle.std.specs.Option.{option_or, is_some}
use Rattle.tcl_words.specs.Parts.{Stretch}
use Rattle.tcl_words.specs.declared.fault.Syntax.TheVariants as syntax
use Rattle.tcl_expr.specs.declared.token.Function.{Function}
use Rattle.tcl_expr.specs.Token.{Token}
use Rattle.tcl_expr.specs.Token.{Operand, Malformed, Bareword, Call, UnknownCall, Unary, Binary, Power, Open, Close, Comma, Question, Colon, Stray}
use Rattle.tcl_expr.specs.ExprFault.{ExprFault}
use Rattle.tcl_expr.specs.ExprFault as fault
use Rattle.tcl_expr.specs.declared.state.Wanted.{Wanted}
use Rattle.tcl_expr.specs.declared.state.Wanted.TheVariants as wanted
use Rattle.tcl_expr.specs.Expr.{level_of}
use Rattle.tcl_expr.specs.Grammar.{miscount, most_levels}

-- ---- what is wanted and what is open

abbrev pub wants_operand : Wanted → Bool
wants_operand wanted.Operator = false
wants_operand p = true

-- what is wanted after a token
abbrev pub wanted_after : Token → Wanted
wanted_after (Operand s) = wanted.Operator
wanted_after Close = wanted.Operator
wanted_after (Call f s) = wanted.First
wanted_after _ = wanted.Operand

-- what is open: each takes a level
pub data Opened : Type 0 where
  -- an operand of a unary operator, the right one of `**`, the second and the third of `?:`
  prefixed : Opened
  powered : Opened
  second : Opened
  third : Opened
  -- a parenthesis, and a call with the arguments that have ended
  parenthesis : Opened
  arguments : Function → Stretch → ℕ → Opened

abbrev pub opened_level : Opened → ℕ
opened_level prefixed = 0
opened_level powered = 1
opened_level third = 14
opened_level second = 15
opened_level parenthesis = 15
opened_level (arguments f s n) = 15

-- where an operator is wanted, a token ends what is of a level below this
abbrev pub reach : Token → ℕ
reach Power = 1
reach (Binary op) = level_of op
reach Question = 14
reach _ = 15

-- what stays open
unfoldable pub still_open : ℕ → List Opened → List Opened
still_open r [] = []
still_open r (o ∷ os) = if nat_lt (opened_level o) r then still_open r os else o ∷ os

-- what is open where a token stands
abbrev pub open_at : Wanted → Token → List Opened → List Opened
open_at wanted.Operator t os = still_open (reach t) os
open_at _ t os = os

-- what a token without a fault leaves open
abbrev pub after : Token → List Opened → List Opened
after (Unary u) os = prefixed ∷ os
after Open os = parenthesis ∷ os
after (Call f s) os = arguments f s 0 ∷ os
after Power os = powered ∷ os
after Question os = second ∷ os
after Colon (o ∷ os) = third ∷ os
after Comma (arguments f s n ∷ os) = arguments f s (suc n) ∷ os
after Close (o ∷ os) = os
after _ os = os

-- a `?` of the same parentheses still lacks its `:`
abbrev pub lacks_colon : List Opened → Bool
lacks_colon [] = false
lacks_colon (second ∷ os) = true
lacks_colon (parenthesis ∷ os) = false
lacks_colon (arguments f s n ∷ os) = false
lacks_colon (o ∷ os) = lacks_colon os

-- the innermost parentheses, of a call or not
abbrev pub innermost : List Opened → Option Opened
innermost [] = None
innermost (parenthesis ∷ os) = Some parenthesis
innermost (arguments f s n ∷ os) = Some (arguments f s n)
innermost (o ∷ os) = innermost os

-- ---- the table

-- The fault that a row finds where this is wanted and that is open, at the next token, or at the end.
abbrev pub Row : Type 0
Row = Wanted → List Opened → Option Token → Option ExprFault

-- a row that applies or doesn't
abbrev pub when : Bool → ExprFault → Option ExprFault
when b m = if b then Some m else None

-- 1: no token at all
abbrev pub no_token : Row
no_token p os (Some t) = None
no_token wanted.Start os None = Some fault.Empty
no_token p os None = None

-- 2: an operand is wanted, and another run stands there, or a character that begins no token
abbrev pub bareword : Row
bareword p os (Some (Bareword s)) = when (wants_operand p) (fault.BareWord s)
bareword p os t = None

-- 3: an operand is wanted, and an operator stands there, `?`, `:`, `,`, `)` or the end; but `f()` is a call without
-- arguments
abbrev pub ends_empty_call : Wanted → List Opened → Bool
ends_empty_call wanted.First (arguments f s n ∷ os) = true
ends_empty_call p os = false

abbrev pub no_operand : Wanted → List Opened → Option Token → Bool
no_operand p os (Some (Binary op)) = true
no_operand p os (Some Power) = true
no_operand p os (Some Question) = true
no_operand p os (Some Colon) = true
no_operand p os (Some Comma) = true
no_operand p os (Some Close) = not (ends_empty_call p os)
no_operand p os (Some Stray) = true
no_operand p os None = true
no_operand p os (Some t) = false

abbrev pub missing_operand : Row
missing_operand p os t = when (wants_operand p && no_operand p os t) fault.MissingOperand

-- 4: an operator is wanted, and something else stands there than a binary operator, `?`, `:`, `,` or `)`; a `:` without
-- an open `?` in the same parentheses; a `,` outside a call's arguments; `)`, `,` or the end where a `?` of the same
-- parentheses still lacks its `:`
abbrev pub is_call : Option Opened → Bool
is_call (Some (arguments f s n)) = true
is_call o = false

abbrev pub no_operator : List Opened → Option Token → Bool
no_operator os (Some (Binary op)) = false
no_operator os (Some Power) = false
no_operator os (Some Question) = false
no_operator os (Some Colon) = not (lacks_colon os)
no_operator os (Some Comma) = not (is_call (innermost os)) || lacks_colon os
no_operator os (Some Close) = lacks_colon os
no_operator os None = lacks_colon os
no_operator os (Some t) = true

abbrev pub missing_operator : Row
missing_operator p os t = when (not (wants_operand p) && no_operator os t) fault.MissingOperator

-- 5: `)` with none open; the end with a `(` open
abbrev pub unbalanced : Row
unbalanced p os (Some Close) = when (not (is_some (innermost os))) fault.Parenthesis
unbalanced p os None = when (is_some (innermost os)) fault.Parenthesis
unbalanced p os t = None

-- 6: the name of an unknown function
abbrev pub unknown_function : Row
unknown_function p os (Some (UnknownCall s)) = Some (fault.UnknownFunction s)
unknown_function p os t = None

-- 7: the `)` of a call with a wrong count
abbrev pub wrong_count_in : Option Opened → Option ExprFault
wrong_count_in (Some (arguments f s n)) = miscount f s (suc n)
wrong_count_in o = None

abbrev pub wrong_count_at : Wanted → List Opened → Option ExprFault
wrong_count_at wanted.First (arguments f s n ∷ os) = miscount f s 0
wrong_count_at p os = wrong_count_in (innermost os)

abbrev pub wrong_count : Row
wrong_count p os (Some Close) = wrong_count_at p os
wrong_count p os t = None

-- 8: the token that opens a level too many; also an operand in which brackets and indices do
abbrev pub opens_level : Token → Bool
opens_level (Unary u) = true
opens_level Open = true
opens_level (Call f s) = true
opens_level Power = true
opens_level Question = true
opens_level t = false

abbrev pub nested_too_deep : Row
nested_too_deep p os (Some (Malformed syntax.TooDeep)) = Some fault.Nesting
nested_too_deep p os (Some t) = when (opens_level t && not (nat_lt (length (open_at p t os)) most_levels)) fault.Nesting
nested_too_deep p os None = None

-- 9: a fault inside an operand
abbrev pub inside_operand : Row
inside_operand p os (Some (Malformed m)) = Some (fault.Words m)
inside_operand p os t = None

abbrev pub rows : List Row
rows = no_token ∷ bareword ∷ missing_operand ∷ missing_operator ∷ unbalanced ∷ unknown_function ∷ wrong_count ∷ nested_too_deep ∷ inside_operand ∷ []

-- the lowest of the rows that apply
abbrev pub lowest_of : List Row → Row
lowest_of [] p os t = None
lowest_of (r ∷ rs) p os t = option_or (r p os t) (lowest_of rs p os t)

unfoldable pub lowest : Row
lowest p os t = lowest_of rows p os t

-- the fault at the first token where a row applies, or at the end
unfoldable pub first_fault : Wanted → List Opened → List Token → Option ExprFault
first_fault p os [] = lowest p os None
first_fault p os (t ∷ ts) = option_or (lowest p os (Some t)) (first_fault (wanted_after t) (after t (open_at p t os)) ts)

abbrev pub expr_fault : List Token → Option ExprFault
expr_fault ts = first_fault wanted.Start [] ts
