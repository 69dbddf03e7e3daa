-- The table of faults as an automaton: one row a token, on what the token leaves open.
use Rattle.std.proofs.Common.{◌≡◌, suc, Bool, true, false, List, [], ◌∷◌, length, Option, Some, None, refl, ap, ◌∙◌}
use Rattle.std.specs.Prelude.{nat_lt, not, if◌then◌else◌}
use Rattle.std.specs.Option.{option_or}
use Rattle.std.proofs.Math.Bool.{or-true}
use Rattle.tcl_words.specs.declared.fault.Syntax.{Syntax}
use Rattle.tcl_words.specs.declared.fault.Syntax.TheVariants as syntax
use Rattle.tcl_expr.specs.Token.{Token}
use Rattle.tcl_expr.specs.Token.{Operand, Malformed, Bareword, Call, UnknownCall, Unary, Binary, Power, Open, Close, Comma, Question, Colon, Stray}
use Rattle.tcl_expr.specs.ExprFault.{ExprFault, operand_fault}
use Rattle.tcl_expr.specs.ExprFault as fault
use Rattle.tcl_expr.specs.declared.state.Wanted.{Wanted}
use Rattle.tcl_expr.specs.declared.state.Wanted.TheVariants as wanted
use Rattle.tcl_expr.specs.Grammar.{miscount, most_levels}
use Rattle.tcl_expr.specs.Faults.{Opened, prefixed, powered, second, third, parenthesis, arguments, still_open, open_at, when, wants_operand, lowest}

-- the token that opens a level too many
abbrev pub opens : List Opened → Option ExprFault
opens os = if nat_lt (length os) most_levels then None else Some fault.Nesting

abbrev pub operand_row : Wanted → List Opened → Token → Option ExprFault
operand_row p os (Operand x) = None
operand_row p os (Malformed m) = Some (operand_fault m)
operand_row p os (Bareword s) = Some (fault.BareWord s)
operand_row p os (Unary u) = opens os
operand_row p os Open = opens os
operand_row p os (Call f s) = opens os
operand_row p os (UnknownCall s) = Some (fault.UnknownFunction s)
operand_row wanted.First (arguments f s n ∷ os) Close = miscount f s 0
operand_row p os _ = Some fault.MissingOperand

-- where an operator is wanted, and what the token ends has ended
abbrev pub close_row : List Opened → Option ExprFault
close_row [] = Some fault.Parenthesis
close_row (second ∷ os) = Some fault.MissingOperator
close_row (arguments f s n ∷ os) = miscount f s (suc n)
close_row (o ∷ os) = None

abbrev pub comma_row : List Opened → Option ExprFault
comma_row (arguments f s n ∷ os) = None
comma_row os = Some fault.MissingOperator

abbrev pub colon_row : List Opened → Option ExprFault
colon_row (second ∷ os) = None
colon_row os = Some fault.MissingOperator

abbrev pub operator_row : List Opened → Token → Option ExprFault
operator_row os (Binary op) = None
operator_row os Power = opens os
operator_row os Question = opens os
operator_row os Colon = colon_row os
operator_row os Comma = comma_row os
operator_row os Close = close_row os
operator_row os _ = Some fault.MissingOperator

abbrev pub end_row : Wanted → List Opened → Option ExprFault
end_row wanted.Start os = Some fault.Empty
end_row wanted.Operator [] = None
end_row wanted.Operator (second ∷ os) = Some fault.MissingOperator
end_row wanted.Operator (o ∷ os) = Some fault.Parenthesis
end_row p os = Some fault.MissingOperand

abbrev pub open_at_end : Wanted → List Opened → List Opened
open_at_end wanted.Operator os = still_open 15 os
open_at_end _ os = os

abbrev pub row : Wanted → List Opened → Token → Option ExprFault
row wanted.Operator os t = operator_row os t
row p os t = operand_row p os t

-- ---- the lowest row is the automaton's

room : (b : Bool) → when (not b) fault.Nesting ≡ if b then None else Some fault.Nesting
room true = refl
room false = refl

no_row : (m : Option ExprFault) → option_or m None ≡ m
no_row None = refl
no_row (Some m) = refl

deep_or_faulty : (p : Wanted) (os : List Opened) (m : Syntax) → wants_operand p ≡ true → lowest p os (Some (Malformed m)) ≡ Some (operand_fault m)
unfolding lowest
deep_or_faulty p os syntax.TooDeep w = rw w refl
deep_or_faulty p os m w = rw w refl

closes : (p : Wanted) (os : List Opened) → wants_operand p ≡ true → lowest p os (Some Close) ≡ operand_row p os Close
unfolding lowest
closes wanted.Operator os w = absurd cc
closes wanted.First (arguments f s n ∷ os) w = no_row (miscount f s 0)
closes p os w = refl

all_open : (p : Wanted) (os : List Opened) (t : Token) → wants_operand p ≡ true → open_at p t os ≡ os
all_open wanted.Operator os t w = absurd cc
all_open p os t w = refl

opener_lowest : (os now : List Opened) → now ≡ os → option_or (when (not (nat_lt (length now) most_levels)) fault.Nesting) None ≡ opens os
opener_lowest os now e = no_row _ ∙ room (nat_lt (length now) most_levels) ∙ ap opens e

operand_lowest : (p : Wanted) (os : List Opened) (t : Token) → wants_operand p ≡ true → lowest p os (Some t) ≡ operand_row p os t
unfolding lowest
operand_lowest p os (Operand x) w = rw w refl
operand_lowest p os (Malformed m) w = deep_or_faulty p os m w
operand_lowest p os (Bareword s) w = rw w refl
operand_lowest p os (Unary u) w = rw w (opener_lowest os _ (all_open p os (Unary u) w))
operand_lowest p os Open w = rw w (opener_lowest os _ (all_open p os Open w))
operand_lowest p os (Call f s) w = rw w (opener_lowest os _ (all_open p os (Call f s) w))
operand_lowest p os (UnknownCall s) w = rw w refl
operand_lowest p os Close w = closes p os w
operand_lowest p os (Binary op) w = rw w refl
operand_lowest p os Power w = rw w refl
operand_lowest p os Question w = rw w refl
operand_lowest p os Colon w = rw w refl
operand_lowest p os Comma w = rw w refl
operand_lowest p os Stray w = rw w refl

lacking : (os : List Opened) → lowest wanted.Operator (second ∷ os) (Some Comma) ≡ Some fault.MissingOperator
unfolding lowest
lacking os = rw or-true refl

-- what `:`, `,`, `)` and the end leave on top is the innermost that lacks its `:` or its `)`
marks_lowest : (os : List Opened)
    → (lowest wanted.Operator os (Some Colon) ≡ colon_row (still_open 15 os)) × (lowest wanted.Operator os (Some Comma) ≡ comma_row (still_open 15 os))
    × (lowest wanted.Operator os (Some Close) ≡ close_row (still_open 15 os)) × (lowest wanted.Operator os None ≡ end_row wanted.Operator (still_open 15 os))
unfolding lowest still_open
marks_lowest [] = (refl, refl, refl, refl)
marks_lowest (prefixed ∷ os) = marks_lowest os
marks_lowest (powered ∷ os) = marks_lowest os
marks_lowest (second ∷ os) = (refl, lacking os, refl, refl)
marks_lowest (third ∷ os) = marks_lowest os
marks_lowest (parenthesis ∷ os) = (refl, refl, refl, refl)
marks_lowest (arguments f s n ∷ os) = (refl, refl, no_row (miscount f s (suc n)), refl)

operator_lowest : (os : List Opened) (t : Token) → lowest wanted.Operator os (Some t) ≡ operator_row (open_at wanted.Operator t os) t
unfolding lowest
operator_lowest os (Binary op) = refl
operator_lowest os Power = opener_lowest (still_open 1 os) _ refl
operator_lowest os Question = opener_lowest (still_open 14 os) _ refl
operator_lowest os Colon = (marks_lowest os).0
operator_lowest os Comma = (marks_lowest os).1
operator_lowest os Close = (marks_lowest os).2
operator_lowest os _ = refl

pub row_is : (p : Wanted) (os : List Opened) (t : Token) → lowest p os (Some t) ≡ row p (open_at p t os) t
row_is wanted.Start os t = operand_lowest wanted.Start os t refl
row_is wanted.First os t = operand_lowest wanted.First os t refl
row_is wanted.Operand os t = operand_lowest wanted.Operand os t refl
row_is wanted.Operator os t = operator_lowest os t

pub end_is : (p : Wanted) (os : List Opened) → lowest p os None ≡ end_row p (open_at_end p os)
unfolding lowest
end_is wanted.Start os = refl
end_is wanted.First os = refl
end_is wanted.Operand os = refl
end_is wanted.Operator os = (marks_lowest os).3
