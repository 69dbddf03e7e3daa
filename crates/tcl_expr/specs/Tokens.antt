-- The tokens of a text, read from the left: expr(n), Operands and Operators.
use Rattle.std.specs.Prelude.{ℕ, zero, suc, ◌-◌, Bool, true, false, not, ◌||◌, ◌&&◌, ◌==◌, nat_le, List, [], ◌∷◌, length, Option, Some, None, Result, Ok, Err, if◌then◌else◌, codes}
use Rattle.std.specs.Char.{is_ascii_digit}
use Rattle.tcl_chars.specs.Characters.{star, colon, open_paren, close_paren}
use Rattle.tcl_chars.specs.Classes.{is_name_char}
use Rattle.tcl_chars.specs.Place.{begins, tail, before, bytes}
use Rattle.tcl_chars.specs.Texts.{same_text}
use Rattle.tcl_chars.specs.Truth.{truth_of}
use Rattle.tcl_chars.specs.declared.numbers.Dialect.{Dialect}
use Rattle.tcl_chars.specs.Whole.{skip_space}
use Rattle.tcl_chars.specs.declared.truths.Truth.{Truth}
use Rattle.tcl_chars.specs.declared.truths.Truth.TheVariants as truth
use Rattle.tcl_words.specs.declared.fault.Syntax.{Syntax}
use Rattle.tcl_words.specs.First.{operand, begins_operand, most_levels}
use Rattle.tcl_words.specs.Parts.{Stretch, Shape}
use Rattle.tcl_words.specs.Words.{stretch}
use Rattle.tcl_expr.specs.declared.state.Wanted.{Wanted}
use Rattle.tcl_expr.specs.declared.state.Wanted.TheVariants as wanted
use Rattle.tcl_expr.specs.declared.token.UnaryOp.{UnaryOp}
use Rattle.tcl_expr.specs.declared.token.UnaryOp.TheVariants as unary
use Rattle.tcl_expr.specs.declared.token.BinaryOp.{BinaryOp}
use Rattle.tcl_expr.specs.declared.token.BinaryOp.TheVariants as binary
use Rattle.tcl_expr.specs.declared.token.Function.{Function}
use Rattle.tcl_expr.specs.declared.token.Function.TheVariants as function
use Rattle.tcl_expr.specs.declared.token.Symbol.{Symbol}
use Rattle.tcl_expr.specs.declared.token.Symbol.TheVariants as symbol
use Rattle.tcl_expr.specs.Expr.{literal, word}
use Rattle.tcl_expr.specs.ExprFault.{ExprFault}
use Rattle.tcl_expr.specs.Faults.{Opened, wants_operand, open_at, after, wanted_after, lowest}
use Rattle.tcl_expr.specs.Token.{Token, Operand, Malformed, Bareword, Call, UnknownCall, Unary, Open, Binary, Power, Question, Colon, Comma, Close, Stray}

-- ---- runs

abbrev pub plus : ℕ
plus = 43

abbrev pub minus : ℕ
minus = 45

abbrev pub full_stop : ℕ
full_stop = 46

abbrev pub equals : ℕ
equals = 61

-- letters, digits, underscores and full stops
abbrev pub is_run_char : ℕ → Bool
is_run_char c = is_name_char c || (c == full_stop)

-- what follows the run at the front
unfoldable pub after_run : List ℕ → List ℕ
after_run [] = []
after_run (c ∷ cs) = if is_run_char c then after_run cs else c ∷ cs

abbrev pub begins_run : List ℕ → Bool
begins_run [] = false
begins_run (c ∷ cs) = is_run_char c

abbrev pub begins_digit : List ℕ → Bool
begins_digit [] = false
begins_digit (c ∷ cs) = is_ascii_digit c

abbrev pub begins_letter : List ℕ → Bool
begins_letter [] = false
begins_letter (c ∷ cs) = (nat_le 65 c && nat_le c 90) || (nat_le 97 c && nat_le c 122)

-- where an operand is wanted, a `-` directly before a digit is part of the run
abbrev pub begins_signed : List ℕ → Bool
begins_signed cs = begins minus cs && begins_digit (tail cs)

abbrev pub function_of : List ℕ → Option Function
function_of cs =
    if same_text cs (codes "abs") then Some function.Abs
    else if same_text cs (codes "bool") then Some function.Bool
    else if same_text cs (codes "int") then Some function.Int
    else if same_text cs (codes "wide") then Some function.Wide
    else if same_text cs (codes "max") then Some function.Max
    else if same_text cs (codes "min") then Some function.Min
    else None

-- the operators that are runs
abbrev pub word_operator : List ℕ → Option BinaryOp
word_operator cs =
    if same_text cs (codes "eq") then Some binary.TextEqual
    else if same_text cs (codes "ne") then Some binary.TextNotEqual
    else if same_text cs (codes "in") then Some binary.In
    else if same_text cs (codes "ni") then Some binary.NotIn
    else None

-- a run is an operand if it is a number text, one too large too, or a truth word
abbrev pub says_something : Truth → Bool
says_something truth.Yes = true
says_something truth.No = true
says_something truth.TooLarge = true
says_something truth.Not = false

abbrev pub called : Option Function → Stretch → Token
called (Some f) name = Call f name
called None name = UnknownCall name

-- The token of the run at the front of cs, which ends at rest. A run that begins with a letter names a function if a
-- parenthesis follows, after white space too. What a number is, the dialect says.
abbrev pub run_token : Dialect → ℕ → List ℕ → List ℕ → Token × List ℕ
run_token dialect size cs rest =
    if begins_letter cs && begins open_paren (skip_space rest)
    then (called (function_of (before cs rest)) (stretch size cs rest), tail (skip_space rest))
    else (if says_something (truth_of dialect (before cs rest)) then Operand (literal (stretch size cs rest)) else Bareword (stretch size cs rest), rest)

-- ---- operators that are no runs

abbrev pub two : ℕ → ℕ → Option Symbol
two c d =
    if (c == star) && (d == star) then Some symbol.Power
    else if (c == 60) && (d == 60) then Some (symbol.Binary binary.ShiftLeft)
    else if (c == 62) && (d == 62) then Some (symbol.Binary binary.ShiftRight)
    else if (c == 60) && (d == equals) then Some (symbol.Binary binary.LessEqual)
    else if (c == 62) && (d == equals) then Some (symbol.Binary binary.GreaterEqual)
    else if (c == equals) && (d == equals) then Some (symbol.Binary binary.Equal)
    else if (c == 33) && (d == equals) then Some (symbol.Binary binary.NotEqual)
    else if (c == 38) && (d == 38) then Some (symbol.Binary binary.And)
    else if (c == 124) && (d == 124) then Some (symbol.Binary binary.Or)
    else None

abbrev pub one : ℕ → Option Symbol
one c =
    if c == star then Some (symbol.Binary binary.Times)
    else if c == 47 then Some (symbol.Binary binary.Divide)
    else if c == 37 then Some (symbol.Binary binary.Remainder)
    else if c == plus then Some (symbol.Binary binary.Add)
    else if c == minus then Some (symbol.Binary binary.Subtract)
    else if c == 60 then Some (symbol.Binary binary.Less)
    else if c == 62 then Some (symbol.Binary binary.Greater)
    else if c == 38 then Some (symbol.Binary binary.BitAnd)
    else if c == 94 then Some (symbol.Binary binary.BitXor)
    else if c == 124 then Some (symbol.Binary binary.BitOr)
    else if c == 63 then Some symbol.Question
    else if c == colon then Some symbol.Colon
    else if c == 44 then Some symbol.Comma
    else if c == close_paren then Some symbol.Close
    else None

abbrev pub with_rest : Option Symbol → List ℕ → Option (Symbol × List ℕ)
with_rest (Some s) rest = Some (s, rest)
with_rest None rest = None

abbrev pub or_one : Option Symbol → ℕ → ℕ → List ℕ → Option (Symbol × List ℕ)
or_one (Some s) c d cs = Some (s, cs)
or_one None c d cs = with_rest (one c) (d ∷ cs)

-- the operator at the front: the longest
abbrev pub symbol_at : List ℕ → Option (Symbol × List ℕ)
symbol_at [] = None
symbol_at (c ∷ []) = with_rest (one c) []
symbol_at (c ∷ d ∷ cs) = or_one (two c d) c d cs

abbrev pub symbol_token : Symbol → Token
symbol_token (symbol.Binary op) = Binary op
symbol_token symbol.Power = Power
symbol_token symbol.Question = Question
symbol_token symbol.Colon = Colon
symbol_token symbol.Comma = Comma
symbol_token symbol.Close = Close

-- the unary operator that is the character c, before cs; `!=` is none
abbrev pub prefix : ℕ → List ℕ → Option UnaryOp
prefix c cs =
    if c == minus then Some unary.Minus
    else if c == plus then Some unary.Plus
    else if c == 126 then Some unary.Flip
    else if (c == 33) && not (begins equals cs) then Some unary.Not
    else None

-- ---- tokens

abbrev pub word_token : Result (Shape × List ℕ) Syntax → Token × List ℕ
word_token (Ok x) = (Operand (word x.0), x.1)
word_token (Err m) = (Malformed m, [])

abbrev pub or_bareword : Option (Symbol × List ℕ) → Stretch → List ℕ → Token × List ℕ
or_bareword (Some x) s rest = (symbol_token x.0, x.1)
or_bareword None s rest = (Bareword s, rest)

abbrev pub or_symbol : Option UnaryOp → ℕ → ℕ → List ℕ → Token × List ℕ
or_symbol (Some u) size c cs = (Unary u, cs)
or_symbol None size c cs = or_bareword (symbol_at (c ∷ cs)) (stretch size (c ∷ cs) cs) cs

-- Where an operand is wanted: the token at the front of what is left of a text of `size` bytes, and what follows it. In
-- an operand brackets and indices may stand in one another `levels` deep.
unfoldable pub operand_token : Dialect → ℕ → ℕ → List ℕ → Option (Token × List ℕ)
operand_token dialect size levels [] = None
operand_token dialect size levels (c ∷ cs) =
    let here = c ∷ cs in
    if begins_signed here then Some (run_token dialect size here (after_run cs))
    else if begins_run here then Some (run_token dialect size here (after_run here))
    else if begins_operand here then Some (word_token (operand size levels here))
    else if c == open_paren then Some (Open, cs)
    else Some (or_symbol (prefix c cs) size c cs)

abbrev pub or_stray : Option (Symbol × List ℕ) → List ℕ → Token × List ℕ
or_stray (Some x) rest = (symbol_token x.0, x.1)
or_stray None rest = (Stray, rest)

abbrev pub operator_or_stray : Option BinaryOp → Token
operator_or_stray (Some op) = Binary op
operator_or_stray None = Stray

-- where an operator is wanted
unfoldable pub operator_token : List ℕ → Option (Token × List ℕ)
operator_token [] = None
operator_token (c ∷ cs) =
    let here = c ∷ cs in
    if begins_run here then Some (operator_or_stray (word_operator (before here (after_run here))), after_run here)
    else Some (or_stray (symbol_at here) cs)

-- the next token and what follows it, or none where only white space is left
unfoldable pub next_token : Dialect → ℕ → Bool → ℕ → List ℕ → Option (Token × List ℕ)
next_token dialect size wants levels cs =
    if wants then operand_token dialect size levels (skip_space cs) else operator_token (skip_space cs)

-- ---- the tokens of a text

abbrev pub unless_faulty : Option ExprFault → List Token → List Token
unless_faulty (Some m) ts = []
unless_faulty None ts = ts

abbrev pub with_token : Option (Token × List ℕ) → (Token → List ℕ → List Token) → List Token
with_token None more = []
with_token (Some x) more = more x.0 x.1

-- The tokens of what is left of a text of `size` bytes, where these are open: up to the end or to the first that has a
-- fault. They are at most n.
unfoldable pub tokens_from : ℕ → Dialect → ℕ → Wanted → List Opened → List ℕ → List Token
tokens_from zero dialect size p os cs = []
tokens_from (suc n) dialect size p os cs =
    with_token (next_token dialect size (wants_operand p) (most_levels - length os) cs) (λ t rest.
    t ∷ unless_faulty (lowest p os (Some t)) (tokens_from n dialect size (wanted_after t) (after t (open_at p t os)) rest))

-- each takes a character at least
unfoldable pub tokens_at : Dialect → ℕ → Wanted → List Opened → List ℕ → List Token
tokens_at dialect size p os cs = tokens_from (suc (length cs)) dialect size p os cs

unfoldable pub tokens : Dialect → List ℕ → List Token
tokens dialect text = tokens_at dialect (bytes text) wanted.Start [] text
