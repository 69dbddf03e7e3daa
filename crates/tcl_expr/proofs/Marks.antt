-- The tokens of operators and marks that are no runs, by cases.
use Rattle.tcl_expr.specs.declared.token.BinaryOp.{BinaryOp}
use Rattle.tcl_expr.specs.declared.token.Symbol.{Symbol}
use Rattle.tcl_expr.specs.declared.token.Symbol.TheVariants as symbol
use Rattle.tcl_expr.specs.Token.{Token, Binary, Power, Question, Colon, Comma, Close}
use Rattle.tcl_expr.specs.Tokens.{symbol_token}

pub symbol_cases : (P : Token → Type 0) → ((o : BinaryOp) → P (Binary o)) → P Power → P Question → P Colon → P Comma → P Close → (s : Symbol) → P (symbol_token s)
symbol_cases P b p q c m e (symbol.Binary o) = b o
symbol_cases P b p q c m e symbol.Power = p
symbol_cases P b p q c m e symbol.Question = q
symbol_cases P b p q c m e symbol.Colon = c
symbol_cases P b p q c m e symbol.Comma = m
symbol_cases P b p q c m e symbol.Close = e
