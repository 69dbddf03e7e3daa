-- The texts of the faults are ASCII.
use Rattle.std.proofs.Common.{◌≡◌, ℕ, zero, suc, ◌<◌, Bool, true, ◌&&◌, List, [], ◌∷◌, refl, arith}
use Rattle.std.specs.Prelude.{nat_lt, slice_index}
use Rattle.std.specs.Str.{chars}
use Rattle.std.proofs.lemmas.Bool.{and_parts, ltb-true}
use Rattle.std.proofs.lemmas.Str.{chars-IsAscii}
use Rattle.tcl_words.specs.declared.fault.Syntax.{Syntax}
use Rattle.tcl_words.specs.declared.fault.Syntax.TheVariants.{AfterBrace, AfterQuote, MissingBrace, MissingBracket, MissingQuote, MissingParen, MissingVariableBrace, TooDeep}
use Rattle.tcl_words.specs.Syntax.{syntax_text}

abbrev low : List ℕ → Bool
low [] = true
low (c ∷ cs) = nat_lt c 128 && low cs

low_at : (cs : List ℕ) → low cs ≡ true → (i : ℕ) → slice_index cs i < 128
low_at [] h i = omega arith
low_at (c ∷ cs) h zero = ltb-true c 128 (and_parts _ _ h).0
low_at (c ∷ cs) h (suc i) = low_at cs (and_parts _ _ h).1 i

pub spelled : (m : Syntax) → chars (syntax_text m) ≡ syntax_text m
spelled AfterBrace = chars-IsAscii (syntax_text AfterBrace) (low_at (syntax_text AfterBrace) refl)
spelled AfterQuote = chars-IsAscii (syntax_text AfterQuote) (low_at (syntax_text AfterQuote) refl)
spelled MissingBrace = chars-IsAscii (syntax_text MissingBrace) (low_at (syntax_text MissingBrace) refl)
spelled MissingBracket = chars-IsAscii (syntax_text MissingBracket) (low_at (syntax_text MissingBracket) refl)
spelled MissingQuote = chars-IsAscii (syntax_text MissingQuote) (low_at (syntax_text MissingQuote) refl)
spelled MissingParen = chars-IsAscii (syntax_text MissingParen) (low_at (syntax_text MissingParen) refl)
spelled MissingVariableBrace = chars-IsAscii (syntax_text MissingVariableBrace) (low_at (syntax_text MissingVariableBrace) refl)
spelled TooDeep = chars-IsAscii (syntax_text TooDeep) (low_at (syntax_text TooDeep) refl)
