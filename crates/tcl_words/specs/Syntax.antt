-- What the faults of a command say.
use Rattle.std.specs.Prelude.{ℕ, List, codes}
use Rattle.tcl_words.specs.declared.fault.Syntax.{Syntax}
use Rattle.tcl_words.specs.declared.fault.Syntax.TheVariants.{AfterBrace, AfterQuote, MissingBrace, MissingBracket, MissingQuote, MissingParen, MissingVariableBrace, TooDeep}

abbrev pub syntax_text : Syntax → List ℕ
syntax_text AfterBrace = codes "extra characters after close-brace"
syntax_text AfterQuote = codes "extra characters after close-quote"
syntax_text MissingBrace = codes "missing close-brace"
syntax_text MissingBracket = codes "missing close-bracket"
syntax_text MissingQuote = codes "missing \""
syntax_text MissingParen = codes "missing )"
syntax_text MissingVariableBrace = codes "missing close-brace for variable name"
syntax_text TooDeep = codes "nesting too deep"
