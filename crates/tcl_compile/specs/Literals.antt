-- Words that are literal.
use Rattle.std.specs.Prelude.{◌≡◌, false, List, [], ◌∷◌, ◌++◌, Option, Some, None, option_map}
use Rattle.std.specs.Str.{chars}
use Rattle.std.specs.String.{string_bytes}
use Rattle.tcl_list.specs.Written.{written}
use Rattle.tcl_words.specs.Parts.{Part, text, escape, Stretch, Shape}
use Rattle.tcl_pages.specs.Texts.{Text}
use Rattle.tcl_compile.specs.declared.literals.Literal.{Literal}
use Rattle.tcl_compile.specs.declared.literals.Literal.TheVariants as literal

-- the text of pieces that all stand for characters: for themselves, or for one by an escape
abbrev pub spelled : List Part → Option Text
spelled [] = Some []
spelled (text s ∷ ps) = option_map (λ t. s.text ++ t) (spelled ps)
spelled (escape s c ∷ ps) = option_map (λ t. c ∷ t) (spelled ps)
spelled (p ∷ ps) = None

-- a word that is one, and is this text
abbrev pub IsLiteral : Shape → Text → Type 0
IsLiteral w t = (w.expands ≡ false) × (spelled w.pieces ≡ Some t)

-- a word that is one stretch of characters that stand for themselves
abbrev pub IsStretch : Shape → Type 0
IsStretch w = (s : Stretch) × (w.expands ≡ false) × (w.pieces ≡ text s ∷ [])

abbrev pub AllLiteral : List Shape → List Text → Type 0
AllLiteral [] [] = Unit {0}
AllLiteral (w ∷ ws) (t ∷ ts) = IsLiteral w t × AllLiteral ws ts
AllLiteral _ _ = ⊥

-- words that are all literal, as a list
abbrev pub IsListOf : Text → List Shape → Type 0
IsListOf list ws = (ts : List Text) × AllLiteral ws ts × (list ≡ written ts)

-- what the code holds
abbrev pub text_of : Literal → Text
text_of (literal.Span s) = chars s.now
text_of (literal.Spelled s) = chars (string_bytes s)
