-- The pattern of a search, as it is kept.
use Rattle.std.specs.Prelude.{◌≡◌, IfSome}
use Rattle.std.specs.Fmt.{signed_decimal}
use Rattle.tcl_chars.specs.Texts.{text_of}
use Rattle.tcl_lists.specs.declared.pattern.Pattern.TheInside.{Inside}

-- a number beside the text is the one whose decimal text it is
abbrev pub IsPattern : Inside → Type 0
IsPattern p = IfSome p.number (λ n. text_of p.text ≡ signed_decimal n)
