-- A key of a dictionary, by the characters of its text.
use Rattle.std.specs.Prelude.{ℕ, List, ⊤}
use Rattle.std.specs.Hash as fed
use Rattle.std.specs.Str.{encode_utf8_all}
use Rattle.tcl_chars.specs.Texts.{text_of}
use Rattle.tcl_values.specs.Short.{short_text, IsShort}
use Rattle.tcl_values.specs.declared.key.Spelling.{Spelling}
use Rattle.tcl_values.specs.declared.key.Spelling.TheVariants as spelling
use Rattle.tcl_values.specs.declared.key.Key.TheInside as key

abbrev pub spelling_text : Spelling → List ℕ
spelling_text (spelling.Short s) = short_text s
spelling_text (spelling.Shared t) = text_of t

abbrev pub IsSpelling : Spelling → Type 0
IsSpelling (spelling.Short s) = IsShort s
IsSpelling (spelling.Shared t) = ⊤

abbrev pub key_text : key.Inside → List ℕ
key_text a = spelling_text a.spelling

abbrev pub IsKey : key.Inside → Type 0
IsKey a = IsSpelling a.spelling

-- what a hasher reads of a text: its bytes
abbrev pub text_input : List ℕ → List (List ℕ)
text_input t = fed.str (encode_utf8_all t)
