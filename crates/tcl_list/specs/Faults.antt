-- What is wrong with a text that is no list, in the words that a script sees.
use Rattle.std.specs.Prelude.{ℕ, List, ◌++◌}
use Rattle.tcl_chars.specs.Texts.{literal}
use Rattle.tcl_list.specs.declared.reading.Closed.{Closed}
use Rattle.tcl_list.specs.declared.reading.Closed.TheVariants.{Brace, Quote}

abbrev pub unmatched_brace : List ℕ
unmatched_brace = literal "unmatched open brace in list"

abbrev pub unmatched_quote : List ℕ
unmatched_quote = literal "unmatched open quote in list"

abbrev pub beginning : Closed → List ℕ
beginning Brace = literal "list element in braces followed by \""
beginning Quote = literal "list element in quotes followed by \""

-- x stands directly behind the brace or quote that closes an element
abbrev pub followed_by : Closed → List ℕ → List ℕ
followed_by closed x = beginning closed ++ (x ++ literal "\" instead of space")
