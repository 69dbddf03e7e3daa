-- Dictionaries inside one another, on the way to a key.
use Rattle.std.specs.Prelude.{List, [], ◌∷◌, Ok}
use Rattle.tcl_pages.specs.Answers.{Answer, ◌>>=◌}
use Rattle.tcl_pages.specs.DictPages.{inner_of, value_or}
use Rattle.tcl_pages.specs.Texts.{Text}
use Rattle.tcl_values.specs.Dictionaries.{with_key}

-- a value put back into the innermost dictionary, that into the one around it, and so on; beside each the key of the next one in it
abbrev pub rebuilt : List (Text × Text) → Text → Answer Text
rebuilt [] v = Ok v
rebuilt (l ∷ ls) v = with_key l.0 l.1 v >>= rebuilt ls

-- what a key's value is changed to, put at the key; where the key isn't there, the text first is changed
abbrev pub changed : Text → Text → Text → (Text → Answer Text) → Answer Text
changed t key first change = (value_or first t key >>= change) >>= with_key t key

-- the same of a key that must be there
abbrev pub changed_known : Text → Text → (Text → Answer Text) → Answer Text
changed_known t key change = (inner_of t key >>= change) >>= with_key t key
