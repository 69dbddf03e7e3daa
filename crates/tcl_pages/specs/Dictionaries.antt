-- The pairs of a dictionary: dict(n), DESCRIPTION.
use Rattle.std.specs.Prelude.{◌%◌, ◌==◌, List, [], ◌∷◌, length, map, Ok, Err, if◌then◌else◌}
use Rattle.tcl_chars.specs.Texts.{literal}
use Rattle.tcl_list.specs.Elements.{elements_of}
use Rattle.tcl_pages.specs.Answers.{Answer, ◌>>=◌}
use Rattle.tcl_pages.specs.Texts.{Text, same_text}

abbrev pub Pairs : Type 0
Pairs = List (Text × Text)

abbrev pub keys_of : Pairs → List Text
keys_of ps = map (λ (p : Text × Text). p.0) ps

abbrev pub values_of : Pairs → List Text
values_of ps = map (λ (p : Text × Text). p.1) ps

-- with this value under the key: a key that is there keeps its place
abbrev pub put_key : Pairs → Text → Text → Pairs
put_key [] key value = (key, value) ∷ []
put_key (p ∷ ps) key value = if same_text p.0 key then (key, value) ∷ ps else p ∷ put_key ps key value

-- with these pairs, one after another
abbrev pub put_keys : Pairs → Pairs → Pairs
put_keys found [] = found
put_keys found (p ∷ ps) = put_keys (put_key found p.0 p.1) ps

-- keys and values in turn
abbrev pub pairs : List Text → Pairs
pairs (key ∷ value ∷ ts) = (key, value) ∷ pairs ts
pairs _ = []

-- Where the last key has no value, this is said.
abbrev pub pairs_else : Text → List Text → Answer Pairs
pairs_else unpaired ts = if length ts % 2 == 0 then Ok (pairs ts) else Err unpaired

abbrev pub in_pairs : List Text → Answer Pairs
in_pairs = pairs_else (literal "missing value to go with key")

-- A list of even length is a dictionary. A repeated key keeps its first place and its last value.
unfoldable pub pairs_of : Text → Answer Pairs
pairs_of t = do
  es ← elements_of t
  ps ← in_pairs es
  Ok (put_keys [] ps)
