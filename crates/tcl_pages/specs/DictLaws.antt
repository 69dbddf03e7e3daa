-- Laws of dictionaries: dict(n).
use Rattle.std.specs.Prelude.{◌≡◌, ◌≢◌, ◌↔◌, [], ◌∷◌, ◌++◌, if◌then◌else◌}
use Rattle.tcl_pages.specs.Dictionaries.{Pairs, put_keys}
use Rattle.tcl_pages.specs.Texts.{Text, same_text}

abbrev pub NoKey : Text → Pairs → Type 0
NoKey key [] = Unit {0}
NoKey key (p ∷ ps) = (p.0 ≢ key) × NoKey key ps

abbrev pub KeysAreDistinct : Pairs → Type 0
KeysAreDistinct [] = Unit {0}
KeysAreDistinct (p ∷ ps) = NoKey p.0 ps × KeysAreDistinct ps

-- the pairs of other keys
abbrev pub without : Text → Pairs → Pairs
without key [] = []
without key (p ∷ ps) = if same_text p.0 key then without key ps else p ∷ without key ps

-- No later pair has the key.
pub record HasLast (key value : Text) (ps : Pairs) : Type 0 where
  pub front : Pairs
  pub behind : Pairs
  pub split : ps ≡ front ++ (key, value) ∷ behind
  pub last : NoKey key behind

-- Each key stands in its first place, with its last value.
pub data IsDictionary : Pairs → Pairs → Type 0 where
  nothing : IsDictionary [] []
  keyed : (key first value : Text) (ps found : Pairs) → HasLast key value ((key, first) ∷ ps) → IsDictionary (without key ps) found → IsDictionary ((key, first) ∷ ps) ((key, value) ∷ found)

-- The pairs that are read make the dictionary that the relation says, and no other.
abbrev pub PairsAreDictionary : Type 0
PairsAreDictionary = (ps found : Pairs) → (put_keys [] ps ≡ found) ↔ IsDictionary ps found

-- No key stands in it twice.
abbrev pub DictionaryIsDistinct : Type 0
DictionaryIsDistinct = (ps : Pairs) → KeysAreDistinct (put_keys [] ps)
