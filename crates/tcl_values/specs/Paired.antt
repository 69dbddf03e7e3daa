-- Keys beside values, as a dictionary is kept.
use Rattle.std.specs.Prelude.{◌≡◌, Bool, false, ◌||◌, List, [], ◌∷◌, ⊤, Ok}
use Rattle.tcl_chars.specs.Texts.{literal, same_text}
use Rattle.tcl_pages.specs.Answers.{Answer, ◌>>=◌}
use Rattle.tcl_pages.specs.Dictionaries.{Pairs, put_keys, in_pairs}
use Rattle.tcl_pages.specs.Texts.{Text}

-- the pairs of keys and values that stand at the same places
abbrev pub zipped : List Text → List Text → Pairs
zipped [] vs = []
zipped (k ∷ ks) [] = []
zipped (k ∷ ks) (v ∷ vs) = (k, v) ∷ zipped ks vs

-- no key stands twice
abbrev pub has_key : Text → Pairs → Bool
has_key key [] = false
has_key key (p ∷ ps) = same_text p.0 key || has_key key ps

abbrev pub AreDistinct : Pairs → Type 0
AreDistinct [] = ⊤
AreDistinct (p ∷ ps) = (has_key p.0 ps ≡ false) × AreDistinct ps

-- with the pairs that elements are, two by two
abbrev pub read_pairs : Pairs → List Text → Answer Pairs
read_pairs found es = in_pairs es >>= λ ps. Ok (put_keys found ps)

abbrev pub missing_value : Text
missing_value = literal "missing value to go with key"
