-- The options of `return`, where `-options` stands among them: return(n), RETURN OPTIONS.
use Rattle.std.specs.Prelude.{◌≡◌, ◌≢◌, ℕ, ◌≤◌, [], ◌∷◌, ◌++◌, Ok, Err, ◌↔◌}
use Rattle.tcl_chars.specs.Texts.{literal}
use Rattle.tcl_meaning.specs.Codes.{no_options, options_joined, size_of}
use Rattle.tcl_pages.specs.Answers.{Answer}
use Rattle.tcl_pages.specs.Dictionaries.{Pairs, put_key, pairs_of}
use Rattle.tcl_pages.specs.Texts.{Text}

-- Options come behind those found, and the answer is what both make, or an error. The value of `-options` must be a dictionary, and
-- its pairs are treated as if they stood in its place. Of a key that comes again the last value counts.
pub data Joins : Pairs → Pairs → Answer Pairs → Type 0 where
  none : (found : Pairs) → Joins found [] (Ok found)
  other : (found ps : Pairs) (key value : Text) (a : Answer Pairs) → key ≢ literal "-options" → Joins (put_key found key value) ps a → Joins found ((key, value) ∷ ps) a
  among : (found ps more : Pairs) (key value : Text) (a : Answer Pairs) → key ≡ literal "-options" → pairs_of value ≡ Ok more → Joins found (more ++ ps) a → Joins found ((key, value) ∷ ps) a
  refused : (found ps : Pairs) (key value m : Text) → key ≡ literal "-options" → pairs_of value ≡ Err m → Joins found ((key, value) ∷ ps) (Err (no_options value))

-- With a bound that is no smaller than the options are, this answer is what is computed.
abbrev pub OptionsAreJoined : Type 0
OptionsAreJoined = (n : ℕ) (found ps : Pairs) (a : Answer Pairs) → size_of ps ≤ n → (options_joined n found ps ≡ a) ↔ Joins found ps a

-- So the bound never shows: a greater one changes nothing, whatever options were found before.
abbrev pub BoundNeverShows : Type 0
BoundNeverShows = (n : ℕ) (found ps : Pairs) → size_of ps ≤ n → options_joined n found ps ≡ options_joined (size_of ps) found ps
