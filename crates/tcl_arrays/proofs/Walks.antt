-- Arrays that are there or not.
use Rattle.std.proofs.Common.{◌≡◌, Bor, List, [], ◌∷◌, Bool, true, false, not, length, Option, Some, None, refl, sym, ap, ◌∙◌, arith}
use Rattle.std.specs.FinMap as map
use Rattle.std.specs.FinMap.{len-empty}
use Rattle.std.specs.Option.{option_copied}
use Rattle.std.specs.Prelude.{is_some}
use Rattle.tcl_chars.specs.Texts.{by_code_point}
use Rattle.tcl_meaning.specs.Arrays.{Elements, names_among, pairs_among}
use Rattle.tcl_pages.specs.Texts.{Text}
use mathlib.Core.Bool.{false≢true}

no_items : {A : Type 0} (xs : List A) → length xs ≡ 0 → xs ≡ []
no_items [] h = refl
no_items (x ∷ xs) h = absurd (omega (arith, h))

abbrev pub no_elements : Elements
no_elements = map.empty

pub none_counted : map.len no_elements ≡ 0
none_counted = len-empty by_code_point Text

none_there : map.entries no_elements ≡ []
none_there = no_items (map.entries no_elements) (sym (map.len-entries no_elements) ∙ none_counted)

pub no_names : (pattern : Option Text) → names_among pattern (map.entries no_elements) ≡ []
no_names pattern = ap (names_among pattern) none_there

pub no_pairs : (pattern : Option Text) → pairs_among pattern (map.entries no_elements) ≡ []
no_pairs pattern = ap (pairs_among pattern) none_there

-- ---- what a look-up has found

pub is_none_there : {X : Type 0} (o : Option (Bor X)) (b : Bool) (a : Option X) → is_some o ≡ not b → b ≡ true → option_copied o ≡ a → a ≡ None
is_none_there None b a h e k = sym k
is_none_there (Some x) b a h e k = absurd (false≢true (sym (h ∙ ap not e)))

pub is_one_there : {X : Type 0} (o : Option (Bor X)) (b : Bool) (a : Option X) → is_some o ≡ not b → b ≡ false → option_copied o ≡ a → (m : X) × (a ≡ Some m)
is_one_there None b a h e k = absurd (false≢true (h ∙ ap not e))
is_one_there (Some x) b a h e k = (x.now, sym k)
