-- The elements of a list with what they are sorted by: lsort(n).
use Rattle.std.specs.Prelude.{ℕ, ℤ, Bool, false, not, ◌&&◌, List, [], ◌∷◌, Ok, if◌then◌else◌}
use Rattle.std.specs.Borrow.{Bor}
use Rattle.std.specs.List.Sorted.{ties}
use Rattle.std.specs.Ordering.{is_lt, int_cmp}
use Rattle.std.specs.Str.{chars}
use Rattle.tcl_chars.specs.declared.numbers.Dialect.{Dialect}
use Rattle.tcl_list.specs.Written.{written}
use Rattle.tcl_pages.specs.Answers.{Answer, ◌>>=◌}
use Rattle.tcl_pages.specs.Sorting.{directed, stands_before, last_of_ties, sorted_elements}
use Rattle.tcl_pages.specs.declared.lists.SortOptions.{SortOptions}
use Rattle.tcl_values.specs.Kept.{Kept}
use Rattle.tcl_lists.specs.declared.sort.Item.{Item}

-- an item's text
abbrev pub its_text : {K : Type 0} → Item K → List ℕ
its_text x = x.element.now.text

-- the text of an item that is sorted by a number, behind the number
abbrev pub with_number : Item ℤ → ℤ × List ℕ
with_number x = (x.key, its_text x)

-- the text of an item that is sorted by a text, behind that text; and an element's text, behind itself
abbrev pub with_text : Item (Bor (List ℕ)) → List ℕ × List ℕ
with_text x = (chars x.key.now, its_text x)

abbrev pub twice : Kept → List ℕ × List ℕ
twice k = (k.text, k.text)

-- which of two numbers, and of two texts, comes first
abbrev pub less_number : ℤ → ℤ → Bool
less_number y z = is_lt (int_cmp y z)

abbrev pub less_text : Bor (List ℕ) → Bor (List ℕ) → Bool
less_text t u = stands_before (chars t.now) (chars u.now)

-- does one item stand before another by the options, where less says which of two keys comes first
abbrev pub is_before : {K : Type 0} → (K → K → Bool) → SortOptions → Item K → Item K → Bool
is_before less o = directed o.decreasing (λ x y. less x.key y.key)

module _ {A : Type 0} where
  -- does the first tie with the one behind it
  abbrev pub ties_with_next : (A → A → Bool) → List A → Bool
  ties_with_next before [] = false
  ties_with_next before (x ∷ []) = false
  ties_with_next before (x ∷ y ∷ ys) = ties before x y

  -- is the first kept
  abbrev pub is_kept : SortOptions → (A → A → Bool) → List A → Bool
  is_kept o before xs = not (o.unique && ties_with_next before xs)

  -- those that are kept of items in order
  abbrev pub kept_of : SortOptions → (A → A → Bool) → List A → List A
  kept_of o before xs = if o.unique then last_of_ties before xs else xs

-- the list of elements in order
abbrev pub sorted_list : Dialect → SortOptions → List (List ℕ) → Answer (List ℕ)
sorted_list dialect o es = do
  ordered ← sorted_elements dialect o es
  Ok (written ordered)
