-- Laws of lsort(n).
use Rattle.std.specs.Prelude.{◌≡◌, ◌↔◌, Bool, List, [], ◌∷◌}
use Rattle.std.specs.Cmp.{IsStrictWeakOrder}
use Rattle.std.specs.List.{filter}
use Rattle.std.specs.List.Sorted.{IsSortedBy, ties}
use Rattle.tcl_pages.specs.Sorting.{sorted, last_of_ties, directed, stands_before, number_before}

-- Four orders: by characters or by numbers, increasing or decreasing. In each, what ties with one of two elements stands to the
-- other as this one does.
abbrev pub OrdersAreStrict : Type 0
OrdersAreStrict = (decreasing : Bool) → IsStrictWeakOrder (directed decreasing stands_before) × IsStrictWeakOrder (directed decreasing number_before)

abbrev pub last_one : {A : Type 0} → List A → List A
last_one [] = []
last_one (x ∷ []) = x ∷ []
last_one (x ∷ y ∷ ys) = last_one (y ∷ ys)

-- ys are in order, and of the elements of xs that tie the last one alone: then and only then they are xs sorted with -unique.
abbrev pub UniqueIsLast : Type 0 → Type 0
UniqueIsLast A = (before : A → A → Bool) → IsStrictWeakOrder before → (xs ys : List A) →
    (last_of_ties before (sorted before xs) ≡ ys) ↔ (IsSortedBy before ys × ((x : A) → filter (ties before x) ys ≡ last_one (filter (ties before x) xs)))
