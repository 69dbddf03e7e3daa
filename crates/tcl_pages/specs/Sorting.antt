-- lsort(n).
use Rattle.std.specs.Prelude.{◌≡◌, ℕ, Bool, true, false, not, ◌&&◌, ℤ, int_lt, List, [], ◌∷◌, map, Ok, ◌↔◌, if◌then◌else◌}
use Rattle.std.specs.Cmp.Lexicographic.{slice_cmp}
use Rattle.std.specs.List.Sorted.{IsPermutation, IsSortedBy, IsStableBy, ties}
use Rattle.std.specs.Cmp.{IsStrictWeakOrder}
use Rattle.std.specs.Ordering.{is_lt, nat_cmp}
use Rattle.tcl_chars.specs.Messages.{number}
use Rattle.tcl_chars.specs.Texts.{literal, same_text}
use Rattle.tcl_chars.specs.declared.numbers.Dialect.{Dialect}
use Rattle.tcl_list.specs.Elements.{elements_of}
use Rattle.tcl_list.specs.Written.{written}
use Rattle.tcl_pages.specs.Answers.{Answer, ◌>>=◌}
use Rattle.tcl_pages.specs.Texts.{Text}
use Rattle.tcl_pages.specs.Usage.{usage, bad_option}
use Rattle.tcl_pages.specs.declared.lists.SortOptions.{SortOptions}

-- ---- the stable ordered rearrangement

module _ {A : Type 0} where
  -- x in front of the first that isn't before it
  abbrev pub inserted : (A → A → Bool) → A → List A → List A
  inserted before x [] = x ∷ []
  inserted before x (y ∷ ys) = if before y x then y ∷ inserted before x ys else x ∷ y ∷ ys

  abbrev pub sorted : (A → A → Bool) → List A → List A
  sorted before [] = []
  sorted before (x ∷ xs) = inserted before x (sorted before xs)

  -- of neighbours that tie, the last one alone
  abbrev pub last_of_ties : (A → A → Bool) → List A → List A
  last_of_ties before [] = []
  last_of_ties before (x ∷ []) = x ∷ []
  last_of_ties before (x ∷ y ∷ ys) = if ties before x y then last_of_ties before (y ∷ ys) else x ∷ last_of_ties before (y ∷ ys)

  abbrev pub in_order : SortOptions → (A → A → Bool) → List A → List A
  in_order o before xs = if o.unique then last_of_ties before (sorted before xs) else sorted before xs

  abbrev pub directed : Bool → (A → A → Bool) → A → A → Bool
  directed false before x y = before x y
  directed true before x y = before y x

-- ys are the elements of xs, in order, and those that tie as they stood: then and only then they are xs sorted
abbrev pub SortedIsStable : Type 0 → Type 0
SortedIsStable A = (before : A → A → Bool) → IsStrictWeakOrder before → (xs ys : List A) →
    (sorted before xs ≡ ys) ↔ (IsPermutation xs ys × IsSortedBy before ys × IsStableBy before xs ys)

-- ---- the command

-- texts are in the order of their characters
abbrev pub stands_before : Text → Text → Bool
stands_before t u = is_lt (slice_cmp nat_cmp t u)

-- elements in the order of the numbers that stand with them
abbrev pub number_before : ℤ × Text → ℤ × Text → Bool
number_before x y = int_lt x.0 y.0

-- no option
abbrev pub plain_sort : SortOptions
plain_sort = record { integer = false; decreasing = false; unique = false }

abbrev pub sort_options : List Text
sort_options = literal "-ascii" ∷ literal "-integer" ∷ literal "-increasing" ∷ literal "-decreasing" ∷ literal "-unique" ∷ []

-- Options, with those in front of them: of two that clash the later counts.
abbrev pub with_sort_option : SortOptions → Text → Answer SortOptions
with_sort_option o t =
    if same_text t (literal "-ascii") then Ok (record o { integer = false }) else (
    if same_text t (literal "-integer") then Ok (record o { integer = true }) else (
    if same_text t (literal "-increasing") then Ok (record o { decreasing = false }) else (
    if same_text t (literal "-decreasing") then Ok (record o { decreasing = true }) else (
    if same_text t (literal "-unique") then Ok (record o { unique = true }) else bad_option t sort_options))))

module _ (dialect : Dialect) where
  -- each element with its number
  abbrev pub numbered : List Text → Answer (List (ℤ × Text))
  numbered [] = Ok []
  numbered (e ∷ es) = do
    n ← number dialect e
    rest ← numbered es
    Ok ((n, e) ∷ rest)

  abbrev pub sorted_elements : SortOptions → List Text → Answer (List Text)
  sorted_elements o es =
      if o.integer then (do
        items ← numbered es
        Ok (map (λ (x : ℤ × Text). x.1) (in_order o (directed o.decreasing number_before) items)))
      else Ok (in_order o (directed o.decreasing stands_before) es)

  -- lsort ?-option ...? list: all words but the last are options
  abbrev pub sort_with : SortOptions → List Text → Answer Text
  sort_with o [] = usage (literal "lsort ?-option ...? list")
  sort_with o (list ∷ []) = do
    es ← elements_of list
    ordered ← sorted_elements o es
    Ok (written ordered)
  sort_with o (t ∷ u ∷ ts) = do
    more ← with_sort_option o t
    sort_with more (u ∷ ts)

  abbrev pub lsort : List Text → Answer Text
  lsort ts = sort_with plain_sort ts
