-- lsort(n), of the elements with their numbers.
use Rattle.std.proofs.Common.{◌≡◌, ◌≢◌, ℕ, zero, suc, ◌+◌, ◌-◌, ℤ, Bool, true, false, List, [], ◌∷◌, map, length, take, drop, Ok, Bor, FitsSigned, sym, ap, ◌∙◌, refl, arith}
use Rattle.std.specs.Prelude.{cond, int_lt}
use Rattle.std.specs.Fmt.{signed_decimal}
use Rattle.std.specs.Int.{w64}
use Rattle.std.specs.Ordering.{is_lt, int_cmp}
use Rattle.std.specs.declared.cmp.Ordering.TheVariants.{Less, Equal, Greater}
use Rattle.std.proofs.lemmas.Simd.{map-map}
use Rattle.tcl_chars.specs.Answers.{Stops}
use Rattle.tcl_chars.specs.declared.fault.Fault.{Fault}
use Rattle.tcl_chars.specs.declared.numbers.Dialect.{Dialect}
use Rattle.tcl_chars.specs.Messages.{number, whole_or, expected_integer}
use Rattle.tcl_chars.specs.Texts.{literal}
use Rattle.tcl_list.specs.Elements.{elements_of}
use Rattle.tcl_list.specs.Written.{written}
use Rattle.tcl_lists.specs.Options.{with_options}
use Rattle.tcl_lists.specs.Sorted.{its_text, with_number, with_text, twice, less_number, less_text, is_before, sorted_list}
use Rattle.tcl_lists.specs.WordAt.{word}
use Rattle.tcl_lists.specs.declared.sort.Item.{Item}
use Rattle.tcl_lists.proofs.IndexLemmas.{stops_same, stops_first, in_steps}
use Rattle.tcl_lists.proofs.SortLemmas.{seen_in_order}
use Rattle.tcl_pages.specs.Answers.{Answer, ◌>>=◌}
use Rattle.tcl_pages.specs.Sorting.{in_order, directed, number_before, stands_before, numbered, sorted_elements, with_sort_option, plain_sort, sort_with, lsort}
use Rattle.tcl_pages.specs.Texts.{Text}
use Rattle.tcl_pages.specs.Usage.{usage}
use Rattle.tcl_pages.specs.declared.lists.SortOptions.{SortOptions}
use Rattle.tcl_values.proofs.Decimals.{reads_decimal}
use Rattle.tcl_values.specs.Kept.{Kept, texts}

-- the number of a text that is kept as one
pub number_kept : (d : Dialect) (n : ℤ) (t : Text) → FitsSigned w64 n → t ≡ signed_decimal n → number d t ≡ Ok n
number_kept d n t f h = ap (number d) h ∙ ap (whole_or (expected_integer (signed_decimal n))) (reads_decimal d n f)

-- the text behind what it is sorted by
abbrev behind_number : ℤ × Text → Text
behind_number p = p.1

abbrev behind_text : Text × Text → Text
behind_text p = p.1

-- a direction of two orders that say the same
by_way : {A B : Type 0} (f : A → B) (way : Bool) (lt : A → A → Bool) (before : B → B → Bool) → ((x y : A) → lt x y ≡ before (f x) (f y)) → (x y : A) → directed way lt x y ≡ directed way before (f x) (f y)
by_way f true lt before h x y = h y x
by_way f false lt before h x y = h x y

int_order : (x y : ℤ) → is_lt (int_cmp x y) ≡ int_lt x y
int_order x y = by_test (int_lt x y) (int_lt y x)
  where
    by_test : (b c : Bool) → is_lt (cond b Less (cond c Greater Equal)) ≡ b
    by_test true c = refl
    by_test false true = refl
    by_test false false = refl

module _ (o : SortOptions) where
  numbers_in_order : (xs : List (Item ℤ)) → map its_text (in_order o (is_before less_number o) xs) ≡ map behind_number (in_order o (directed o.decreasing number_before) (map with_number xs))
  numbers_in_order xs =
      sym (map-map behind_number with_number (in_order o (is_before less_number o) xs))
      ∙ ap (map behind_number) (seen_in_order with_number (is_before less_number o) (directed o.decreasing number_before)
      (by_way with_number o.decreasing (λ x y. less_number x.key y.key) number_before (λ x y. int_order x.key y.key)) o xs)

  abbrev first_before : Text × Text → Text × Text → Bool
  first_before p q = stands_before p.0 q.0

  abbrev its_text_before : Kept → Kept → Bool
  its_text_before j k = stands_before j.text k.text

  texts_in_order : (xs : List (Item (Bor (List ℕ)))) (ks : List Kept) → map with_text xs ≡ map twice ks → map its_text (in_order o (is_before less_text o) xs) ≡ in_order o (directed o.decreasing stands_before) (texts ks)
  texts_in_order xs ks h =
      sym (map-map behind_text with_text (in_order o (is_before less_text o) xs))
      ∙ ap (map behind_text) (seen_in_order with_text (is_before less_text o) (directed o.decreasing first_before) (by_way with_text o.decreasing (λ x y. less_text x.key y.key) first_before (λ x y. refl)) o xs
      ∙ ap (in_order o (directed o.decreasing first_before)) h
      ∙ sym (seen_in_order twice (directed o.decreasing its_text_before) (directed o.decreasing first_before) (by_way twice o.decreasing its_text_before first_before (λ j k. refl)) o ks))
      ∙ map-map behind_text twice (in_order o (directed o.decreasing its_text_before) ks)
      ∙ seen_in_order (λ (k : Kept). k.text) (directed o.decreasing its_text_before) (directed o.decreasing stands_before) (by_way (λ (k : Kept). k.text) o.decreasing its_text_before stands_before (λ j k. refl)) o ks

  module _ (d : Dialect) (ks : List Kept) where
    abbrev by_kind : Bool → Answer (List Text)
    by_kind true = numbered d (texts ks) >>= λ ps. Ok (map behind_number (in_order o (directed o.decreasing number_before) ps))
    by_kind false = Ok (in_order o (directed o.decreasing stands_before) (texts ks))

    elements_by_kind : sorted_elements d o (texts ks) ≡ by_kind o.integer
    elements_by_kind = either o.integer
      where
        either : (b : Bool) → cond b (by_kind true) (by_kind false) ≡ by_kind b
        either true = refl
        either false = refl

    pub numbers_are : (xs : List (Item ℤ)) (vs : List Text) → o.integer ≡ true → numbered d (texts ks) ≡ Ok (map with_number xs) → vs ≡ map its_text (in_order o (is_before less_number o) xs) → sorted_elements d o (texts ks) ≡ Ok vs
    numbers_are xs vs h hx hv =
        elements_by_kind ∙ ap by_kind h ∙ ap (λ r. r >>= λ ps. Ok (map behind_number (in_order o (directed o.decreasing number_before) ps))) hx ∙ ap Ok (sym (hv ∙ numbers_in_order xs))

    pub texts_are : (xs : List (Item (Bor (List ℕ)))) (vs : List Text) → o.integer ≡ false → map with_text xs ≡ map twice ks → vs ≡ map its_text (in_order o (is_before less_text o) xs) → sorted_elements d o (texts ks) ≡ Ok vs
    texts_are xs vs h hx hv = elements_by_kind ∙ ap by_kind h ∙ ap Ok (sym (hv ∙ texts_in_order xs ks hx))

    pub sorted_is : (vs : List Text) (v : Text) → sorted_elements d o (texts ks) ≡ Ok vs → v ≡ written vs → sorted_list d o (texts ks) ≡ Ok v
    sorted_is vs v h hw = ap (λ r. r >>= λ ordered. Ok (written ordered)) h ∙ ap Ok (sym hw)

-- ---- the command

pub lsort_usage : (d : Dialect) (ws : List Text) → length ws ≡ 0 → lsort d ws ≡ usage (literal "lsort ?-option ...? list")
lsort_usage d [] h = refl
lsort_usage d (a ∷ ws) h = absurd (omega arith)

abbrev sort_rest : Dialect → ℕ → List Text → SortOptions → Answer Text
sort_rest d n ws o = sort_with d o (drop n ws)

options_first : (d : Dialect) (n : ℕ) (ws : List Text) (o : SortOptions) → n + 1 ≡ length ws → sort_with d o ws ≡ (with_options with_sort_option o (take n ws) >>= sort_rest d n ws)
options_first d zero ws o h = refl
options_first d (suc n) [] o h = absurd (omega arith)
options_first d (suc n) (a ∷ []) o h = absurd (omega arith)
options_first d (suc n) (a ∷ b ∷ ws) o h =
    in_steps (with_sort_option o a) (λ m. sort_with d m (b ∷ ws)) (λ m. with_options with_sort_option m (take n (b ∷ ws))) (sort_rest d n (b ∷ ws)) (λ m. options_first d n (b ∷ ws) m (omega arith))

last_one : (n : ℕ) (ws : List Text) → n + 1 ≡ length ws → drop n ws ≡ word ws n ∷ []
last_one zero [] h = absurd (omega arith)
last_one zero (a ∷ []) h = refl
last_one zero (a ∷ b ∷ ws) h = absurd (omega arith)
last_one (suc n) [] h = absurd (omega arith)
last_one (suc n) (a ∷ ws) h = last_one n ws (omega arith)

-- the last word, where the options are read
pub sort_at : (d : Dialect) (n : ℕ) (ws : List Text) (o : SortOptions) → n + 1 ≡ length ws → with_options with_sort_option plain_sort (take n ws) ≡ Ok o
    → lsort d ws ≡ (elements_of (word ws n) >>= sorted_list d o)
sort_at d n ws o h e = options_first d n ws plain_sort h ∙ ap (λ r. r >>= sort_rest d n ws) e ∙ ap (sort_with d o) (last_one n ws h)

pub sort_stops : (f : Fault) (d : Dialect) (n : ℕ) (ws : List Text) → n + 1 ≡ length ws → Stops f (with_options with_sort_option plain_sort (take n ws)) → Stops f (lsort d ws)
sort_stops f d n ws h s = stops_same f _ _ (sym (options_first d n ws plain_sort h)) (stops_first f _ (sort_rest d n ws) s)

abbrev options_are : List Text → Answer SortOptions
options_are ws = with_options with_sort_option plain_sort (take (length ws - 1) ws)

one_behind : (ws : List Text) → length ws ≢ 0 → (length ws - 1) + 1 ≡ length ws
one_behind ws h = omega arith

pub options_stop : (f : Fault) (d : Dialect) (ws : List Text) → length ws ≢ 0 → Stops f (options_are ws) → Stops f (lsort d ws)
options_stop f d ws h s = sort_stops f d (length ws - 1) ws (one_behind ws h) s

pub list_stops : (f : Fault) (d : Dialect) (ws ws1 : List Text) (o : SortOptions) → length ws ≢ 0 → ws1 ≡ ws → options_are ws ≡ Ok o → Stops f (elements_of (word ws1 (length ws1 - 1))) → Stops f (lsort d ws)
list_stops f d ws ws1 o h s e stops =
    stops_same f _ _ (sym (sort_at d (length ws - 1) ws o (one_behind ws h) e))
    (stops_first f (elements_of (word ws (length ws - 1))) (sorted_list d o) (stops_same f _ _ (ap (λ us. elements_of (word us (length us - 1))) s) stops))

pub lsort_is : (d : Dialect) (ws ws1 es ts : List Text) (o : SortOptions) → length ws ≢ 0 → ws1 ≡ ws → options_are ws ≡ Ok o → elements_of (word ws1 (length ws1 - 1)) ≡ Ok es → ts ≡ es → sorted_list d o ts ≡ lsort d ws
lsort_is d ws ws1 es ts o h s eo ee et =
    ap (sorted_list d o) et ∙ sym (sort_at d (length ws - 1) ws o (one_behind ws h) eo ∙ ap (λ r. r >>= sorted_list d o) (sym (ap (λ us. elements_of (word us (length us - 1))) s) ∙ ee))
