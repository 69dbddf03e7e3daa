-- The element to which indices lead, a step at a time.
use Rattle.std.proofs.Common.{◌≡◌, ◌≢◌, ℕ, zero, suc, ◌+◌, ◌<◌, ◌≤◌, List, [], ◌∷◌, length, drop, get_or, map, Ok, Err, sym, ap, ◌∙◌, refl, arith}
use Rattle.std.proofs.lemmas.List.{drop_all, drop_more}
use Rattle.tcl_chars.specs.Answers.{Stops}
use Rattle.tcl_chars.specs.declared.fault.Fault.{Fault}
use Rattle.tcl_chars.specs.declared.fault.Fault.TheVariants as fault
use Rattle.tcl_chars.specs.declared.numbers.Dialect.{Dialect}
use Rattle.tcl_chars.specs.Texts.{literal}
use Rattle.tcl_list.specs.Elements.{elements_of}
use Rattle.tcl_lists.specs.WordAt.{word, item_by}
use Rattle.tcl_pages.specs.Answers.{Answer, ◌>>=◌}
use Rattle.tcl_pages.specs.Lists.{index, element_or_empty, element_at, element_by, indices_of, lindex}
use Rattle.tcl_pages.specs.Texts.{Text}
use Rattle.tcl_pages.specs.Usage.{usage}
use Rattle.tcl_values.proofs.Placed.{one_more}
use Rattle.tcl_values.specs.Kept.{Kept, texts}

-- a question whose answer is used in two steps
pub in_steps : {A B O : Type 0} (r : Answer O) (f : O → Answer A) (g : O → Answer B) (h : B → Answer A) → ((n : O) → f n ≡ (g n >>= h)) → (r >>= f) ≡ ((r >>= g) >>= h)
in_steps (Ok n) f g h e = e n
in_steps (Err m) f g h e = refl

-- a fault of the first step is the fault of all
pub stops_first : {A B : Type 0} (f : Fault) (r : Answer A) (g : A → Answer B) → Stops f r → Stops f (r >>= g)
stops_first (fault.Error t) r g h = ap (λ x. x >>= g) h
stops_first fault.Memory r g h = tt

pub stops_same : {A : Type 0} (f : Fault) (r s : Answer A) → r ≡ s → Stops f r → Stops f s
stops_same (fault.Error t) r s e h = sym e ∙ h
stops_same fault.Memory r s e h = tt

-- ---- words and elements at their places

-- the same of a list of which something is seen
module _ {A B : Type 0} (f : A → B) where
  seen_from : (xs : List A) (i : ℕ) (x : A) → i < length xs → x ≡ get_or xs i x → drop i (map f xs) ≡ f x ∷ drop (suc i) (map f xs)
  seen_from [] i x h e = absurd (omega arith)
  seen_from (y ∷ xs) zero x h e = ap (λ z. f z ∷ map f xs) (sym e)
  seen_from (y ∷ xs) (suc i) x h e = seen_from xs i x (omega arith) e

  pub seen_at : (xs : List A) (i : ℕ) (x : A) → i < length xs → x ≡ get_or xs i x → drop i (map f xs) ≡ f x ∷ drop (i + 1) (map f xs)
  seen_at xs i x h e = seen_from xs i x h e ∙ ap (λ (n : ℕ). f x ∷ drop n (map f xs)) (one_more i)

pub texts_at : (ks : List Kept) (i : ℕ) (k : Kept) → i < length ks → k ≡ get_or ks i k → drop i (texts ks) ≡ k.text ∷ drop (i + 1) (texts ks)
texts_at ks i k h e = seen_at (λ (k : Kept). k.text) ks i k h e

-- ---- one index

at_one_index : (d : Dialect) (list i : Text) (is : List Text) → element_at d list (i ∷ is) ≡ (item_by d list i >>= λ item. element_at d item is)
at_one_index d list i is =
    in_steps (elements_of list) _ _ _ (λ es. in_steps (index d i (length es)) (λ place. element_at d (element_or_empty es place) is) (λ place. Ok (element_or_empty es place)) (λ item. element_at d item is) (λ p. refl))

next_index : (d : Dialect) (list : Text) (ws : List Text) (i : ℕ) → i < length ws → element_at d list (drop i ws) ≡ (item_by d list (word ws i) >>= λ item. element_at d item (drop (i + 1) ws))
next_index d list ws i h = ap (element_at d list) (drop_more ws i [] h) ∙ at_one_index d list (word ws i) (drop (i + 1) ws)

pub index_goes_on : (d : Dialect) (list item : Text) (ws : List Text) (i : ℕ) → i < length ws → item_by d list (word ws i) ≡ Ok item → element_at d item (drop (i + 1) ws) ≡ element_at d list (drop i ws)
index_goes_on d list item ws i h e = sym (next_index d list ws i h ∙ ap (λ r. r >>= λ x. element_at d x (drop (i + 1) ws)) e)

pub index_stops : (d : Dialect) (f : Fault) (list : Text) (ws : List Text) (i : ℕ) → i < length ws → Stops f (item_by d list (word ws i)) → Stops f (element_at d list (drop i ws))
index_stops d f list ws i h e =
    stops_same f _ _ (sym (next_index d list ws i h)) (stops_first f (item_by d list (word ws i)) (λ x. element_at d x (drop (i + 1) ws)) e)

pub index_ends : (d : Dialect) (list : Text) (ws : List Text) (i : ℕ) → length ws ≤ i → element_at d list (drop i ws) ≡ Ok list
index_ends d list ws i h = ap (element_at d list) (drop_all i ws h)

-- ---- lindex

pub lindex_usage : (d : Dialect) (ws : List Text) → length ws ≡ 0 → lindex d ws ≡ usage (literal "lindex list ?index ...?")
lindex_usage d [] h = refl
lindex_usage d (w ∷ ws) h = absurd (omega arith)

pub lindex_by_list : (d : Dialect) (ws : List Text) → length (drop 1 ws) ≡ 1 → lindex d ws ≡ element_by d (word ws 0) (elements_of (word ws 1))
lindex_by_list d [] h = absurd (omega arith)
lindex_by_list d (a ∷ []) h = absurd (omega arith)
lindex_by_list d (a ∷ b ∷ []) h = refl
lindex_by_list d (a ∷ b ∷ c ∷ ws) h = absurd (omega arith)

pub lindex_by_words : (d : Dialect) (ws : List Text) → length ws ≢ 0 → indices_of (drop 1 ws) ≡ Ok (drop 1 ws) → lindex d ws ≡ element_at d (word ws 0) (drop 1 ws)
lindex_by_words d [] h k = absurd (h refl)
lindex_by_words d (a ∷ ws) h k = ap (element_by d a) k

-- ---- words that are the indices themselves

pub several_indices : (ws : List Text) → length ws ≢ 1 → indices_of ws ≡ Ok ws
several_indices [] h = refl
several_indices (a ∷ []) h = absurd (h refl)
several_indices (a ∷ b ∷ ws) h = refl

pub word_index : (ws : List Text) (w : Text) → length ws ≡ 1 → w ≡ get_or ws 0 w → elements_of w ≡ Ok (w ∷ []) → indices_of ws ≡ Ok ws
word_index [] w h is e = absurd (omega arith)
word_index (a ∷ []) w h is e = ap elements_of (sym is) ∙ e ∙ ap (λ t. Ok (t ∷ [])) is
word_index (a ∷ b ∷ ws) w h is e = absurd (omega arith)
