-- The places that indices say on their way through lists in lists, and what a change at the last of them leaves.
use Rattle.std.proofs.Common.{◌≡◌, ℕ, ◌+◌, ◌<◌, ◌≤◌, List, [], ◌∷◌, ◌++◌, take, drop, length, get_or, append_assoc, refl, sym, ap, ◌∙◌, Ok, Err}
use Rattle.tcl_chars.specs.Answers.{Stops}
use Rattle.tcl_chars.specs.declared.fault.Fault.{Fault}
use Rattle.tcl_chars.specs.declared.numbers.Dialect.{Dialect}
use Rattle.tcl_list.specs.Elements.{elements_of}
use Rattle.tcl_list.specs.Written.{written}
use Rattle.tcl_lists.proofs.IndexLemmas.{in_steps, stops_first, stops_same}
use Rattle.tcl_pages.specs.Answers.{Answer, ◌>>=◌}
use Rattle.tcl_pages.specs.Lists.{index, place_within, with_element, element_set}
use Rattle.tcl_pages.specs.Texts.{Text}
use Rattle.tcl_values.specs.Changes.{after_place, with_under}
use Rattle.tcl_vars.proofs.WayLemmas.{get_in, words_from}
use Rattle.tcl_vars.specs.Way.{place_by, element_in, places_of}

-- ---- the places, and then the change

abbrev place_in : Dialect → Text → List Text → Answer ℕ
place_in d i es = index d i (length es) >>= λ p. place_within p (length es)

abbrev changed_in : Dialect → List Text → Text → List Text → ℕ → Answer Text
changed_in d is v es k = element_set d (get_or es k []) is v >>= λ inner. Ok (written (with_element es k inner))

abbrev set_in : Dialect → Text → List Text → Text → List Text → Answer Text
set_in d i is v es = index d i (length es) >>= λ p. place_within p (length es) >>= changed_in d is v es

abbrev more_place : ℕ → List ℕ → Answer (List ℕ)
more_place k rest = Ok (k ∷ rest)

abbrev places_on : Dialect → Text → List Text → ℕ → Answer (List ℕ)
places_on d list is k = element_in list k >>= λ x. places_of d x is >>= more_place k

abbrev change : Text → Text → List ℕ → Answer Text
change list v ks = with_under list ks v

abbrev under_in : ℕ → List ℕ → Text → Answer (List Text) → Answer Text
under_in k ks v r = r >>= λ es. after_place (λ inner. with_under inner ks v) es k >>= λ new. Ok (written new)

abbrev SetsByPlaces : Dialect → List Text → Text → Text → Type 0
SetsByPlaces d is v list = element_set d list is v ≡ (places_of d list is >>= change list v)

at_place : (d : Dialect) (list : Text) (is : List Text) (v : Text) (es : List Text) → elements_of list ≡ Ok es → ((x : Text) → SetsByPlaces d is v x) → (k : ℕ) → changed_in d is v es k ≡ (places_on d list is k >>= change list v)
at_place d list is v es e ih k =
    ap (λ r. r >>= W) (ih x) ∙ sym (in_steps (places_of d x is) over (change x v) W (λ rest. refl))
    ∙ in_steps (places_of d x is) over (more_place k) (change list v) step
    ∙ sym (ap (λ r. (r >>= λ y. places_of d y is >>= more_place k) >>= change list v) (ap (λ r. get_in r k) e))
  where
    x : Text
    x = get_or es k []

    W : Text → Answer Text
    W inner = Ok (written (with_element es k inner))

    over : List ℕ → Answer Text
    over rest = with_under x rest v >>= W

    step : (rest : List ℕ) → (with_under x rest v >>= W) ≡ with_under list (k ∷ rest) v
    step rest = in_steps (with_under x rest v) W (λ new. Ok (with_element es k new)) (λ us. Ok (written us)) (λ new. refl) ∙ sym (ap (under_in k rest v) e)

by_list : (d : Dialect) (list i : Text) (is : List Text) (v : Text) → ((x : Text) → SetsByPlaces d is v x) → (r : Answer (List Text)) → elements_of list ≡ r → SetsByPlaces d (i ∷ is) v list
by_list d list i is v ih (Ok es) e =
    ap (λ r. r >>= set_in d i is v) e ∙ in_steps (index d i (length es)) (λ p. place_within p (length es) >>= changed_in d is v es) (λ p. place_within p (length es)) (changed_in d is v es) (λ p. refl)
    ∙ in_steps (place_in d i es) (changed_in d is v es) (places_on d list is) (change list v) (at_place d list is v es e ih) ∙ sym (ap (λ r. ((r >>= place_in d i) >>= places_on d list is) >>= change list v) e)
by_list d list i is v ih (Err m) e = ap (λ r. r >>= set_in d i is v) e ∙ sym (ap (λ r. ((r >>= place_in d i) >>= places_on d list is) >>= change list v) e)

sets_by_places : (d : Dialect) (list : Text) (is : List Text) (v : Text) → SetsByPlaces d is v list
sets_by_places d list [] v = refl
sets_by_places d list (i ∷ is) v = by_list d list i is v (λ x. sets_by_places d x is v) (elements_of list) refl

pub places_set : (d : Dialect) (list : Text) (is : List Text) (v : Text) (ks : List ℕ) → places_of d list is ≡ Ok ks → with_under list ks v ≡ element_set d list is v
places_set d list is v ks e = sym (sets_by_places d list is v ∙ ap (λ r. r >>= change list v) e)

pub places_stop : (f : Fault) (d : Dialect) (list : Text) (is : List Text) (v : Text) → Stops f (places_of d list is) → Stops f (element_set d list is v)
places_stop f d list is v s = stops_same f _ _ (sym (sets_by_places d list is v)) (stops_first f (places_of d list is) (change list v) s)

-- ---- one place more

places_step : (d : Dialect) (list inner t : Text) (k : ℕ) (is : List Text) → place_by d list t ≡ Ok k → element_in list k ≡ Ok inner → places_of d list (t ∷ is) ≡ (places_of d inner is >>= more_place k)
places_step d list inner t k is p e = ap (λ r. r >>= places_on d list is) p ∙ ap (λ r. r >>= λ x. places_of d x is >>= more_place k) e

pub places_go_on : (d : Dialect) (list inner t : Text) (k n at : ℕ) (ws : List Text) (done more : List ℕ) → at < n → n ≤ length ws → t ≡ get_or ws at [] → more ≡ done ++ k ∷ []
    → place_by d list t ≡ Ok k → element_in list k ≡ Ok inner → (places_of d inner (drop (at + 1) (take n ws)) >>= λ rest. Ok (more ++ rest)) ≡ (places_of d list (drop at (take n ws)) >>= λ rest. Ok (done ++ rest))
places_go_on d list inner t k n at ws done more h l w em p e =
    ap (λ us. places_of d inner R >>= λ rest. Ok (us ++ rest)) em
    ∙ in_steps (places_of d inner R) (λ rest. Ok ((done ++ k ∷ []) ++ rest)) (more_place k) (λ rest. Ok (done ++ rest)) (λ rest. ap Ok (append_assoc done (k ∷ []) rest))
    ∙ sym (ap (λ r. r >>= λ rest. Ok (done ++ rest)) (ap (places_of d list) (words_from n at ws t h l w) ∙ places_step d list inner t k R p e))
  where
    R : List Text
    R = drop (at + 1) (take n ws)

pub place_stops : (f : Fault) (d : Dialect) (list t : Text) (n at : ℕ) (ws : List Text) (done : List ℕ) (all : Answer (List ℕ)) → at < n → n ≤ length ws → t ≡ get_or ws at [] → Stops f (place_by d list t)
    → (places_of d list (drop at (take n ws)) >>= λ rest. Ok (done ++ rest)) ≡ all → Stops f all
place_stops f d list t n at ws done all h l w s so_far =
    stops_same f _ _ (sym (ap (λ us. places_of d list us >>= λ rest. Ok (done ++ rest)) (words_from n at ws t h l w)) ∙ so_far)
    (stops_first f _ (λ rest. Ok (done ++ rest)) (stops_first f (place_by d list t) (places_on d list (drop (at + 1) (take n ws))) s))
