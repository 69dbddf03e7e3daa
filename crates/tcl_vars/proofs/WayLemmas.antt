-- The way that indices lead through lists in lists, and what a change at its end leaves.
use Rattle.std.proofs.Common.{◌≡◌, ℕ, ◌+◌, ◌<◌, ◌≤◌, List, [], ◌∷◌, ◌++◌, take, drop, length, get_or, append_assoc, refl, sym, ap, ◌∙◌, arith, Ok, Err}
use Rattle.tcl_chars.specs.Answers.{Stops}
use Rattle.tcl_chars.specs.declared.fault.Fault.{Fault}
use Rattle.tcl_chars.specs.declared.numbers.Dialect.{Dialect}
use Rattle.tcl_list.specs.Elements.{elements_of}
use Rattle.tcl_list.specs.Written.{written}
use Rattle.tcl_lists.proofs.IndexLemmas.{in_steps, stops_first, stops_same}
use Rattle.tcl_lists.proofs.OptionLemmas.{front_at}
use Rattle.tcl_pages.specs.Answers.{Answer, ◌>>=◌}
use Rattle.tcl_pages.proofs.Answers.{same_steps}
use Rattle.tcl_pages.specs.Lists.{index, place_within, with_element, element_set}
use Rattle.tcl_pages.specs.Texts.{Text}
use Rattle.tcl_vars.specs.Way.{place_by, element_in, put, seen, all_seen, way_of, put_all}
use Rattle.tcl_vars.specs.declared.path.Level.{Level}

as_it_is : {A : Type 0} (r : Answer A) → (r >>= λ x. Ok x) ≡ r
as_it_is (Ok x) = refl
as_it_is (Err m) = refl

abbrev pub put_in : Answer (List Text) → ℕ → Text → Answer Text
put_in r k v = r >>= λ es. Ok (written (with_element es k v))

abbrev pub get_in : Answer (List Text) → ℕ → Answer Text
get_in r k = r >>= λ es. Ok (get_or es k [])

-- ---- the way, and then the change

abbrev place_in : Dialect → Text → List Text → Answer ℕ
place_in d i es = index d i (length es) >>= λ p. place_within p (length es)

abbrev changed_in : Dialect → List Text → Text → List Text → ℕ → Answer Text
changed_in d is v es k = element_set d (get_or es k []) is v >>= λ inner. Ok (written (with_element es k inner))

abbrev set_in : Dialect → Text → List Text → Text → List Text → Answer Text
set_in d i is v es = index d i (length es) >>= λ p. place_within p (length es) >>= changed_in d is v es

abbrev level_over : Text → ℕ → List (Text × ℕ) → Answer (List (Text × ℕ))
level_over list k rest = Ok ((list, k) ∷ rest)

abbrev way_on : Dialect → Text → List Text → ℕ → Answer (List (Text × ℕ))
way_on d list is k = element_in list k >>= λ x. way_of d x is >>= level_over list k

abbrev change : Text → List (Text × ℕ) → Answer Text
change v ls = put_all ls v

abbrev SetsByWay : Dialect → List Text → Text → Text → Type 0
SetsByWay d is v list = element_set d list is v ≡ (way_of d list is >>= change v)

at_place : (d : Dialect) (list : Text) (is : List Text) (v : Text) (es : List Text) → elements_of list ≡ Ok es → ((x : Text) → SetsByWay d is v x) → (k : ℕ) → changed_in d is v es k ≡ (way_on d list is k >>= change v)
at_place d list is v es e ih k =
    ap (λ r. r >>= W) (ih x) ∙ sym (in_steps (way_of d x is) over (change v) W (λ rest. same_steps (put_all rest v) (put list k) W putting))
    ∙ in_steps (way_of d x is) over (level_over list k) (change v) (λ rest. refl) ∙ sym (ap (λ r. (r >>= λ y. way_of d y is >>= level_over list k) >>= change v) (ap (λ r. get_in r k) e))
  where
    x : Text
    x = get_or es k []

    W : Text → Answer Text
    W inner = Ok (written (with_element es k inner))

    over : List (Text × ℕ) → Answer Text
    over rest = put_all rest v >>= put list k

    putting : (inner : Text) → put list k inner ≡ W inner
    putting inner = ap (λ r. put_in r k inner) e

by_list : (d : Dialect) (list i : Text) (is : List Text) (v : Text) → ((x : Text) → SetsByWay d is v x) → (r : Answer (List Text)) → elements_of list ≡ r → SetsByWay d (i ∷ is) v list
by_list d list i is v ih (Ok es) e =
    ap (λ r. r >>= set_in d i is v) e ∙ in_steps (index d i (length es)) (λ p. place_within p (length es) >>= changed_in d is v es) (λ p. place_within p (length es)) (changed_in d is v es) (λ p. refl)
    ∙ in_steps (place_in d i es) (changed_in d is v es) (way_on d list is) (change v) (at_place d list is v es e ih) ∙ sym (ap (λ r. ((r >>= place_in d i) >>= way_on d list is) >>= change v) e)
by_list d list i is v ih (Err m) e = ap (λ r. r >>= set_in d i is v) e ∙ sym (ap (λ r. ((r >>= place_in d i) >>= way_on d list is) >>= change v) e)

pub sets_by_way : (d : Dialect) (list : Text) (is : List Text) (v : Text) → SetsByWay d is v list
sets_by_way d list [] v = refl
sets_by_way d list (i ∷ is) v = by_list d list i is v (λ x. sets_by_way d x is v) (elements_of list) refl

-- ---- one level more

way_step : (d : Dialect) (list inner t : Text) (k : ℕ) (is : List Text) → place_by d list t ≡ Ok k → element_in list k ≡ Ok inner → way_of d list (t ∷ is) ≡ (way_of d inner is >>= level_over list k)
way_step d list inner t k is p e = ap (λ r. r >>= way_on d list is) p ∙ ap (λ r. r >>= λ x. way_of d x is >>= level_over list k) e

pub words_from : (n at : ℕ) (ws : List Text) (t : Text) → at < n → n ≤ length ws → t ≡ get_or ws at [] → drop at (take n ws) ≡ t ∷ drop (at + 1) (take n ws)
words_from n at ws t h l w = front_at n ws at h l ∙ ap (λ u. u ∷ drop (at + 1) (take n ws)) (sym w)

pub way_goes_on : (d : Dialect) (list inner t : Text) (k n at : ℕ) (ws : List Text) (done more : List (Text × ℕ)) → at < n → n ≤ length ws → t ≡ get_or ws at [] → more ≡ done ++ (list, k) ∷ []
    → place_by d list t ≡ Ok k → element_in list k ≡ Ok inner → (way_of d inner (drop (at + 1) (take n ws)) >>= λ rest. Ok (more ++ rest)) ≡ (way_of d list (drop at (take n ws)) >>= λ rest. Ok (done ++ rest))
way_goes_on d list inner t k n at ws done more h l w em p e =
    ap (λ us. way_of d inner R >>= λ rest. Ok (us ++ rest)) em
    ∙ in_steps (way_of d inner R) (λ rest. Ok ((done ++ (list, k) ∷ []) ++ rest)) (level_over list k) (λ rest. Ok (done ++ rest)) (λ rest. ap Ok (append_assoc done ((list, k) ∷ []) rest))
    ∙ sym (ap (λ r. r >>= λ rest. Ok (done ++ rest)) (ap (way_of d list) (words_from n at ws t h l w) ∙ way_step d list inner t k R p e))
  where
    R : List Text
    R = drop (at + 1) (take n ws)

pub way_stops : (f : Fault) (d : Dialect) (list t : Text) (n at : ℕ) (ws : List Text) (done : List (Text × ℕ)) (all : Answer (List (Text × ℕ))) → at < n → n ≤ length ws → t ≡ get_or ws at [] → Stops f (place_by d list t)
    → (way_of d list (drop at (take n ws)) >>= λ rest. Ok (done ++ rest)) ≡ all → Stops f all
way_stops f d list t n at ws done all h l w s so_far =
    stops_same f _ _ (sym (ap (λ us. way_of d list us >>= λ rest. Ok (done ++ rest)) (words_from n at ws t h l w)) ∙ so_far)
    (stops_first f _ (λ rest. Ok (done ++ rest)) (stops_first f (place_by d list t) (way_on d list (drop (at + 1) (take n ws))) s))

-- ---- back to the outermost list

put_last : (ls : List (Text × ℕ)) (l : Text × ℕ) (v : Text) → put_all (ls ++ l ∷ []) v ≡ (put l.0 l.1 v >>= λ x. put_all ls x)
put_last [] l v = sym (as_it_is (put l.0 l.1 v))
put_last (m ∷ ls) l v =
    ap (λ r. r >>= put m.0 m.1) (put_last ls l v) ∙ sym (in_steps (put l.0 l.1 v) (λ x. put_all ls x >>= put m.0 m.1) (λ x. put_all ls x) (put m.0 m.1) (λ x. refl))

levels_last : (ls : List Level) (l : Level) → all_seen (ls ++ l ∷ []) ≡ all_seen ls ++ seen l ∷ []
levels_last [] l = refl
levels_last (m ∷ ls) l = ap (λ us. seen m ∷ us) (levels_last ls l)

whole_levels : (ls rest : List Level) (l : Level) (v : Text) → ls ≡ rest ++ l ∷ [] → put_all (all_seen ls) v ≡ (put l.list l.place v >>= λ x. put_all (all_seen rest) x)
whole_levels ls rest l v e = ap (λ us. put_all (all_seen us) v) e ∙ ap (λ us. put_all us v) (levels_last rest l) ∙ put_last (all_seen rest) (seen l) v

pub level_put : (ls rest : List Level) (l : Level) (v w : Text) → ls ≡ rest ++ l ∷ [] → put l.list l.place v ≡ Ok w → put_all (all_seen rest) w ≡ put_all (all_seen ls) v
level_put ls rest l v w e h = sym (whole_levels ls rest l v e ∙ ap (λ r. r >>= λ x. put_all (all_seen rest) x) h)

pub level_stops : (f : Fault) (ls rest : List Level) (l : Level) (v : Text) → ls ≡ rest ++ l ∷ [] → Stops f (put l.list l.place v) → Stops f (put_all (all_seen ls) v)
level_stops f ls rest l v e s = stops_same f _ _ (sym (whole_levels ls rest l v e)) (stops_first f (put l.list l.place v) (λ x. put_all (all_seen rest) x) s)

-- ---- the way there and back

pub way_ends : (f : Fault) (d : Dialect) (list : Text) (is : List Text) (v : Text) → Stops f (way_of d list is) → Stops f (element_set d list is v)
way_ends f d list is v s = stops_same f _ _ (sym (sets_by_way d list is v)) (stops_first f (way_of d list is) (change v) s)

back_again : (d : Dialect) (list : Text) (is : List Text) (v : Text) (ls : List (Text × ℕ)) → way_of d list is ≡ Ok ls → put_all ls v ≡ element_set d list is v
back_again d list is v ls e = sym (sets_by_way d list is v ∙ ap (λ r. r >>= change v) e)

pub way_back : (d : Dialect) (list : Text) (is : List Text) (v new : Text) (ls : List (Text × ℕ)) → way_of d list is ≡ Ok ls → put_all ls v ≡ Ok new → element_set d list is v ≡ Ok new
way_back d list is v new ls e p = sym (back_again d list is v ls e) ∙ p

pub back_stops : (f : Fault) (d : Dialect) (list : Text) (is : List Text) (v : Text) (ls : List (Text × ℕ)) → way_of d list is ≡ Ok ls → Stops f (put_all ls v) → Stops f (element_set d list is v)
back_stops f d list is v ls e s = stops_same f _ _ (back_again d list is v ls e) s

-- ---- one index alone

only_in : (d : Dialect) (i v : Text) (k : ℕ) (r : Answer (List Text)) → (r >>= place_in d i) ≡ Ok k → put_in r k v ≡ (r >>= set_in d i [] v)
only_in d i v k (Ok es) e =
    sym (in_steps (index d i (length es)) (λ p. place_within p (length es) >>= changed_in d [] v es) (λ p. place_within p (length es)) (changed_in d [] v es) (λ p. refl) ∙ ap (λ r. r >>= changed_in d [] v es) e)
only_in d i v k (Err m) e = absurd cc

pub put_only : (d : Dialect) (list : Text) (k n : ℕ) (ws : List Text) (v : Text) → n ≡ 1 → n ≤ length ws → place_by d list (get_or ws 0 []) ≡ Ok k → put list k v ≡ element_set d list (take n ws) v
put_only d list k n [] v h l p = absurd (omega (arith, h, l))
put_only d list k n (w ∷ ws) v h l p = only_in d w v k (elements_of list) p ∙ ap (λ m. element_set d list (take m (w ∷ ws)) v) (sym h)
