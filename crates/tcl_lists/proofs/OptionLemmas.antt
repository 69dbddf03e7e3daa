-- Options in front of a command's other words.
use Rattle.std.proofs.Common.{◌≡◌, ℕ, zero, suc, ◌+◌, ◌<◌, ◌≤◌, Bool, true, false, ◌&&◌, List, [], ◌∷◌, ◌++◌, length, take, drop, Ok, Err, sym, ap, ◌∙◌, refl, arith}
use Rattle.std.specs.Prelude.{codes, cond}
use Rattle.std.specs.Str.{chars}
use Rattle.std.proofs.lemmas.Bool.{and_parts}
use Rattle.std.proofs.lemmas.List.{drop_all}
use Rattle.std.proofs.lemmas.Str.{chars-append}
use Rattle.tcl_chars.proofs.Literals.{literal_is_utf8, is_ascii_text}
use Rattle.tcl_chars.specs.Answers.{Stops}
use Rattle.tcl_chars.specs.declared.fault.Fault.{Fault}
use Rattle.tcl_chars.specs.Messages.{about}
use Rattle.tcl_chars.specs.Texts.{literal, same_text}
use Rattle.tcl_lists.specs.Options.{with_options}
use Rattle.tcl_lists.specs.WordAt.{word}
use Rattle.tcl_lists.proofs.IndexLemmas.{stops_first, stops_same}
use Rattle.tcl_values.proofs.Placed.{one_more}
use Rattle.tcl_pages.specs.Answers.{Answer, ◌>>=◌}
use Rattle.tcl_pages.specs.Searching.{search_options, with_search_option}
use Rattle.tcl_pages.specs.Sorting.{sort_options, with_sort_option}
use Rattle.tcl_pages.specs.Texts.{Text}
use Rattle.tcl_pages.specs.Usage.{bad_option, choices}
use Rattle.tcl_pages.specs.declared.lists.SearchOptions.{SearchOptions}
use Rattle.tcl_pages.specs.declared.lists.SortOptions.{SortOptions}

front_from : (n : ℕ) (ws : List Text) (i : ℕ) → i < n → n ≤ length ws → drop i (take n ws) ≡ word ws i ∷ drop (suc i) (take n ws)
front_from zero ws i h k = absurd (omega arith)
front_from (suc n) [] i h k = absurd (omega arith)
front_from (suc n) (w ∷ ws) zero h k = refl
front_from (suc n) (w ∷ ws) (suc i) h k = front_from n ws i (omega arith) (omega arith)

pub front_at : (n : ℕ) (ws : List Text) (i : ℕ) → i < n → n ≤ length ws → drop i (take n ws) ≡ word ws i ∷ drop (i + 1) (take n ws)
front_at n ws i h k = front_from n ws i h k ∙ ap (λ (m : ℕ). word ws i ∷ drop m (take n ws)) (one_more i)

module _ {O : Type 0} (more : O → Text → Answer O) where
  pub option_goes_on : (o next : O) (n : ℕ) (ws : List Text) (i : ℕ) (t : Text) → i < n → n ≤ length ws → t ≡ word ws i → more o t ≡ Ok next
      → with_options more next (drop (i + 1) (take n ws)) ≡ with_options more o (drop i (take n ws))
  option_goes_on o next n ws i t h k w e =
      sym (ap (with_options more o) (front_at n ws i h k) ∙ ap (λ u. more o u >>= λ x. with_options more x (drop (i + 1) (take n ws))) (sym w)
      ∙ ap (λ r. r >>= λ x. with_options more x (drop (i + 1) (take n ws))) e)

  pub option_stops : (f : Fault) (o : O) (n : ℕ) (ws : List Text) (i : ℕ) (t : Text) → i < n → n ≤ length ws → t ≡ word ws i → Stops f (more o t)
      → Stops f (with_options more o (drop i (take n ws)))
  option_stops f o n ws i t h k w e =
      stops_same f _ _ (sym (ap (with_options more o) (front_at n ws i h k) ∙ ap (λ u. more o u >>= λ x. with_options more x (drop (i + 1) (take n ws))) (sym w)))
      (stops_first f (more o t) (λ x. with_options more x (drop (i + 1) (take n ws))) e)

  pub options_end : (o : O) (n : ℕ) (ws : List Text) (i : ℕ) → length (take n ws) ≤ i → with_options more o (drop i (take n ws)) ≡ Ok o
  options_end o n ws i h = ap (with_options more o) (drop_all i (take n ws) h)

-- ---- the choices that a message names

unfoldable pub said : List ℕ → List (List ℕ) → List ℕ
said p [] = p
said p (q ∷ qs) = p ++ said q qs

unfoldable pub shown : List ℕ → List (List ℕ) → List ℕ
shown p [] = chars p
shown p (q ∷ qs) = chars p ++ shown q qs

unfoldable pub all_ascii : List (List ℕ) → Bool
all_ascii [] = true
all_ascii (p ∷ ps) = is_ascii_text p && all_ascii ps

-- literals one behind the other, as one
pub said_in_parts : (p : List ℕ) (ps : List (List ℕ)) → all_ascii (p ∷ ps) ≡ true → chars (said p ps) ≡ shown p ps
unfolding said shown all_ascii
said_in_parts p [] h = refl
said_in_parts p (q ∷ qs) h =
    let parts = and_parts _ _ h in
    chars-append p (said q qs) (literal_is_utf8 p parts.0) ∙ ap (λ t. chars p ++ t) (said_in_parts q qs parts.1)

pub sort_choices : literal ": must be -ascii, -integer, -increasing, -decreasing, or -unique" ≡ literal ": must be " ++ choices sort_options
unfolding said shown all_ascii chars
sort_choices =
    said_in_parts (codes ": must be ")
    (codes "-ascii" ∷ codes ", " ∷ codes "-integer" ∷ codes ", " ∷ codes "-increasing" ∷ codes ", " ∷ codes "-decreasing" ∷ codes ", " ∷ codes "or " ∷ codes "-unique" ∷ []) refl

pub search_choices : literal ": must be -exact, -glob, -all, -inline, or -not" ≡ literal ": must be " ++ choices search_options
unfolding said shown all_ascii chars
search_choices =
    said_in_parts (codes ": must be ")
    (codes "-exact" ∷ codes ", " ∷ codes "-glob" ∷ codes ", " ∷ codes "-all" ∷ codes ", " ∷ codes "-inline" ∷ codes ", " ∷ codes "or " ∷ codes "-not" ∷ []) refl

-- ---- an option that is none of them

five_tests : {A : Type 0} (b c d e f : Bool) (u v w x y z : A) → b ≡ false → c ≡ false → d ≡ false → e ≡ false → f ≡ false → cond b u (cond c v (cond d w (cond e x (cond f y z)))) ≡ z
five_tests b c d e f u v w x y z p q r s t = rw (p, q, r, s, t) refl

pub no_sort_option : (o : SortOptions) (t m : Text) → same_text t (literal "-ascii") ≡ false → same_text t (literal "-integer") ≡ false → same_text t (literal "-increasing") ≡ false → same_text t (literal "-decreasing") ≡ false
    → same_text t (literal "-unique") ≡ false → m ≡ about (literal "bad option") t (literal ": must be -ascii, -integer, -increasing, -decreasing, or -unique") → with_sort_option o t ≡ Err m
no_sort_option o t m p q r s u e =
    five_tests _ _ _ _ _ _ _ _ _ _ (bad_option t sort_options) p q r s u ∙ ap Err (sym (e ∙ ap (about (literal "bad option") t) sort_choices))

pub no_search_option : (o : SearchOptions) (t m : Text) → same_text t (literal "-exact") ≡ false → same_text t (literal "-glob") ≡ false → same_text t (literal "-all") ≡ false → same_text t (literal "-inline") ≡ false
    → same_text t (literal "-not") ≡ false → m ≡ about (literal "bad option") t (literal ": must be -exact, -glob, -all, -inline, or -not") → with_search_option o t ≡ Err m
no_search_option o t m p q r s u e =
    five_tests _ _ _ _ _ _ _ _ _ _ (bad_option t search_options) p q r s u ∙ ap Err (sym (e ∙ ap (about (literal "bad option") t) search_choices))
