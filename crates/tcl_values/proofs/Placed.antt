-- An element under a place of a list, or behind its last one, that becomes another one.
use Rattle.std.proofs.Common.{◌≡◌, ℕ, zero, suc, ◌+◌, ◌<◌, ◌≤◌, List, [], ◌∷◌, ◌++◌, length, take, drop, get_or, max, reverse, slice_set, OnOk, Result, Ok, Err, refl, sym, subst, ap, ◌∙◌, arith}
use Rattle.std.proofs.lemmas.List.{drop_all, map-append, reverse-append, reverse-reverse, take_all}
use Rattle.tcl_chars.specs.Answers.{Answers, Stops}
use Rattle.tcl_chars.specs.declared.fault.Fault.{Fault}
use Rattle.tcl_list.specs.Elements.{elements_of}
use Rattle.tcl_list.specs.Written.{written}
use Rattle.tcl_pages.specs.Answers.{Answer, ◌>>=◌}
use Rattle.tcl_pages.specs.Lists.{with_element}
use Rattle.tcl_pages.specs.Texts.{Text}
use Rattle.tcl_values.proofs.Changed.{changed_there, stops_then}
use Rattle.tcl_values.proofs.Depths.{depth_below, depth_over-push, depth_set-bound}
use Rattle.tcl_values.proofs.ElementPlaces.{length_texts, text_beyond, text_there}
use Rattle.tcl_values.specs.Changes.{after_at, after_place, with_under}
use Rattle.tcl_values.specs.Kept.{Kept, texts, depth_over}
use Rattle.tcl_values.specs.Lists.{Leaves}

-- ---- at a place that is there

pub one_more : (n : ℕ) → suc n ≡ n + 1
one_more n = omega arith

set_from : (ts : List Text) (k : ℕ) (v : Text) → k < length ts → slice_set ts k v ≡ take k ts ++ v ∷ drop (suc k) ts
set_from [] k v l = absurd (omega arith)
set_from (t ∷ ts) zero v l = refl
set_from (t ∷ ts) (suc k) v l = ap (λ us. t ∷ us) (set_from ts k v (omega (arith, l)))

set_is : (ts : List Text) (k : ℕ) (v : Text) → k < length ts → slice_set ts k v ≡ with_element ts k v
set_is ts k v l = set_from ts k v l ∙ ap (λ (j : ℕ). take k ts ++ v ∷ drop j ts) (one_more k)

placed_is : (change : Text → Answer Text) (ts : List Text) (k : ℕ) → k < length ts → after_at change ts k ≡ after_place change ts k
placed_is change ts k l = λ n. change (get_or ts k []) >>= λ new. Ok (set_is ts k new l n)

inside : (ks : List Kept) (i : ℕ) → i < length ks → i < length (texts ks)
inside ks i l = omega (arith, l, length_texts ks)

pub placed_there : (change : Text → Answer Text) (ks : List Kept) (i : ℕ) (k new : Kept) → i < length ks → k ≡ get_or ks i k → change k.text ≡ Ok new.text → after_place change (texts ks) i ≡ Ok (texts (slice_set ks i new))
placed_there change ks i k new l is done = sym (placed_is change (texts ks) i (inside ks i l)) ∙ changed_there change ks i k new l is done

abbrev put_in : List Text → ℕ → Answer Text → Answer (List Text)
put_in ts k r = r >>= λ new. Ok (with_element ts k new)

pub stops_there : (f : Fault) (change : Text → Answer Text) (ks : List Kept) (i : ℕ) (k : Kept) → i < length ks → k ≡ get_or ks i k → Stops f (change k.text) → Stops f (after_place change (texts ks) i)
stops_there f change ks i k l is e = stops_then f (change (get_or (texts ks) i [])) (λ new. Ok (with_element (texts ks) i new)) (subst (λ t. Stops f (change t)) (sym (text_there ks i k l is)) e)

-- ---- behind the last

behind_is : (ts : List Text) (k : ℕ) (v : Text) → length ts ≤ k → with_element ts k v ≡ ts ++ v ∷ []
behind_is ts k v l = (λ n. take_all k ts l n ++ v ∷ drop_all (k + 1) ts (omega (arith, l)) n)

pub placed_behind : (change : Text → Answer Text) (ks more : List Kept) (i : ℕ) (k : Kept) → length ks ≤ i → change [] ≡ Ok k.text → more ≡ ks ++ k ∷ [] → after_place change (texts ks) i ≡ Ok (texts more)
placed_behind change ks more i k l done m =
    ap (λ t. put_in (texts ks) i (change t)) (text_beyond ks i l) ∙ ap (put_in (texts ks) i) done
    ∙ ap Ok (behind_is (texts ks) i k.text (omega (arith, l, length_texts ks)) ∙ sym (ap texts m ∙ map-append (λ (q : Kept). q.text) ks (k ∷ [])))

pub stops_behind : (f : Fault) (change : Text → Answer Text) (ks : List Kept) (i : ℕ) → length ks ≤ i → Stops f (change []) → Stops f (after_place change (texts ks) i)
stops_behind f change ks i l e = stops_then f (change (get_or (texts ks) i [])) (λ new. Ok (with_element (texts ks) i new)) (subst (λ t. Stops f (change t)) (sym (text_beyond ks i l)) e)

-- ---- how deep the list is then

pub depth_placed : (ks now : List Kept) (i : ℕ) (b k : Kept) (d e m : ℕ) → i < length ks → b ≡ get_or ks i b → now ≡ slice_set ks i k → d ≡ depth_over ks → e ≡ depth_over now → k.depth ≤ max b.depth m → e ≤ max d (m + 1)
depth_placed ks now i b k d e m l is set exact same low = omega (arith, ap depth_over set, depth_set-bound ks i k, depth_below ks i b l is, exact, same, low)

pub depth_behind : (ks now : List Kept) (k : Kept) (d e m : ℕ) → now ≡ ks ++ k ∷ [] → d ≡ depth_over ks → e ≡ depth_over now → k.depth ≤ m → e ≤ max d (m + 1)
depth_behind ks now k d e m more exact same low = omega (arith, ap depth_over more, depth_over-push ks k, exact, same, low)

-- ---- places in the reverse order

turned : (ps rest : List ℕ) (p : ℕ) → ps ≡ rest ++ p ∷ [] → reverse ps ≡ p ∷ reverse rest
turned ps rest p e = ap reverse e ∙ reverse-append rest (p ∷ [])

pub under_last : (t v : Text) (ps rest : List ℕ) (p : ℕ) → ps ≡ rest ++ p ∷ [] → with_under t (p ∷ reverse rest) v ≡ with_under t (reverse ps) v
under_last t v ps rest p e = ap (λ qs. with_under t qs v) (sym (turned ps rest p e))

pub under_turned : (t v : Text) (ps back rest : List ℕ) (p : ℕ) → back ≡ reverse ps → back ≡ rest ++ p ∷ [] → with_under t (p ∷ reverse rest) v ≡ with_under t ps v
under_turned t v ps back rest p is e = ap (λ qs. with_under t qs v) (sym (sym (reverse-reverse ps) ∙ ap reverse (sym is) ∙ turned back rest p e))

-- ---- the list itself

abbrev under_in : ℕ → List ℕ → Text → Answer (List Text) → Answer Text
under_in p ps v r = r >>= λ es. after_place (λ inner. with_under inner ps v) es p >>= λ new. Ok (written new)

module _ (t v : Text) (ps back rest : List ℕ) (p : ℕ) (is : back ≡ reverse ps) (e : back ≡ rest ++ p ∷ []) where
  pub under_unread : (f : Fault) → Stops f (elements_of t) → Stops f (with_under t ps v)
  under_unread f s = subst (λ m. Stops f m) (under_turned t v ps back rest p is e) (stops_then f (elements_of t) (λ es. after_place (λ inner. with_under inner (reverse rest) v) es p >>= λ new. Ok (written new)) s)

  under_is : (w : Text) (ks : List Kept) → w ≡ v → elements_of t ≡ Ok (texts ks) → with_under t ps v ≡ (after_place (λ inner. with_under inner (reverse rest) w) (texts ks) p >>= λ new. Ok (written new))
  under_is w ks same read = sym (under_turned t v ps back rest p is e) ∙ sym (ap (with_under t (p ∷ reverse rest)) same) ∙ ap (under_in p (reverse rest) w) read

  pub under_done : {X : Type 0} (r : Result X Fault) (w new : Text) (ks more : List Kept) → w ≡ v → elements_of t ≡ Ok (texts ks) → Answers (λ (_ : X). texts more) r (after_place (λ inner. with_under inner (reverse rest) w) (texts ks) p)
      → OnOk r (new ≡ written (texts more)) → Leaves new (with_under t ps v) r
  under_done (Ok x) w new ks more same read done is_text = under_is w ks same read ∙ ap (λ m. m >>= λ us. Ok (written us)) done ∙ ap Ok (sym is_text)
  under_done (Err f) w new ks more same read done is_text =
      subst (λ m. Stops f m) (sym (under_is w ks same read)) (stops_then f (after_place (λ inner. with_under inner (reverse rest) w) (texts ks) p) (λ us. Ok (written us)) done)
