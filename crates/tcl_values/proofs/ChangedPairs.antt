-- Pairs of which the value under a key becomes another one.
use Rattle.std.proofs.Common.{◌≡◌, ℕ, zero, suc, ◌<◌, ◌≤◌, false, List, [], ◌∷◌, ◌++◌, length, get_or, slice_set, position, reverse, Option, None, Some, Result, Ok, Err, OnOk, OnErr, refl, sym, subst, ap, ◌∙◌, arith}
use Rattle.std.proofs.lemmas.List.{length-reverse, map-set, reverse-append, reverse-reverse}
use Rattle.std.specs.List.{list_any}
use Rattle.std.specs.Str.{bytes_eq}
use Rattle.tcl_chars.specs.Answers.{Answers, Stops}
use Rattle.tcl_chars.specs.declared.fault.Fault.{Fault}
use Rattle.tcl_pages.specs.Answers.{Answer, ◌>>=◌}
use Rattle.tcl_pages.specs.Dictionaries as dictionaries
use Rattle.tcl_pages.specs.Dictionaries.{put_key, pairs_of}
use Rattle.tcl_pages.specs.DictPages.{dict_set, dict_unset, dictionary, known, or_text, under_key, unknown_key, value_at}
use Rattle.tcl_pages.specs.Texts.{Text}
use Rattle.tcl_values.specs.Changes.{after_at, after_in, after_key, made, made_new, made_under}
use Rattle.tcl_values.specs.Dictionaries.{less_key}
use Rattle.tcl_values.specs.Kept.{Kept, texts, depth_over}
use Rattle.tcl_values.specs.Paired.{zipped}
use Rattle.tcl_values.specs.Shape.{pairs_in, pairs_text, ArePaired}
use Rattle.tcl_values.specs.declared.element.Pairs.{Pairs}
use Rattle.tcl_values.specs.declared.making.Making.{Making}
use Rattle.tcl_values.proofs.Changed.{stops_then, answers_then}
use Rattle.tcl_values.proofs.PairKept.{bare_reads, same_kept}
use Rattle.tcl_values.proofs.PairPlaces.{put_there, put_behind, found_there, found_nowhere}
use Rattle.tcl_values.proofs.PairTexts.{reads_put}

abbrev nothing : Kept
nothing = record { text = []; depth = 0 }

get_again : (ks : List Kept) (i : ℕ) (d : Kept) → i < length ks → get_or ks i d ≡ get_or ks i (get_or ks i d)
get_again [] i d l = absurd (omega arith)
get_again (x ∷ ks) zero d l = refl
get_again (x ∷ ks) (suc i) d l = any ks i d (get_or ks i d) (omega (arith, l))
  where
    any : (qs : List Kept) (n : ℕ) (a b : Kept) → n < length qs → get_or qs n a ≡ get_or qs n b
    any [] n a b l = absurd (omega arith)
    any (q ∷ qs) zero a b l = refl
    any (q ∷ qs) (suc n) a b l = any qs n a b (omega (arith, l))

text_got : (ks : List Kept) (i : ℕ) → (get_or ks i nothing).text ≡ get_or (texts ks) i []
text_got [] i = refl
text_got (x ∷ ks) zero = refl
text_got (x ∷ ks) (suc i) = text_got ks i

both : {A B : Type 0} (r : Answer Text) (f : Text → A) (g : A → B) → (r >>= λ x. Ok (g (f x))) ≡ ((r >>= λ x. Ok (f x)) >>= λ a. Ok (g a))
both (Ok x) f g = refl
both (Err m) f g = refl

abbrev put_in : dictionaries.Pairs → Text → Answer Text → Answer dictionaries.Pairs
put_in ps key r = r >>= λ new. Ok (put_key ps key new)

module _ (k : Text) (js : List Text) (vs : List Kept) (even : length js ≡ length vs) (change : Option Text → Answer Text) where
  abbrev before : dictionaries.Pairs
  before = zipped js (texts vs)

  placed : (i : ℕ) (new : Text) → Some i ≡ position (bytes_eq k) js → put_key before k new ≡ zipped js (slice_set (texts vs) i new)
  placed i new at =
      let v : Kept = record { text = new; depth = 0 } in
      sym (put_there k js vs even v i at) ∙ ap (zipped js) (map-set (λ (q : Kept). q.text) vs i v)

  in_place : (i : ℕ) → Some i ≡ position (bytes_eq k) js → i < length vs → after_in change before k ≡ (after_at (λ t. change (Some t)) (texts vs) i >>= λ ts. Ok (zipped js ts))
  in_place i at l =
      let found : value_at k before ≡ Some (get_or (texts vs) i []) = sym (found_there k js vs even (get_or vs i nothing) i at (get_again vs i nothing l)) ∙ ap Some (text_got vs i) in
      ap (λ o. put_in before k (change o)) found
      ∙ (λ n. change (Some (get_or (texts vs) i [])) >>= λ new. Ok (placed i new at n))
      ∙ both (change (Some (get_or (texts vs) i []))) (λ new. slice_set (texts vs) i new) (zipped js)

  -- the key is there
  pub some_done : {X : Type 0} (r : Result X Fault) (ks : List Text) (ws : List Kept) (i : ℕ) → Some i ≡ position (bytes_eq k) js → i < length vs → ks ≡ js
      → Answers (λ (_ : X). texts ws) r (after_at (λ t. change (Some t)) (texts vs) i) → Answers (λ (_ : X). zipped ks (texts ws)) r (after_in change before k)
  some_done {X} r ks ws i at l same done =
      subst (λ m. Answers (λ (_ : X). zipped ks (texts ws)) r m) (sym (in_place i at l))
      (subst (λ (qs : List Text). Answers (λ (_ : X). zipped qs (texts ws)) r (after_at (λ t. change (Some t)) (texts vs) i >>= λ ts. Ok (zipped js ts))) (sym same)
      (answers_then r (after_at (λ t. change (Some t)) (texts vs) i) (texts ws) (zipped js) done))

  -- the key isn't there
  not_in : list_any (bytes_eq k) js ≡ false → after_in change before k ≡ put_in before k (change None)
  not_in none = ap (λ o. put_in before k (change o)) (sym (found_nowhere k js vs even none))

  pub none_stops : (f : Fault) → list_any (bytes_eq k) js ≡ false → Stops f (change None) → Stops f (after_in change before k)
  none_stops f none e = subst (λ m. Stops f m) (sym (not_in none)) (stops_then f (change None) (λ new. Ok (put_key before k new)) e)

  pub none_done : (key : Text) (v : Kept) (ks : List Text) (ws : List Kept) → list_any (bytes_eq k) js ≡ false → key ≡ k → change None ≡ Ok v.text → ks ≡ js ++ key ∷ [] → ws ≡ vs ++ v ∷ []
      → after_in change before k ≡ Ok (zipped ks (texts ws))
  none_done key v ks ws none is new keys values =
      not_in none ∙ ap (put_in before k) new
      ∙ ap Ok (sym ((λ n. zipped (keys n) (texts (values n))) ∙ put_behind k js vs even key v none is))

err_is_ok : (r : Answer dictionaries.Pairs) (m : Text) (ps : dictionaries.Pairs) → r ≡ Err m → r ≡ Ok ps → ⊥
err_is_ok r m ps e f = cc

ok_is : (r : Answer dictionaries.Pairs) (ps qs : dictionaries.Pairs) → r ≡ Ok ps → r ≡ Ok qs → ps ≡ qs
ok_is r ps qs e f = cc

reads_after : (t : Text) (ps qs : dictionaries.Pairs) (key : Text) (r : Answer Text) → pairs_of t ≡ Ok ps → put_in ps key r ≡ Ok qs → pairs_of (dictionary qs) ≡ Ok qs
reads_after t ps qs key (Ok new) reads e = reads_put t ps qs key new reads (sym (ok_is _ (put_key ps key new) qs refl e))
reads_after t ps qs key (Err m) reads e = absurd (err_is_ok _ m qs refl e)

-- pairs that are kept stand for their text, whether the change is made or refused
pub some_kept : {X : Type 0} (r : Result X Fault) (change : Option Text → Answer Text) (own new : Pairs) (key : Text) → ArePaired own → Answers (λ (_ : X). pairs_in new) r (after_in change (pairs_in own) key) → OnErr r (new.values.items ≡ own.values.items)
    → new.keys.keys ≡ own.keys.keys → OnOk r (new.text ≡ None) → OnErr r (new.text ≡ own.text) → length new.values.items ≡ length own.values.items → new.depth ≤ 64 → depth_over new.values.items ≤ new.depth → ArePaired new
some_kept (Ok x) change own new key kept done same keys bare text size limit deeper = record {
  limit = limit;
  deeper = deeper;
  even = ap length keys ∙ kept.even ∙ sym size;
  reading = bare_reads new bare (reads_after (pairs_text own) (pairs_in own) (pairs_in new) key (change (value_at key (pairs_in own))) kept.reading done);
}
some_kept (Err f) change own new key kept done same keys bare text size limit deeper = (same_kept own new kept limit deeper keys (ap texts same) text).1

-- ---- the value under a key

abbrev changed_in : (Option Text → Answer Text) → Text → Answer dictionaries.Pairs → Answer Text
changed_in change key r = r >>= λ ps. after_in change ps key >>= λ new. Ok (dictionary new)

-- it begins as the empty text
pub key_alike : (f : Text → Answer Text) (g : Option Text → Answer Text) (t key : Text) → ((o : Option Text) → f (or_text [] o) ≡ g o) → under_key t key [] f ≡ after_key g t key
key_alike f g t key h = by (pairs_of t)
  where
    by : (r : Answer dictionaries.Pairs) → (r >>= λ ps. f (or_text [] (value_at key ps)) >>= λ new. Ok (dictionary (put_key ps key new))) ≡ changed_in g key r
    by (Ok ps) = ap (λ m. m >>= λ new. Ok (dictionary (put_key ps key new))) (h (value_at key ps)) ∙ both (g (value_at key ps)) (put_key ps key) dictionary
    by (Err m) = refl

pub made_or : (m : Making) (key : Text) → made_new m key ≡ made m [] → (o : Option Text) → made m (or_text [] o) ≡ made_under m key o
made_or m key e None = sym e
made_or m key e (Some t) = refl

-- it must be there
pub known_or : (m : Making) (key : Text) → made_new m key ≡ Err (unknown_key key) → (o : Option Text) → (known key o >>= made m) ≡ made_under m key o
known_or m key e None = sym e
known_or m key e (Some t) = refl

pub in_turn : (s : Answer Text) (f g : Text → Answer Text) → (s >>= λ x. f x >>= g) ≡ ((s >>= f) >>= g)
in_turn (Ok x) f g = refl
in_turn (Err m) f g = refl

unset_step : (t key : Text) (ks : List Text) (g : Option Text → Answer Text) → 0 < length ks → ((o : Option Text) → (known key o >>= λ i. dict_unset i ks) ≡ g o) → dict_unset t (key ∷ ks) ≡ after_key g t key
unset_step t key [] g l h = absurd (omega (arith, l))
unset_step t key (k ∷ ks) g l h = by (pairs_of t)
  where
    by : (r : Answer dictionaries.Pairs) → (r >>= λ ps. known key (value_at key ps) >>= λ inner. dict_unset inner (k ∷ ks) >>= λ less. Ok (dictionary (put_key ps key less))) ≡ changed_in g key r
    by (Ok ps) =
        in_turn (known key (value_at key ps)) (λ i. dict_unset i (k ∷ ks)) (λ x. Ok (dictionary (put_key ps key x)))
        ∙ ap (λ m. m >>= λ x. Ok (dictionary (put_key ps key x))) (h (value_at key ps)) ∙ both (g (value_at key ps)) (put_key ps key) dictionary
    by (Err m) = refl

-- ---- keys in the reverse order

turned : (keys rest : List Text) (key : Text) → keys ≡ rest ++ key ∷ [] → reverse keys ≡ key ∷ reverse rest
turned keys rest key e = ap reverse e ∙ reverse-append rest (key ∷ [])

back_turned : (keys back rest : List Text) (key : Text) → back ≡ reverse keys → back ≡ rest ++ key ∷ [] → keys ≡ key ∷ reverse rest
back_turned keys back rest key is e = sym (reverse-reverse keys) ∙ ap reverse (sym is) ∙ turned back rest key e

-- the first on the way: dict set
pub set_first : (t v : Text) (ks : List Text) (rest : List Text) (key : Text) (g : Option Text → Answer Text) → ks ≡ key ∷ reverse rest → ((o : Option Text) → dict_set (or_text [] o) v (reverse rest) ≡ g o)
    → dict_set t v ks ≡ after_key g t key
set_first t v ks rest key g e h = ap (λ js. dict_set t v js) e ∙ key_alike (λ old. dict_set old v (reverse rest)) g t key h

pub set_last : (t v : Text) (keys rest : List Text) (key : Text) (g : Option Text → Answer Text) → keys ≡ rest ++ key ∷ [] → ((o : Option Text) → dict_set (or_text [] o) v (reverse rest) ≡ g o)
    → dict_set t v (reverse keys) ≡ after_key g t key
set_last t v keys rest key g e h = set_first t v (reverse keys) rest key g (turned keys rest key e) h

pub set_turned : (t v : Text) (keys back rest : List Text) (key : Text) (g : Option Text → Answer Text) → back ≡ reverse keys → back ≡ rest ++ key ∷ [] → ((o : Option Text) → dict_set (or_text [] o) v (reverse rest) ≡ g o)
    → dict_set t v keys ≡ after_key g t key
set_turned t v keys back rest key g is e h = set_first t v keys rest key g (back_turned keys back rest key is e) h

-- dict unset
unset_first : (t : Text) (ks rest : List Text) (key : Text) (g : Option Text → Answer Text) → ks ≡ key ∷ reverse rest → 0 < length rest → ((o : Option Text) → (known key o >>= λ i. dict_unset i (reverse rest)) ≡ g o)
    → dict_unset t ks ≡ after_key g t key
unset_first t ks rest key g e l h =
    ap (λ js. dict_unset t js) e
    ∙ unset_step t key (reverse rest) g (omega (arith, l, length-reverse rest)) h

unset_only : (t : Text) (ks rest : List Text) (key : Text) → ks ≡ key ∷ reverse rest → length rest ≡ 0 → dict_unset t ks ≡ less_key t key
unset_only t ks [] key e l = ap (λ js. dict_unset t js) e
unset_only t ks (r ∷ rest) key e l = absurd (omega (arith, l))

pub unset_last : (t : Text) (keys rest : List Text) (key : Text) (g : Option Text → Answer Text) → keys ≡ rest ++ key ∷ [] → 0 < length rest → ((o : Option Text) → (known key o >>= λ i. dict_unset i (reverse rest)) ≡ g o)
    → dict_unset t (reverse keys) ≡ after_key g t key
unset_last t keys rest key g e l h = unset_first t (reverse keys) rest key g (turned keys rest key e) l h

pub unset_alone : (t : Text) (keys rest : List Text) (key : Text) → keys ≡ rest ++ key ∷ [] → length rest ≡ 0 → dict_unset t (reverse keys) ≡ less_key t key
unset_alone t keys rest key e l = unset_only t (reverse keys) rest key (turned keys rest key e) l

pub unset_turned : (t : Text) (keys back rest : List Text) (key : Text) (g : Option Text → Answer Text) → back ≡ reverse keys → back ≡ rest ++ key ∷ [] → 0 < length rest
    → ((o : Option Text) → (known key o >>= λ i. dict_unset i (reverse rest)) ≡ g o) → dict_unset t keys ≡ after_key g t key
unset_turned t keys back rest key g is e l h = unset_first t keys rest key g (back_turned keys back rest key is e) l h

pub unset_turned_one : (t : Text) (keys back rest : List Text) (key : Text) → back ≡ reverse keys → back ≡ rest ++ key ∷ [] → length rest ≡ 0 → dict_unset t keys ≡ less_key t key
unset_turned_one t keys back rest key is e l = unset_only t keys rest key (back_turned keys back rest key is e) l
