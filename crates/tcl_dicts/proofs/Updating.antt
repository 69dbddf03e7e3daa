-- A value under a key, changed and put back.
use Rattle.std.proofs.Common.{◌≡◌, Bool, true, false, ◌==◌, ℕ, zero, suc, ◌+◌, ◌-◌, ◌<◌, ◌≤◌, List, [], ◌∷◌, ◌++◌, length, drop, take, Ok, Err, refl, sym, ap, ◌∙◌, arith}
use Rattle.std.proofs.lemmas.List.{append-nil, drop_more, length-take}
use Rattle.std.specs.List.{concat}
use Rattle.std.specs.declared.rc.RcStr.{RcStr}
use Rattle.std.specs.declared.alloc.Global.{Global}
use Rattle.tcl_arguments.specs.WordAt.{word}
use Rattle.tcl_chars.specs.Answers.{Stops}
use Rattle.tcl_chars.specs.Texts.{text_of}
use Rattle.tcl_chars.specs.declared.fault.Fault.{Fault}
use Rattle.tcl_chars.specs.declared.fault.Fault.TheVariants as fault
use Rattle.tcl_list.specs.Elements.{elements_of}
use Rattle.tcl_pages.specs.Answers.{Answer, ◌>>=◌}
use Rattle.tcl_pages.specs.Dictionaries.{Pairs, put_key, pairs_of}
use Rattle.tcl_pages.specs.DictPages.{dictionary, value_at, or_text, value_or, known, inner_of, under_key, dict_lappend, dict_set, dict_unset}
use Rattle.tcl_pages.specs.Lists.{lappend, with_more}
use Rattle.tcl_pages.specs.Texts.{Text}
use Rattle.tcl_pages.specs.Updates.{by_key, dict_append, dict_set_words, text_appended}
use Rattle.tcl_values.proofs.ChangedPairs.{in_turn}
use Rattle.tcl_values.specs.Changes.{after, after_under}
use Rattle.tcl_values.specs.Dictionaries.{less_key, with_key}
use Rattle.tcl_values.specs.declared.change.Change.TheVariants as change
use Rattle.tcl_values.specs.Lists.{count_of, lengthened}
use Rattle.tcl_dicts.proofs.DictWords.{drop_end}
use Rattle.tcl_dicts.specs.Levels.{changed, changed_known, rebuilt}

ok_is : (r : Answer Text) (a b : Text) → r ≡ Ok a → r ≡ Ok b → a ≡ b
ok_is r a b e f = cc

no_err : (r : Answer Text) (m a : Text) → r ≡ Err m → r ≡ Ok a → ⊥
no_err r m a e f = cc

err_is : (r : Answer Text) (a b : Text) → r ≡ Err a → r ≡ Err b → a ≡ b
err_is r a b e f = cc

-- ---- one key

abbrev or_in : Answer Pairs → Text → Text → Answer Text
or_in r first key = r >>= λ ps. Ok (or_text first (value_at key ps))

abbrev put_in : Answer Pairs → Text → Text → Answer Text
put_in r key new = r >>= λ ps. Ok (dictionary (put_key ps key new))

abbrev changed_in : Answer Pairs → Text → Text → (Text → Answer Text) → Answer Text
changed_in r key first change = r >>= λ ps. change (or_text first (value_at key ps)) >>= λ new. Ok (dictionary (put_key ps key new))

changed_none : (r : Answer Pairs) (key first m : Text) (change : Text → Answer Text) → or_in r first key ≡ Err m → changed_in r key first change ≡ Err m
changed_none (Ok ps) key first m change e = absurd (no_err _ m (or_text first (value_at key ps)) e refl)
changed_none (Err n) key first m change e = ap Err (err_is _ n m refl e)

abbrev known_in : Answer Pairs → Text → Answer Text
known_in r key = r >>= λ ps. known key (value_at key ps)

abbrev less_in : Answer Pairs → Text → (Text → Answer Text) → Answer Text
less_in r key f = r >>= λ ps. known key (value_at key ps) >>= λ inner. f inner >>= λ less. Ok (dictionary (put_key ps key less))

changed_is : (r : Answer Pairs) (key first : Text) (change : Text → Answer Text) → changed_in r key first change ≡ ((or_in r first key >>= change) >>= put_in r key)
changed_is (Ok ps) key first change = refl
changed_is (Err m) key first change = refl

under_is : (t key first : Text) (change : Text → Answer Text) → under_key t key first change ≡ changed t key first change
under_is t key first change = changed_is (pairs_of t) key first change

known_is : (r : Answer Pairs) (key : Text) (f : Text → Answer Text) → less_in r key f ≡ ((known_in r key >>= f) >>= put_in r key)
known_is (Ok ps) key f = in_turn (known key (value_at key ps)) f (λ x. Ok (dictionary (put_key ps key x)))
known_is (Err m) key f = refl

pub by_first : (t : Text) (ws : List Text) (change : Text → List Text → Answer Text) → 1 ≤ length ws → by_key t ws change ≡ change (word ws 0) (drop 1 ws)
by_first t [] change l = absurd (omega arith)
by_first t (w ∷ ws) change l = refl

pub by_none : (t : Text) (ws : List Text) (change : Text → List Text → Answer Text) → length ws ≡ 0 → by_key t ws change ≡ Ok t
by_none t [] change l = refl
by_none t (w ∷ ws) change l = absurd (omega arith)

-- ---- keys one below the other

then_put : (s : Answer Text) (h : Text → Text) (g : Text → Answer Text) → (s >>= λ x. g (h x)) ≡ ((s >>= λ x. Ok (h x)) >>= g)
then_put (Ok x) h g = refl
then_put (Err m) h g = refl

set_in : (r : Answer Pairs) (key inner : Text) (f g : Text → Answer Text) → or_in r [] key ≡ Ok inner → (f inner >>= λ x. put_in r key x >>= g) ≡ (changed_in r key [] f >>= g)
set_in (Ok ps) key inner f g e =
    then_put (f inner) (λ x. dictionary (put_key ps key x)) g
    ∙ ap (λ o. (f o >>= λ x. Ok (dictionary (put_key ps key x))) >>= g) (sym (ok_is _ (or_text [] (value_at key ps)) inner refl e))
set_in (Err m) key inner f g e = absurd (no_err _ m inner refl e)

pub set_level : (t v key inner : Text) (ks : List Text) (ls : List (Text × Text)) → value_or [] t key ≡ Ok inner → (dict_set inner v ks >>= rebuilt ((t, key) ∷ ls)) ≡ (dict_set t v (key ∷ ks) >>= rebuilt ls)
set_level t v key inner ks ls e = set_in (pairs_of t) key inner (λ o. dict_set o v ks) (rebuilt ls) e

pub set_stops : (t v key m : Text) (ks : List Text) (ls : List (Text × Text)) → value_or [] t key ≡ Err m → (dict_set t v (key ∷ ks) >>= rebuilt ls) ≡ Err m
set_stops t v key m ks ls e = ap (λ r. r >>= rebuilt ls) (changed_none (pairs_of t) key [] m (λ o. dict_set o v ks) e)

unset_in : (r : Answer Pairs) (key inner : Text) (f g : Text → Answer Text) → known_in r key ≡ Ok inner → (f inner >>= λ x. put_in r key x >>= g) ≡ (less_in r key f >>= g)
unset_in (Ok ps) key inner f g e =
    then_put (f inner) (λ x. dictionary (put_key ps key x)) g
    ∙ sym (ap (λ s. (s >>= λ i. f i >>= λ x. Ok (dictionary (put_key ps key x))) >>= g) e)
unset_in (Err m) key inner f g e = absurd (no_err _ m inner refl e)

unset_no : (r : Answer Pairs) (key m : Text) (f : Text → Answer Text) → known_in r key ≡ Err m → less_in r key f ≡ Err m
unset_no (Ok ps) key m f e = ap (λ s. s >>= λ i. f i >>= λ x. Ok (dictionary (put_key ps key x))) e
unset_no (Err n) key m f e = ap Err (err_is _ n m refl e)

pub unset_level : (t key inner last : Text) (ks : List Text) (ls : List (Text × Text)) → inner_of t key ≡ Ok inner → (dict_unset inner (ks ++ last ∷ []) >>= rebuilt ((t, key) ∷ ls)) ≡ (dict_unset t (key ∷ (ks ++ last ∷ [])) >>= rebuilt ls)
unset_level t key inner last [] ls e = unset_in (pairs_of t) key inner (λ i. dict_unset i (last ∷ [])) (rebuilt ls) e
unset_level t key inner last (k ∷ ks) ls e = unset_in (pairs_of t) key inner (λ i. dict_unset i (k ∷ (ks ++ last ∷ []))) (rebuilt ls) e

pub unset_stops : (t key m last : Text) (ks : List Text) (ls : List (Text × Text)) → inner_of t key ≡ Err m → (dict_unset t (key ∷ (ks ++ last ∷ [])) >>= rebuilt ls) ≡ Err m
unset_stops t key m last [] ls e = ap (λ r. r >>= rebuilt ls) (unset_no (pairs_of t) key m (λ i. dict_unset i (last ∷ [])) e)
unset_stops t key m last (k ∷ ks) ls e = ap (λ r. r >>= rebuilt ls) (unset_no (pairs_of t) key m (λ i. dict_unset i (k ∷ (ks ++ last ∷ []))) e)

-- a key that isn't there is the fault of the whole change
pub unset_faults : (e : Fault) (t key last : Text) (all ks : List Text) (ls : List (Text × Text)) (meant : Answer Text) → all ≡ key ∷ ks → (dict_unset t (all ++ last ∷ []) >>= rebuilt ls) ≡ meant → Stops e (inner_of t key) → Stops e meant
unset_faults (fault.Error m) t key last all ks ls meant first is stops =
    sym is ∙ ap (λ us. dict_unset t (us ++ last ∷ []) >>= rebuilt ls) first ∙ unset_stops t key (text_of m) last ks ls stops
unset_faults fault.Memory t key last all ks ls meant first is stops = tt

-- ---- the words of set and unset

last_word : (ws : List Text) (n : ℕ) → suc n ≡ length ws → ws ≡ take n ws ++ word ws n ∷ []
last_word [] n e = absurd (omega (arith, e))
last_word (w ∷ []) zero e = refl
last_word (w ∷ u ∷ ws) zero e = absurd (omega (arith, e))
last_word (w ∷ ws) (suc n) e = ap (λ ts. w ∷ ts) (last_word ws n (omega (arith, e)))

first_word : (ws : List Text) (n : ℕ) → 1 ≤ n → n < length ws → take n ws ≡ word ws 0 ∷ drop 1 (take n ws)
first_word ws zero l m = absurd (omega (arith, l))
first_word [] (suc n) l m = absurd (omega (arith, m))
first_word (w ∷ ws) (suc n) l m = refl

-- the keys before the last word
pub as_many : (keys ws : List Text) (n : ℕ) → keys ≡ drop 0 (take n ws) → n ≤ 64 → length keys ≤ 64
as_many keys ws n e l = omega (arith, ap length e, length-take n ws, l)

pub unset_by_words : (t : Text) (ws : List Text) (n : ℕ) → 1 ≤ n → n + 1 ≡ length ws → dict_unset t ws ≡ dict_unset t (word ws 0 ∷ (drop 1 (take n ws) ++ word ws n ∷ []))
unset_by_words t ws n l e =
    ap (dict_unset t) (last_word ws n (omega (arith, e)) ∙ ap (λ ts. ts ++ word ws n ∷ []) (first_word ws n l (omega (arith, e))))

-- ---- lists at their end

no_number : (r : Answer ℕ) (m : Text) (n : ℕ) → r ≡ Err m → r ≡ Ok n → ⊥
no_number r m n e f = cc

list_start_in : (r : Answer (List Text)) (t : Text) (n : ℕ) → (r >>= λ es. Ok (length es)) ≡ Ok n → (r >>= λ es. Ok (with_more t es [])) ≡ Ok t
list_start_in (Ok es) t n e = refl
list_start_in (Err m) t n e = absurd (no_number _ m n refl e)

pub list_start : (t : Text) (n : ℕ) → count_of t ≡ Ok n → lappend t [] ≡ Ok t
list_start t n e = list_start_in (elements_of t) t n e

-- ---- whole commands

pub append_is : (t key : Text) (ws us : List Text) → 1 ≤ length ws → key ≡ word ws 0 → us ≡ ws → by_key t ws (dict_append t) ≡ changed t key [] (λ old. Ok (text_appended old (drop 1 us)))
append_is t key ws us l e s =
    by_first t ws (dict_append t) l ∙ under_is t (word ws 0) [] (λ old. Ok (text_appended old (drop 1 ws)))
    ∙ (λ n. changed t (sym e n) [] (λ old. Ok (text_appended old (drop 1 (sym s n)))))

pub lappend_is : (t key : Text) (ws us : List Text) → 1 ≤ length ws → key ≡ word ws 0 → us ≡ ws → by_key t ws (dict_lappend t) ≡ changed t key [] (λ old. lappend old (drop 1 us))
lappend_is t key ws us l e s =
    by_first t ws (dict_lappend t) l ∙ under_is t (word ws 0) [] (λ old. lappend old (drop 1 ws))
    ∙ (λ n. changed t (sym e n) [] (λ old. lappend old (drop 1 (sym s n))))

known_two : (t key last : Text) (keys : List Text) → dict_unset t (key ∷ (keys ++ last ∷ [])) ≡ changed_known t key (λ old. dict_unset old (keys ++ last ∷ []))
known_two t key last [] = known_is (pairs_of t) key (λ old. dict_unset old (last ∷ []))
known_two t key last (k ∷ ks) = known_is (pairs_of t) key (λ old. dict_unset old (k ∷ (ks ++ last ∷ [])))

pub unset_is : (t key last : Text) (ws us keys : List Text) (n : ℕ) → 1 ≤ n → n + 1 ≡ length ws → us ≡ ws → last ≡ word ws n → key ≡ word ws 0 → keys ≡ drop 1 (take n us)
    → dict_unset t ws ≡ changed_known t key (λ old. dict_unset old (keys ++ last ∷ []))
unset_is t key last ws us keys n l e s el ek es =
    unset_by_words t ws n l e ∙ known_two t (word ws 0) (word ws n) (drop 1 (take n ws))
    ∙ (λ i. changed_known t (sym ek i) (λ old. dict_unset old (sym (es ∙ ap (λ ts. drop 1 (take n ts)) s) i ++ sym el i ∷ [])))

pub set_one : (t key new : Text) (ws : List Text) → length ws ≡ 2 → key ≡ word ws 0 → new ≡ word ws 1 → dict_set_words t ws ≡ with_key t key new
set_one t key new (w ∷ u ∷ []) l e en = λ i. with_key t (sym e i) (sym en i)
set_one t key new [] l e en = absurd (omega arith)
set_one t key new (w ∷ []) l e en = absurd (omega arith)
set_one t key new (w ∷ u ∷ x ∷ ws) l e en = absurd (omega arith)

pub unset_one : (t last : Text) (ws : List Text) → length ws ≡ 1 → last ≡ word ws 0 → dict_unset t ws ≡ less_key t last
unset_one t last [] l e = absurd (omega arith)
unset_one t last (w ∷ []) l e = ap (less_key t) (sym e)
unset_one t last (w ∷ u ∷ ws) l e = absurd (omega arith)

-- ---- a value under a key, to which more comes

-- one word is what it is joined to
pub one_joined : (ws : List Text) (first : ℕ) → length ws - first ≡ 1 → word ws first ≡ text_appended [] (drop first ws)
one_joined ws first l =
    sym (append-nil (word ws first)) ∙ sym (ap concat (drop_more ws first [] (omega (arith, l)) ∙ ap (λ us. word ws first ∷ us) (drop_end ws (first + 1) (omega (arith, l)))))

-- words behind a value: dict append
pub append_one : (t key : Text) (s : RcStr Global) (ws : List Text) → text_of s ≡ text_appended [] ws → after_under (change.Text s) t key ≡ changed t key [] (λ old. Ok (text_appended old ws))
append_one t key s ws e = under_is t key [] (after (change.Text s)) ∙ (λ i. changed t key [] (λ old. Ok (ap (λ u. old ++ u) e i)))

pub some_there : (n : ℕ) (b : Bool) → b ≡ (n == 0) → b ≡ false → 0 < n
some_there zero b e f = let t : b ≡ true = e in cc
some_there (suc n) b e f = omega arith

-- elements behind the others: dict lappend
pub lappend_all : (t key : Text) (xs ws : List Text) → xs ≡ ws → 0 < length ws → under_key t key [] (λ old. lengthened old xs) ≡ changed t key [] (λ old. lappend old ws)
lappend_all t key xs [] e l = absurd (omega (arith, l))
lappend_all t key xs (w ∷ ws) e l = under_is t key [] (λ old. lengthened old xs) ∙ (λ i. changed t key [] (λ old. lengthened old (e i)))
